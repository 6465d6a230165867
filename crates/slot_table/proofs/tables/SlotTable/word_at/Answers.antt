use Rattle.std.proofs.Common.{◌^◌, ◌∙◌, [], None, ap, slice_index_or}
use Rattle.slot_table.specs.History.{content_of}
use Rattle.slot_table.proofs.Contents.{tells_at}
use Rattle.slot_table.proofs.Later.{pass_later}
use Rattle.slot_table.proofs.tables.SlotTable.word_at.Goals as goal

pub returns-clause-later : goal.returns-clause-later
returns-clause-later g c =
    let seat = c.pass.inside.seat
    in let after = c.word_at.new.seat
    in let called = c.word_at.ensures.seen
    in pass_later (2 ^ g.O.ProbeOrder.exponent c.self.inside.words.shared.key) c.args.self.now.slots seat.table_id after.table_id seat.me.0 after.me.0
    c.args.pass.now called.0 ([]) (ap (λ o. 2 ^ g.O.ProbeOrder.exponent o) c.self.invariant.0 ∙ ap (λ t. t.slots) c.self.view_is) c.pass.view_is c.requires.pass.rises called.1

pub returns-clause-told : goal.returns-clause-told
returns-clause-told g c =
    let slots = ap (λ o. 2 ^ g.O.ProbeOrder.exponent o) c.self.invariant.0 ∙ ap (λ t. t.slots) c.self.view_is
    in tells_at c.args.self.now.slots c.word_at.new.seat.me.0.seen c.args.number c.word_at.result c.requires.number
    (c.word_at.ensures.key ∙ ap (λ n. slice_index_or (content_of n c.word_at.new.seat.me.0.seen) c.args.number None) slots)

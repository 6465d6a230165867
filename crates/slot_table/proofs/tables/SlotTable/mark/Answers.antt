use Rattle.std.proofs.Common.{◌^◌, ◌∙◌, ◌∷◌, [], ap}
use Rattle.slot_table.specs.declared.entries.Happened.TheVariants as entry
use Rattle.slot_table.proofs.Later.{pass_later}
use Rattle.slot_table.proofs.tables.SlotTable.mark.Goals as goal

pub returns-clause-later : goal.returns-clause-later
returns-clause-later g c =
    let seat = c.pass.inside.seat
    in let after = c.mark.new.seat
    in let called = c.mark.ensures.called
    in pass_later (2 ^ g.O.ProbeOrder.exponent c.self.inside.words.shared.key) c.args.self.now.slots seat.table_id after.table_id seat.me.0 after.me.0
    c.args.pass.now called.0 (entry.Marked c.args.number c.args.game ∷ []) (ap (λ o. 2 ^ g.O.ProbeOrder.exponent o) c.self.invariant.0 ∙ ap (λ t. t.slots) c.self.view_is) c.pass.view_is c.requires.pass.rises called.1

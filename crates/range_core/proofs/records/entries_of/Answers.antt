use Rattle.std.proofs.Common.{List, [], ◌∷◌, ◌++◌, map, take, ap, sym, ◌∙◌, arith}
use Rattle.std.proofs.lemmas.List.{take_all}
use Rattle.shape_dict.specs.declared.entries.Entry.{Entry}
use Rattle.range_core.specs.declared.records.Record.{Record}
use Rattle.range_core.specs.Inner.Records.{entry_of}
use Rattle.range_core.proofs.Recorded.{records_next}
use Rattle.range_core.proofs.records.entries_of.Goals as goal

pub loop-one-preserved : goal.loop-one-preserved
loop-one-preserved c =
    let records = c.args.records.now in
    let i = c.loop-one.one-index in
    let xs = map entry_of (take i records) in
    c.in_ok-push.ensures.items
    ∙ ap (λ (l : List Entry). l ++ c.unpacked.result ∷ []) c.loop-one.invariant
    ∙ ap (λ (e : Entry). xs ++ e ∷ []) c.unpacked.ensures
    ∙ sym (records_next records i c.one-item.result c.loop-one-test.true c.one-item.is)

pub returns : goal.returns
returns c =
    let records = c.args.records.now in
    c.loop-one.invariant
    ∙ ap (λ (l : List Record). map entry_of l) (take_all c.loop-one.one-index records (omega (arith, c.loop-one-test.false)))

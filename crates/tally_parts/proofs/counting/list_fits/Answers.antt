use Rattle.std.proofs.Common.{List, subst, arith}
use Rattle.std.specs.List.{All}
use Rattle.std.proofs.lemmas.List.{take_all}
use Rattle.std.proofs.lemmas.List.Elements.{All-more}
use Rattle.shape_dict.specs.declared.entries.Entry.{Entry}
use Rattle.tally_parts.proofs.Small.{IsSmallUse}
use Rattle.tally_parts.proofs.counting.list_fits.Goals as goal

pub loop-entry-preserved : goal.loop-entry-preserved
loop-entry-preserved c =
    let one : IsSmallUse c.entry-item.result = c.counts_fit.ensures in
    All-more IsSmallUse c.args.entries.now c.loop-entry.entry-index c.entry-item.result (omega arith) c.loop-entry.invariant
    (subst IsSmallUse c.entry-item.is one)

pub returns : goal.returns
returns c =
    subst (λ (xs : List Entry). All IsSmallUse xs) (take_all c.loop-entry.entry-index c.args.entries.now (omega arith)) c.loop-entry.invariant

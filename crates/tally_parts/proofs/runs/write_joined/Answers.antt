use Rattle.std.proofs.Common.{ℕ, List, subst}
use Rattle.std.specs.Io.KnownBytes.{Appends}
use Rattle.tally_parts.specs.Parts.{kinds_for}
use Rattle.tally_parts.proofs.Joined.{merged_parts, HasSum}
use Rattle.tally_parts.proofs.Fronts.{merge_cut}
use Rattle.tally_parts.proofs.runs.write_joined.Goals as goal

pub returns-in-Ok-clause-done : goal.returns-in-Ok-clause-done
returns-in-Ok-clause-done g c = λ texts inputs kept i many.
    let sum : HasSum = c.dictionaries_join.ensures.dictionary in
    let done = c.in-Ok.ensures.done inputs i many in
    let m = done.1 in
    let is = merged_parts c.texts_are_distinct.ensures c.games_come_together.ensures.both sum (kinds_for c.args.plan.text) texts inputs _ _ m.sum kept i many m.merged in
    (m.sum, is, subst (λ (x : List ℕ). Appends (g.W.Write.contents c.args.writer.now) (g.W.Write.contents c.run_merge.new.writer) x) m.printed done.2)

pub returns-in-Err-clause-fault : goal.returns-in-Err-clause-fault
returns-in-Err-clause-fault g c = λ texts inputs kept i many.
    let sum : HasSum = c.dictionaries_join.ensures.dictionary in
    merge_cut c.args.plan.text texts _ inputs _ _ c.in-Err.fault
    (λ text m.
    (m.sum, merged_parts c.texts_are_distinct.ensures c.games_come_together.ensures.both sum (kinds_for c.args.plan.text) texts inputs _ _ m.sum kept i many m.merged, m.printed))
    (c.in-Err.ensures.fault inputs i many) c.in-Err.ensures.took

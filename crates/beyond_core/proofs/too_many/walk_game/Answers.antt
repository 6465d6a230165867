use Rattle.std.proofs.Common.{length, ap, arith}
use Rattle.sgf_core.specs.Tree.{main_line_of}
use Rattle.tally_core.proofs.HandedOn.{passed_up, walk_fault}
use Rattle.harvest_faults.specs.Faults.{same_fault}
use Rattle.beyond_core.specs.Refused.{IsCountRefused}
use Rattle.beyond_core.proofs.TooMany.{count_refused}
use Rattle.beyond_core.proofs.too_many.walk_game.Goals as goal

pub returns-in_err-walk-clause-fault : goal.returns-in_err-walk-clause-fault
returns-in_err-walk-clause-fault c =
    let bytes = c.args.bytes.now in
    let job = c.in_ok-job.job in
    let found = c.in_err-walk.field-0.0 in
    let is = c.record.ensures.game in
    let few = c.few_actions.ensures (main_line_of is.tree) job.actions is.is_go in
    let values = c.few_values.ensures _ _ _ _ is.tree is.next in
    let in_input = is.next.in_input in
    let same = ap length c.in_ok-job.ensures.job.0 in
    let small = c.requires.all.small in
    passed_up c.from_residual-in_err-walk.result (same_fault found) (IsCountRefused bytes) c.from_residual-in_err-walk.ensures.1
    (count_refused bytes found
    (walk_fault bytes job.actions found (omega (arith, few, values, in_input, same, small)) (rw c.record.ensures.value at c.in_err-walk.ensures.fault)))

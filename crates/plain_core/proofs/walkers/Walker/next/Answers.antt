use Rattle.std.proofs.Common.{◌≡◌, ◌∙◌, ◌++◌, IfSome, subst, ap, length, arith}
use Rattle.sgf_core.specs.Tree.{main_line_of}
use Rattle.game_core.specs.Reading.{IsNextGame}
use Rattle.tally_core.specs.Counted.{IsCountFault}
use Rattle.tally_core.proofs.HandedOn.{passed_up, walk_fault}
use Rattle.plain_core.proofs.walkers.Walker.next.Goals as goal

pub returns-in_err-moves-clause-fault : goal.returns-in_err-moves-clause-fault
returns-in_err-moves-clause-fault c =
    let bytes = c.args.self.now.games.bytes in
    let job = c.in-Some.job in
    let found = c.in_err-moves.field-0.0 in
    let is = c.record.ensures.game in
    let few = c.few_actions.ensures (main_line_of is.tree) job.actions is.is_go in
    let values = c.few_values.ensures _ _ _ _ is.tree is.next in
    let in_input = is.next.in_input in
    let next = subst (λ f. IfSome f (IsNextGame c.args.self.now.games c.next_job.new.self)) c.in-Some.is c.in_ok-job.ensures.job in
    let same = ap length next.bytes in
    passed_up c.from_residual-in_err-moves.result found (IsCountFault bytes) c.from_residual-in_err-moves.ensures.1
    (walk_fault bytes job.actions found (omega (arith, few, values, in_input, same, c.requires.small)) (rw c.record.ensures.value at c.in_err-moves.ensures.fault))

pub returns-clause-walked : goal.returns-clause-walked
returns-clause-walked c =
    let job = c.in-Some.job in
    let is = c.record.ensures.game in
    let few = c.few_actions.ensures (main_line_of is.tree) job.actions is.is_go in
    let values = c.few_values.ensures _ _ _ _ is.tree is.next in
    let walk = c.in_ok-moves.ensures in
    let items : c.extend_from_slice.new.self.items ≡ c.walk.new.self.meetings =
    c.in_ok-extend_from_slice.ensures.items ∙ ap (λ list. list ++ c.meetings.result.now) c.new-meetings.ensures.items ∙ c.meetings.ensures in
    record {
      next = subst (λ f. IfSome f (IsNextGame c.args.self.now.games c.next_job.new.self)) c.in-Some.is c.in_ok-job.ensures.job;
      is = record {
        game = is;
        walk = rw items (rw c.record.ensures.value at walk.walked);
        among = rw items walk.among;
        small = rw items (rw c.record.ensures.value at walk.small);
        few = rw c.record.ensures.value at walk.few;
        fits = omega (arith, few, values);
        in_input = is.next.in_input;
      };
    }

use Rattle.std.proofs.Common.{◌++◌, ◌∷◌, [], List, ap, refl, subst, ◌∙◌, arith}
use Rattle.std.proofs.lemmas.Result.{err_from_is_err_and}
use Rattle.sgf_core.specs.Inner.Turns.{IsTurn}
use Rattle.sgf_core.specs.declared.marks.Mark.{Mark}
use Rattle.sgf_core.specs.declared.marks.Mark.TheVariants as mark
use Rattle.sgf_core.proofs.Readers.{may_answer}
use Rattle.sgf_core.proofs.Progress.{is_fault, begins_at, goes_to_any, goes_to_node, goes_to_tree, goes_to_end, kept_pushed, mark_stays, mark_opens, mark_closes, front_begun}
use Rattle.sgf_core.proofs.parse.read_tree.Goals as goal
use Rattle.sgf_core.proofs.parse.read_tree.Goals.{in-Stays, in-Opens, in-Closes+else-depth-eq0}

pub loop-marks-init : goal.loop-marks-init
loop-marks-init c = record {
  all = mark.Begin ∷ [];
  front = front_begun c.args.bytes.now c.args.at (begins_at c.args.bytes.now c.args.at c.requires.begins).0;
  same = λ kept. (c.keep_mark-kept.ensures kept).1 ∙ ap (λ (ms : List Mark). ms ++ mark.Begin ∷ []) c.new-marks.ensures.items;
}

pub returns-in_err-mark-clause-fault : goal.returns-in_err-mark-clause-fault
returns-in_err-mark-clause-fault c =
    let p = err_from_is_err_and c.from_residual.result c.from_residual.ensures.1 in
    let l = c.loop-marks in
    let found = c.in_err-mark.field-0.0 in
    rw (p.1, p.2) (λ from first. may_answer c.args.bytes.now from found
    (is_fault c.args.bytes.now from c.args.at l.place l.invariant.all l.expects l.depth (begins_at c.args.bytes.now c.args.at c.requires.begins).1 first l.invariant.front found c.in_err-mark.ensures.fault))

pub invariant_of-result : goal.invariant_of-result
invariant_of-result c =
    let l = c.loop-marks in
    let read = c.in_ok-mark.ensures.read in
    let closes = mark_closes read.0 (subst (IsTurn read.0) c.in-Closes.is (c.turn_of.ensures read.0 read.2)) in
    let p = c.keep_mark.ensures c.if-keep_mark.true in
    let pushed = kept_pushed c.in_ok-mark.mark read.0 c.keep_mark.new.marks.items l.marks.items l.invariant.all read.2 p.1 (l.invariant.same p.0) in
    let found = goes_to_end c.args.bytes.now c.args.at l.place c.in_ok-mark.end l.invariant.all c.keep_mark.new.marks.items l.expects l.depth read.0 l.invariant.front read.1 pushed
    (begins_at c.args.bytes.now c.args.at c.requires.begins).1 closes c.if-depth-eq0.true in
    record { bounds = omega (arith, l.invariant.front.after, read.1.forward); tree = found.0; complete = found.1.complete; marks = found.2 }

pub returns-then-keep_mark-clause-tree : goal.returns-then-keep_mark-clause-tree
returns-then-keep_mark-clause-tree c =
    let l = c.loop-marks in
    let read = c.in_ok-mark.ensures.read in
    let closes = mark_closes read.0 (subst (IsTurn read.0) c.in-Closes.is (c.turn_of.ensures read.0 read.2)) in
    let p = c.keep_mark.ensures c.if-keep_mark.true in
    let pushed = kept_pushed c.in_ok-mark.mark read.0 c.keep_mark.new.marks.items l.marks.items l.invariant.all read.2 p.1 (l.invariant.same p.0) in
    goes_to_end c.args.bytes.now c.args.at l.place c.in_ok-mark.end l.invariant.all c.keep_mark.new.marks.items l.expects l.depth read.0 l.invariant.front read.1 pushed
    (begins_at c.args.bytes.now c.args.at c.requires.begins).1 closes c.if-depth-eq0.true

pub returns-then-depth-eq0-clause-fault : goal.returns-then-depth-eq0-clause-fault
returns-then-depth-eq0-clause-fault c from first =
    let l = c.loop-marks in
    let read = c.in_ok-mark.ensures.read in
    let closes = mark_closes read.0 (subst (IsTurn read.0) c.in-Closes.is (c.turn_of.ensures read.0 read.2)) in
    let found = goes_to_end c.args.bytes.now c.args.at l.place c.in_ok-mark.end l.invariant.all (l.invariant.all ++ read.0 ∷ []) l.expects l.depth read.0 l.invariant.front read.1 refl
    (begins_at c.args.bytes.now c.args.at c.requires.begins).1 closes c.if-depth-eq0.true in (
      c.args.at,
      c.in_ok-mark.end,
      found.0,
      record {
        first = first;
        before_end = omega (arith, l.invariant.front.after, read.1.forward);
        in_input = read.1.in_input;
        writes = found.1;
      },
    )

pub loop-marks-preserved : goal.loop-marks-preserved
loop-marks-preserved c =
    let l = c.loop-marks in
    let bytes = c.args.bytes.now in
    let found = c.in_ok-mark in
    let read = found.ensures.read in
    let all = l.invariant.all ++ read.0 ∷ [] in
    let next = c.match-turn_of in
    record {
      all = all;
      front = elim c.match-turn_of.branch [
        | in-Stays w ↦ goes_to_any bytes c.args.at l.place found.end l.invariant.all all l.expects l.depth read.0 l.invariant.front read.1 refl next.expects next.depth
            (mark_stays read.0 (subst (IsTurn read.0) w.in-Stays.is (c.turn_of.ensures read.0 read.2))) w.expects-is w.depth-is
        | in-Opens w ↦ goes_to_node bytes c.args.at l.place found.end l.invariant.all all l.expects l.depth read.0 l.invariant.front read.1 refl next.expects next.depth
            (mark_opens read.0 (subst (IsTurn read.0) w.in-Opens.is (c.turn_of.ensures read.0 read.2))) w.expects-is w.depth-is
        | in-Closes+else-depth-eq0 w ↦ goes_to_tree bytes c.args.at l.place found.end l.invariant.all all l.expects l.depth read.0 l.invariant.front read.1 refl next.expects next.depth
            (mark_closes read.0 (subst (IsTurn read.0) w.in-Closes.is (c.turn_of.ensures read.0 read.2))) w.expects-is (omega arith)
      ];
      same = λ kept.
          let p = c.keep_mark-kept-in-loop-marks.ensures kept in
          kept_pushed found.mark read.0 c.keep_mark-kept-in-loop-marks.new.marks.items l.marks.items l.invariant.all read.2 p.1 (l.invariant.same p.0);
    }

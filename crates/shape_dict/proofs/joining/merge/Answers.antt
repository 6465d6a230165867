use Rattle.std.proofs.Common.{◌≡◌, ◌++◌, ◌∙◌, sym, ap, inl, inr, arith, drop, append_assoc, length, ◌≤◌, ◌⊎◌, map, List}
use Rattle.std.proofs.lemmas.Grind.{common_steps}
use Rattle.std.proofs.lemmas.List.{take_rest}
use Rattle.std.proofs.lemmas.Result.{err_from_is_err_and}
use Rattle.std.proofs.lemmas.List.Elements.{All-push}
use Rattle.shape_dict.specs.declared.entries.Entry.{Entry}
use Rattle.shape_dict.specs.Merging.{moved_entry}
use Rattle.shape_dict.specs.Inner.Merging.{merged}
use Rattle.shape_dict.proofs.Climbing.{found_here}
use Rattle.shape_dict.proofs.Joined.{join_both, join_end}
use Rattle.shape_dict.proofs.joining.merge.Goals as goal
use Rattle.shape_dict.proofs.joining.merge.Goals.{then-loop-of_left-test+else-of_right-right, else-loop-of_left-test}

pub returns-in_err-summed-clause-err : goal.returns-in_err-summed-clause-err
returns-in_err-summed-clause-err c =
    let p = err_from_is_err_and c.from_residual-in_err-summed.result c.from_residual-in_err-summed.ensures.1 in
    let mine = c.index-left-of_left.result in
    let other = c.index-right-of_right.result in
    let same : mine.shape ≡ other.shape = omega arith in
    rw (p.1, p.2) (inr (
      c.in_err-summed.ensures.err.0,
      record {
        shape = mine.shape;
        of_left = mine;
        of_right = other;
        in_left = found_here c.args.left.now c.loop-of_left.of_left mine c.requires.left_rises (omega arith) c.index-left-of_left.is;
        in_right = rw same (found_here c.args.right.now c.loop-of_left.of_right other c.requires.right_rises (omega arith) c.index-right-of_right.is);
        large = c.in_err-summed.ensures.err.1;
      },
    ))

pub loop-of_left-preserved : goal.loop-of_left-preserved
loop-of_left-preserved c =
    let mine = c.index-left-of_left.result in
    let other = c.index-right-of_right.result in
    let step = join_both c.args.games c.args.left.now c.args.right.now c.loop-of_left.of_left c.loop-of_left.of_right mine other (omega arith) (omega arith) c.index-left-of_left.is c.index-right-of_right.is (omega arith) in
    let one = c.in_ok-summed.ensures.ok in
    record {
      in_left = omega arith;
      in_right = omega arith;
      left = grind (arith, common_steps, append_assoc);
      small = grind (arith, common_steps, All-push);
    }

ended : (both kept : List Entry) (whole left right tail : List Entry) → both ++ whole ≡ left → whole ≡ kept ++ tail → right ≡ (both ++ kept) ++ tail → right ≡ left
ended both kept whole left right tail h k m = m ∙ (append_assoc both kept tail ∙ (ap (λ x. both ++ x) (sym k) ∙ h))

pub returns-clause-ok : goal.returns-clause-ok
returns-clause-ok c =
    let i = c.loop-of_left.of_left in
    let j = c.loop-of_left.of_right in
    let l = c.args.left.now in
    let r = c.args.right.now in
    let out : (length l ≤ i) ⊎ (length r ≤ j) = elim c.loop-of_left-test.branch [ then-loop-of_left-test+else-of_right-right w ↦ inr (omega arith) | else-loop-of_left-test w ↦ inl (omega arith) ] in
    let a = c.in_ok-push_moved.ensures.ok in
    let b = c.in_ok-push_kept.ensures.ok in
    let t = take_rest l i in
    let u = take_rest r j in
    let end = join_end c.args.games l r i j out in
    ended c.loop-of_left.both.items (drop i l) (merged c.args.games (drop i l) (drop j r)) (merged c.args.games l r) c.push_moved.new.entries.items (map (moved_entry c.args.games) (drop j r)) c.loop-of_left.invariant.left end (cc (a, b, t, u))

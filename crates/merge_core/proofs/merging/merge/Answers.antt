use Rattle.std.proofs.Common.{◌≡◌, ◌++◌, ◌∙◌, sym, ap, inl, inr, arith, drop, append_assoc, length, ◌≤◌, ◌⊎◌, map, List}
use Rattle.std.proofs.lemmas.List.{take_rest}
use Rattle.shape_dict.specs.declared.entries.Entry.{Entry}
use Rattle.shape_dict.specs.Merging.{moved_entry}
use Rattle.shape_dict.specs.Inner.Merging.{merged}
use Rattle.shape_dict.proofs.Joined.{join_end}
use Rattle.merge_core.proofs.merging.merge.Goals as goal
use Rattle.merge_core.proofs.merging.merge.Goals.{then-loop-of_left-test+else-of_right-right, else-loop-of_left-test}

ended : (both kept : List Entry) (whole left right tail : List Entry) → both ++ whole ≡ left → whole ≡ kept ++ tail → right ≡ (both ++ kept) ++ tail → right ≡ left
ended both kept whole left right tail h k m = m ∙ (append_assoc both kept tail ∙ (ap (λ x. both ++ x) (sym k) ∙ h))

pub returns : goal.returns
returns c =
    let i = c.loop-of_left.of_left in
    let j = c.loop-of_left.of_right in
    let l = c.args.left.now in
    let r = c.args.right.now in
    let out : (length l ≤ i) ⊎ (length r ≤ j) = elim c.loop-of_left-test.branch [ then-loop-of_left-test+else-of_right-right w ↦ inr (omega arith) | else-loop-of_left-test w ↦ inl (omega arith) ] in
    let a = c.in_ok-push_moved.ensures.ok in
    let b = c.in_ok-push_kept.ensures.ok in
    let t = take_rest l i in
    let u = take_rest r j in
    let end = join_end c.args.games l r i j out in
    record { ok = ended c.loop-of_left.both.items (drop i l) (merged c.args.games (drop i l) (drop j r)) (merged c.args.games l r) c.push_moved.new.entries.items (map (moved_entry c.args.games) (drop j r)) c.loop-of_left.invariant.left end (cc (a, b, t, u)) }

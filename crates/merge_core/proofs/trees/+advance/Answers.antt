use Rattle.std.proofs.Common.{subst, sym, List, [], ◌∷◌}
use Rattle.shape_dict.specs.declared.entries.Entry.{Entry as One}
use Rattle.merge_core.specs.Entries.{IsNextFault, WasNext}
use Rattle.merge_core.specs.Inner.Trees.{Yields}
use Rattle.merge_core.proofs.Unmerged.{left_fault, right_fault}
use Rattle.shape_dict.specs.Merging.{moved_entry, summed_entry}
use Rattle.merge_core.proofs.Came.{none_came, left_came, right_came, both_came, told_came}
use Rattle.merge_core.proofs.trees.+advance.Goals as goal

pub returns-in-Err-advance-clause-next : goal.returns-in-Err-advance-clause-next
returns-in-Err-advance-clause-next g t c = λ entries y.
    left_fault (Yields g.E.Entries.yields c.in-Node.left.value) (Yields g.E.Entries.yields c.in-Node.right.value) c.in-Node.heads c.in-Left.entry entries c.in-Err-advance.fault
    (subst (λ x. Yields g.E.Entries.yields x entries) c.in-Node.is y) c.in-Left.ensures.0
    (subst (λ x. (es : List One) → Yields g.E.Entries.yields x es → IsNextFault es c.in-Err-advance.fault) c.deref_mut.ensures.value c.in-Err-advance.ensures.next)

pub returns-in-Err-advance-2-clause-next : goal.returns-in-Err-advance-2-clause-next
returns-in-Err-advance-2-clause-next g t c = λ entries y.
    right_fault (Yields g.E.Entries.yields c.in-Node.left.value) (Yields g.E.Entries.yields c.in-Node.right.value) c.in-Node.heads c.in-Right.entry entries c.in-Err-advance-2.fault
    (subst (λ x. Yields g.E.Entries.yields x entries) c.in-Node.is y) c.in-Right.ensures.0
    (subst (λ x. (es : List One) → Yields g.E.Entries.yields x es → IsNextFault es c.in-Err-advance-2.fault) c.deref_mut-in-Right.ensures.value c.in-Err-advance-2.ensures.next)

pub returns-in-Err-advance-3-clause-next : goal.returns-in-Err-advance-3-clause-next
returns-in-Err-advance-3-clause-next g t c = λ entries y.
    left_fault (Yields g.E.Entries.yields c.in-Node.left.value) (Yields g.E.Entries.yields c.in-Node.right.value) c.in-Node.heads c.in-Both.mine entries c.in-Err-advance-3.fault
    (subst (λ x. Yields g.E.Entries.yields x entries) c.in-Node.is y) c.in-Both.ensures.0
    (subst (λ x. (es : List One) → Yields g.E.Entries.yields x es → IsNextFault es c.in-Err-advance-3.fault) c.deref_mut-in-Both.ensures.value c.in-Err-advance-3.ensures.next)

pub returns-in-Err-advance-4-clause-next : goal.returns-in-Err-advance-4-clause-next
returns-in-Err-advance-4-clause-next g t c = λ entries y.
    right_fault (Yields g.E.Entries.yields c.in-Node.left.value) (Yields g.E.Entries.yields c.in-Node.right.value) c.in-Node.heads c.in-Both.other entries c.in-Err-advance-4.fault
    (subst (λ x. Yields g.E.Entries.yields x entries) c.in-Node.is y) c.in-Both.ensures.1
    (subst (λ x. (es : List One) → Yields g.E.Entries.yields x es → IsNextFault es c.in-Err-advance-4.fault) c.deref_mut-in-Both-2.ensures.value c.in-Err-advance-4.ensures.next)

pub returns-in-Neither-clause-came : goal.returns-in-Neither-clause-came
returns-in-Neither-clause-came g t c =
    let Came = Yields g.E.Entries.came in
    subst (λ x. Came x []) (sym c.in-Node.is) (none_came (Came c.in-Node.left.value) (Came c.in-Node.right.value) c.in-Node.heads c.in-Neither.ensures.0 c.in-Neither.ensures.1)

pub returns-in-Ok-advance-clause-came : goal.returns-in-Ok-advance-clause-came
returns-in-Ok-advance-clause-came g t c = λ others p.
    let Came = Yields g.E.Entries.came in
    let was = subst (λ x. WasNext (Came x) (Came c.advance.new.tree) c.advance.new.next) c.deref_mut.ensures.value c.in-Ok-advance.ensures.came in
    subst (λ x. Came x (c.in-Left.entry ∷ others)) (sym c.in-Node.is)
    (left_came (Came c.in-Node.left.value) (Came c.advance.new.tree) (Came c.in-Node.right.value) c.in-Node.heads c.in-Left.entry c.advance.new.next others c.in-Left.ensures.0 c.in-Left.ensures.1 was p)

pub returns-in-Ok-moved-clause-came : goal.returns-in-Ok-moved-clause-came
returns-in-Ok-moved-clause-came g t c =
    let Came = Yields g.E.Entries.came in
    let was = subst (λ x. WasNext (Came x) (Came c.advance-in-Right.new.tree) c.advance-in-Right.new.next) c.deref_mut-in-Right.ensures.value c.in-Ok-advance-2.ensures.came in
    told_came c.in-Ok-moved.entry (moved_entry c.in-Node.heads.games c.in-Right.entry) (Came c.args.tree.now) _ c.in-Ok-moved.ensures.ok (λ others p.
    subst (λ x. Came x (moved_entry c.in-Node.heads.games c.in-Right.entry ∷ others)) (sym c.in-Node.is)
    (right_came (Came c.in-Node.left.value) (Came c.in-Node.right.value) (Came c.advance-in-Right.new.tree) c.in-Node.heads c.in-Right.entry c.advance-in-Right.new.next others c.in-Right.ensures.0 c.in-Right.ensures.1 was p))

pub returns-in-Ok-summed-clause-came : goal.returns-in-Ok-summed-clause-came
returns-in-Ok-summed-clause-came g t c =
    let Came = Yields g.E.Entries.came in
    let one = subst (λ x. WasNext (Came x) (Came c.advance-in-Both.new.tree) c.advance-in-Both.new.next) c.deref_mut-in-Both.ensures.value c.in-Ok-advance-3.ensures.came in
    let two = subst (λ x. WasNext (Came x) (Came c.advance-in-Both-2.new.tree) c.advance-in-Both-2.new.next) c.deref_mut-in-Both-2.ensures.value c.in-Ok-advance-4.ensures.came in
    told_came c.in-Ok-summed.entry (summed_entry c.in-Both.mine c.in-Both.other) (Came c.args.tree.now) _ c.in-Ok-summed.ensures.ok (λ others p.
    subst (λ x. Came x (summed_entry c.in-Both.mine c.in-Both.other ∷ others)) (sym c.in-Node.is)
    (both_came (Came c.in-Node.left.value) (Came c.advance-in-Both.new.tree) (Came c.in-Node.right.value) (Came c.advance-in-Both-2.new.tree) c.in-Node.heads c.in-Both.mine c.in-Both.other
    c.advance-in-Both.new.next c.advance-in-Both-2.new.next others c.in-Both.ensures.0 c.in-Both.ensures.1 c.in-Both.ensures.2 one two p))

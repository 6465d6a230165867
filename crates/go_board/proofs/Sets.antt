-- Sets of points: room for one more, and the marks after a change.
use Rattle.std.proofs.Common.{◌≡◌, ◌≢◌, ◌<◌, ◌≤◌, ◌*◌, ◌+◌, ◌∙◌, ℕ, Bool, true, false, List, [], ◌∷◌, ◌++◌, length, get_or, set, take, ap, subst, sym, inl, inr, refl, arith, All, Contains}
use Rattle.std.proofs.lemmas.Bool.{cases_eq, cases_lt, false≢true}
use Rattle.std.proofs.lemmas.List.{length-take-le, length_push, take_more_set, get_or-set_same, get_or-set_other, get_or-take, length-set, set_past, get_or_past, get_or_default}
use Rattle.std.proofs.lemmas.List.Elements.{All-push, All-nil, Contains-append_left, Contains-push}
use Rattle.std.proofs.lemmas.List.Quantifiers.{all_pairs_push}
use Rattle.go_board.specs.declared.points.Point.{Point}
use Rattle.go_board.specs.Extent.{Extent}
use Rattle.go_board.specs.Point.{IsOn, index_of}
use Rattle.go_board.specs.Gathered.{IsGathered}
use Rattle.go_board.specs.Inner.Gathered.{IsMarked, MarksThese, IsPointSet}
use Rattle.go_board.proofs.Places.{same_index, index_below, few_points}

-- one more point, which is on the board and has no mark
pub IsGathered-push : (size : Extent) (marks : List Bool) (points : List Point) (p : Point) → IsOn size p →
    IsGathered size points → MarksThese size marks points → (IsMarked size marks p → ⊥) → IsGathered size (points ++ p ∷ [])
IsGathered-push size marks points p on g m none = record {
  on_board = All-push (IsOn size) points p g.on_board on;
  once = all_pairs_push (λ a b. a ≢ b) points p g.once
      (λ k d in' e. none (subst (IsMarked size marks) e (m.each k d in')));
}

pub has_room : (size : Extent) (marks : List Bool) (members : List Point) (count : ℕ) (p : Point) → IsOn size p →
    IsPointSet size marks members count → (IsMarked size marks p → ⊥) → count < length members
has_room size marks members count p on s none =
    let more = IsGathered-push size marks (take count members) p on s.gathered s.marked none in
    let few = few_points size (take count members ++ p ∷ []) more.on_board more.once in
    let h : count ≤ length members = s.within in
    let room : length members ≡ size.columns * size.rows = s.room in
    omega (arith, few, room, length_push (take count members) p, length-take-le count members h)

set_true : (marks : List Bool) (i j : ℕ) → i < length marks → get_or marks j false ≡ true → get_or (set marks i true) j false ≡ true
set_true marks i j in' h = elim (cases_eq j i) [
  | inl e ↦ rw e (get_or-set_same marks i true false in')
  | inr ne ↦ get_or-set_other marks i j true false ne ∙ h
]

MarksThese-push : (size : Extent) (marks : List Bool) (points : List Point) (p : Point) → IsOn size p →
    index_of size p < length marks → MarksThese size marks points →
    MarksThese size (set marks (index_of size p) true) (points ++ p ∷ [])
MarksThese-push size marks points p on in' m = record {
  each = All-push (IsMarked size (set marks (index_of size p) true)) points p
      (λ k d h. set_true marks (index_of size p) (index_of size (get_or points k d)) in' (m.each k d h))
      (get_or-set_same marks (index_of size p) true false in');
  only = λ q q_on marked. elim (cases_eq (index_of size q) (index_of size p)) [
    | inl e ↦ subst (Contains (points ++ p ∷ [])) (sym (same_index size q p q_on on e)) (Contains-push points p)
    | inr ne ↦ Contains-append_left points (p ∷ []) q
        (m.only q q_on (sym (get_or-set_other marks (index_of size p) (index_of size q) true false ne) ∙ marked))
  ];
}

pub IsPointSet-added : (size : Extent) (marks : List Bool) (members : List Point) (count : ℕ) (p : Point) → IsOn size p →
    IsPointSet size marks members count → (IsMarked size marks p → ⊥) →
    IsPointSet size (set marks (index_of size p) true) (set members count p) (count + 1)
IsPointSet-added size marks members count p on s none =
    let room = has_room size marks members count p on s none in
    let e = take_more_set members count p room in
    let in' : index_of size p < length marks = subst (λ n. index_of size p < n) (sym s.all_marks) (index_below size p on) in
    record {
      room = length-set members count p ∙ s.room;
      all_marks = length-set marks (index_of size p) true ∙ s.all_marks;
      within = omega (arith, room, length-set members count p);
      gathered = subst (IsGathered size) (sym e) (IsGathered-push size marks (take count members) p on s.gathered s.marked none);
      marked = subst (MarksThese size (set marks (index_of size p) true)) (sym e)
          (MarksThese-push size marks (take count members) p on in' s.marked);
    }

get_or-set_gone : (marks : List Bool) (i j : ℕ) → i ≡ j → get_or (set marks j false) i false ≡ false
get_or-set_gone marks i j e = elim (cases_lt j (length marks)) [
  | inl lt ↦ rw e (get_or-set_same marks j false false lt)
  | inr le ↦ rw e (rw (set_past marks j false le) (get_or_past marks j false le))
]

-- the marks of the members from a place on
pub record MarksRest (size : Extent) (marks : List Bool) (points : List Point) (k : ℕ) : Type 0 where
  pub all_marks : length marks ≡ size.columns * size.rows
  pub only : (q : Point) → IsOn size q → IsMarked size marks q → (j : ℕ) × (k ≤ j) × (j < length points) × (get_or points j q ≡ q)

pub MarksRest-start : (size : Extent) (marks : List Bool) (points : List Point) → length marks ≡ size.columns * size.rows →
    MarksThese size marks points → MarksRest size marks points 0
MarksRest-start size marks points e m = record {
  all_marks = e;
  only = λ q on marked. let h = m.only q on marked in (h.0, omega arith, h.1, h.2);
}

pub MarksRest-more : (size : Extent) (marks : List Bool) (points : List Point) (k : ℕ) (p : Point) → k < length points →
    p ≡ get_or points k p → MarksRest size marks points k → MarksRest size (set marks (index_of size p) false) points (k + 1)
MarksRest-more size marks points k p in' e m = record {
  all_marks = length-set marks (index_of size p) false ∙ m.all_marks;
  only = λ q on marked. elim (cases_eq (index_of size q) (index_of size p)) [
    | inl same ↦ absurd (false≢true (sym (get_or-set_gone marks (index_of size q) (index_of size p) same) ∙ marked))
    | inr ne ↦ (let h = m.only q on (sym (get_or-set_other marks (index_of size p) (index_of size q) false false ne) ∙ marked) in
        elim (cases_eq h.0 k) [
          | inl at ↦ absurd (ne (ap (index_of size) (sym (e ∙ get_or_default points k p q in' ∙ ap (λ i. get_or points i q) (sym at) ∙ h.3))))
          | inr off ↦ (h.0, omega (arith, off), h.2, h.3)
        ])
  ];
}

pub IsPointSet-cleared : (size : Extent) (marks : List Bool) (members : List Point) (count : ℕ) →
    length members ≡ size.columns * size.rows → MarksRest size marks (take count members) count → count ≤ length members →
    IsPointSet size marks members 0
IsPointSet-cleared size marks members count room m in' = record {
  room = room;
  all_marks = m.all_marks;
  within = omega arith;
  gathered = record { on_board = All-nil (IsOn size); once = λ i j d lt h. absurd (omega arith) };
  marked = record {
    each = All-nil (IsMarked size marks);
    only = λ q on marked. let h = m.only q on marked in absurd (omega (arith, h.1, h.2, length-take-le count members in'));
  };
}

pub unmarked : (size : Extent) (marks : List Bool) (p : Point) (i : ℕ) (mark : Bool) → i ≡ index_of size p →
    mark ≡ get_or marks i mark → mark ≡ false → IsMarked size marks p → ⊥
unmarked size marks p i mark at is none marked = false≢true (subst (λ b. b ≡ get_or marks i b) none is ∙ (ap (λ n. get_or marks n false) at ∙ marked))

-- while the set is emptied: the first k members have no mark left
pub record Clearing (first size : Extent) (marks : List Bool) (members : List Point) (count end k : ℕ) : Type 0 where
  pub same : size ≡ first
  pub upto : end ≡ count
  pub room : length members ≡ size.columns * size.rows
  pub within : count ≤ length members
  pub on_board : All (IsOn size) (take count members)
  pub rest : MarksRest size marks (take count members) k

pub Clearing-start : (size : Extent) (marks : List Bool) (members : List Point) (count : ℕ) →
    IsPointSet size marks members count → Clearing size size marks members count count 0
Clearing-start size marks members count s = record {
  same = refl;
  upto = refl;
  room = s.room;
  within = s.within;
  on_board = s.gathered.on_board;
  rest = MarksRest-start size marks (take count members) s.all_marks s.marked;
}

pub Clearing-on : (first size : Extent) (marks : List Bool) (members : List Point) (count end k : ℕ) (p : Point) → k < end →
    p ≡ get_or members k p → Clearing first size marks members count end k → IsOn size p
Clearing-on first size marks members count end k p in' e c =
    let short : k < count = omega (arith, c.upto) in
    subst (IsOn size) (get_or-take count members k p short ∙ sym e)
    (c.on_board k p (omega (arith, short, length-take-le count members c.within)))

pub Clearing-more : (first size : Extent) (marks : List Bool) (members : List Point) (count end k : ℕ) (p : Point) → k < end →
    p ≡ get_or members k p → Clearing first size marks members count end k →
    Clearing first size (set marks (index_of size p) false) members count end (k + 1)
Clearing-more first size marks members count end k p in' e c = record {
  same = c.same;
  upto = c.upto;
  room = c.room;
  within = c.within;
  on_board = c.on_board;
  rest = (let short : k < count = omega (arith, c.upto) in
      MarksRest-more size marks (take count members) k p (omega (arith, short, length-take-le count members c.within))
      (e ∙ sym (get_or-take count members k p short)) c.rest);
}

pub Clearing-end : (first size : Extent) (marks : List Bool) (members : List Point) (count end k : ℕ) → end ≤ k → k ≤ end →
    Clearing first size marks members count end k → IsPointSet size marks members 0
Clearing-end first size marks members count end k past upto c =
    let same : k ≡ count = omega (arith, c.upto) in
    IsPointSet-cleared size marks members count c.room (subst (MarksRest size marks (take count members)) same c.rest) c.within

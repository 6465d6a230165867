-- Entries whose shapes rise: each is that of its shape, and no shape comes twice.
use Rattle.std.proofs.Common.{◌≡◌, ℕ, suc, ◌+◌, ◌<◌, ◌≤◌, ◌==◌, true, false, cond, List, [], ◌∷◌, length, Some, None, ap, ◌∙◌, arith, add-one, zero-add, All, Contains, refl}
use Rattle.std.specs.Prelude.{count_by}
use Rattle.std.specs.List.{AllByRecursion}
use Rattle.std.specs.List.Sorted.{IsStrictlyIncreasing}
use Rattle.std.proofs.lemmas.Bool.Decides.{nat_tests}
use Rattle.std.proofs.lemmas.List.Elements.{All-nil, All-cons, All-contains, All-weaker, recursion_from_All}
use Rattle.shape_dict.specs.declared.entries.Entry.{Entry}
use Rattle.shape_dict.specs.Contents.{entry_of}
use Rattle.tally_core.specs.Inner.Entries.{shapes_of}
use Rattle.tally_core.proofs.DoubleCounting.{count-cons}

-- the numbers rise, from a least one on
Rises : ℕ → List ℕ → Type 0
Rises least [] = Unit {0}
Rises least (s ∷ ss) = (least ≤ s) × Rises (suc s) ss

rises-tail : (s : ℕ) (ss : List ℕ) → IsStrictlyIncreasing (s ∷ ss) → IsStrictlyIncreasing ss
rises-tail s ss h = λ k small. let deep : suc k + 1 < suc (length ss) = omega arith in rw add-one (rw add-one at (h (suc k) deep))

rises_from_head : (s : ℕ) (ss : List ℕ) → IsStrictlyIncreasing (s ∷ ss) → Rises (suc s) ss
unfolding Rises
rises_from_head s [] h = tt
rises_from_head s (t ∷ ss) h =
    let first : s < t = h 0 (omega arith) in
    (omega arith, rises_from_head t ss (rises-tail s (t ∷ ss) h))

rises_from_increasing : (ss : List ℕ) → IsStrictlyIncreasing ss → Rises 0 ss
unfolding Rises
rises_from_increasing [] h = tt
rises_from_increasing (s ∷ ss) h = (omega arith, rises_from_head s ss h)

-- ---- how often a shape comes
step_same : (x s : ℕ) (ss : List ℕ) → (s == x) ≡ true → count_by (λ y. x == y) (s ∷ ss) ≡ 1 + count_by (λ y. x == y) ss
step_same x s ss same =
    let test : (x == s) ≡ true = Prim.grind (arith, nat_tests) in
    count-cons (λ y. x == y) s ss ∙ ap (λ b. cond b 1 0 + count_by (λ y. x == y) ss) test

step_other : (x s : ℕ) (ss : List ℕ) → (s == x) ≡ false → count_by (λ y. x == y) (s ∷ ss) ≡ count_by (λ y. x == y) ss
step_other x s ss other =
    let test : (x == s) ≡ false = Prim.grind (arith, nat_tests) in
    count-cons (λ y. x == y) s ss ∙ ap (λ b. cond b 1 0 + count_by (λ y. x == y) ss) test ∙ zero-add (count_by (λ y. x == y) ss)

-- a number below all is none of them
below_all : (x least : ℕ) (ss : List ℕ) → x < least → Rises least ss → count_by (λ s. x == s) ss ≡ 0
unfolding Rises
below_all x least [] low h = refl
below_all x least (s ∷ ss) low h =
    let differs : (s == x) ≡ false = (let above = h.0 in Prim.grind (arith, nat_tests)) in
    step_other x s ss differs ∙ below_all x (suc s) ss (omega arith) h.1

at_most_once : (x least : ℕ) (ss : List ℕ) → Rises least ss → count_by (λ s. x == s) ss ≤ 1
unfolding Rises
at_most_once x least [] h = omega arith
at_most_once x least (s ∷ ss) h =
    elim (s == x) as (λ b. (s == x) ≡ b → count_by (λ y. x == y) (s ∷ ss) ≤ 1) [
      | true ↦ λ same.
          let equal : s ≡ x = Prim.grind (arith, nat_tests) in
          let none = below_all x (suc s) ss (omega arith) h.1 in
          rw (step_same x s ss same, none) (omega arith)
      | false ↦ λ other. rw (step_other x s ss other) (at_most_once x (suc s) ss h.1)
    ] refl

pub stands_once_at_most : (x : ℕ) (entries : List Entry) → IsStrictlyIncreasing (shapes_of entries) → count_by (λ s. x == s) (shapes_of entries) ≤ 1
stands_once_at_most x entries rises = at_most_once x 0 (shapes_of entries) (rises_from_increasing (shapes_of entries) rises)

-- a shape that has no entry does not stand
pub stands_nowhere : (x : ℕ) (entries : List Entry) → entry_of x entries ≡ None → count_by (λ s. x == s) (shapes_of entries) ≡ 0
stands_nowhere x [] h = refl
stands_nowhere x (e ∷ entries) h =
    elim (e.shape == x) as (λ b. (e.shape == x) ≡ b → cond b (Some e) (entry_of x entries) ≡ None → count_by (λ s. x == s) (shapes_of (e ∷ entries)) ≡ 0) [
      | true ↦ λ same is. absurd cc
      | false ↦ λ other is. step_other x e.shape (shapes_of entries) other ∙ stands_nowhere x entries is
    ] refl h

stands : (x : ℕ) (entry : Entry) (entries : List Entry) → entry_of x entries ≡ Some entry → 1 ≤ count_by (λ s. x == s) (shapes_of entries)
stands x entry [] h = absurd cc
stands x entry (e ∷ entries) h =
    elim (e.shape == x) as (λ b. (e.shape == x) ≡ b → cond b (Some e) (entry_of x entries) ≡ Some entry → 1 ≤ count_by (λ s. x == s) (shapes_of (e ∷ entries))) [
      | true ↦ λ same is. rw (step_same x e.shape (shapes_of entries) same) (omega arith)
      | false ↦ λ other is. rw (step_other x e.shape (shapes_of entries) other) (stands x entry entries is)
    ] refl h

-- one that has an entry comes once
pub stands_once : (x : ℕ) (entry : Entry) (entries : List Entry) → IsStrictlyIncreasing (shapes_of entries) → entry_of x entries ≡ Some entry → count_by (λ s. x == s) (shapes_of entries) ≡ 1
stands_once x entry entries rises is =
    let some = stands x entry entries is in
    let few = stands_once_at_most x entries rises in
    omega arith

-- ---- each entry is that of its shape
each_from : (least : ℕ) (entries : List Entry) → Rises least (shapes_of entries) → All (λ (e : Entry). (least ≤ e.shape) × (entry_of e.shape entries ≡ Some e)) entries
unfolding Rises
each_from least [] h = All-nil (λ (e : Entry). (least ≤ e.shape) × (entry_of e.shape [] ≡ Some e))
each_from least (first ∷ entries) h =
    let P = λ (e : Entry). (least ≤ e.shape) × (entry_of e.shape (first ∷ entries) ≡ Some e) in
    let itself : (first.shape == first.shape) ≡ true = Prim.grind (arith, nat_tests) in
    All-cons P first entries (h.0, ap (λ b. cond b (Some first) (entry_of first.shape entries)) itself)
    (All-weaker (λ (e : Entry). (suc first.shape ≤ e.shape) × (entry_of e.shape entries ≡ Some e)) P
    (λ e is.
    let low = h.0 in
    let high = is.0 in
    let differs : (first.shape == e.shape) ≡ false = Prim.grind (arith, nat_tests) in
    (omega arith, ap (λ b. cond b (Some first) (entry_of e.shape entries)) differs ∙ is.1))
    entries (each_from (suc first.shape) entries h.1))

pub each_is_found : (entries : List Entry) → IsStrictlyIncreasing (shapes_of entries) → AllByRecursion (λ (e : Entry). entry_of e.shape entries ≡ Some e) entries
each_is_found entries rises =
    recursion_from_All (λ (e : Entry). entry_of e.shape entries ≡ Some e) entries
    (All-weaker (λ (e : Entry). (0 ≤ e.shape) × (entry_of e.shape entries ≡ Some e)) (λ (e : Entry). entry_of e.shape entries ≡ Some e) (λ e is. is.1)
    entries (each_from 0 entries (rises_from_increasing (shapes_of entries) rises)))

pub entry_found : (entries : List Entry) → IsStrictlyIncreasing (shapes_of entries) → (entry : Entry) → Contains entries entry → entry_of entry.shape entries ≡ Some entry
entry_found entries rises entry among =
    (All-contains (λ (e : Entry). (0 ≤ e.shape) × (entry_of e.shape entries ≡ Some e)) entries entry
    (each_from 0 entries (rises_from_increasing (shapes_of entries) rises)) among).1

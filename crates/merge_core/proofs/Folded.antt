-- Dictionaries joined in turn, and by parts.
use Rattle.std.proofs.Common.{◌≡◌, ℕ, ◌≤◌, ◌<◌, ◌^◌, inl, inr, List, [], ◌∷◌, ◌++◌, length, Bool, Option, Some, None, ap, sym, refl, subst, ◌∙◌, arith}
use Rattle.std.specs.List.{AllByRecursion}
use Rattle.shape_dict.specs.declared.entries.Entry.{Entry}
use Rattle.shape_dict.specs.Contents.{Contents, IsDictionary, entry_of}
use Rattle.shape_dict.specs.Merging.{summed_entry}
use Rattle.shape_dict.specs.Join.{joined_entry, IsJoin, IsJoinOf, IsOverflow}
use Rattle.shape_dict.proofs.Joined.{join_of}
use Rattle.shape_dict.proofs.Regrouped.{joins_regroup}
use Rattle.merge_core.specs.Entries.{IsSmallUse}
use Rattle.merge_core.specs.Inner.Folds.{both_of, Folds, FoldsAll}
use Rattle.merge_core.proofs.Large.{found_has}

-- a sum is a dictionary of the kinds of the first
pub sum_is_dictionary : (first : Contents) (others : List Contents) (sum : Contents) → IsDictionary first → Folds first others sum → IsDictionary sum
sum_is_dictionary first [] sum is h = subst (λ (x : Contents). IsDictionary x) (sym h) is
sum_is_dictionary first (next ∷ others) sum is h = sum_is_dictionary h.0 others sum h.1.dictionary h.2

pub sum_has_kinds : (first : Contents) (others : List Contents) (sum : Contents) → Folds first others sum → sum.counts_diamonds ≡ first.counts_diamonds
sum_has_kinds first [] sum h = ap (λ (x : Contents). x.counts_diamonds) h
sum_has_kinds first (next ∷ others) sum h = sum_has_kinds h.0 others sum h.2 ∙ h.1.kinds

-- the sum of some that follow, joined at once, or each in turn
folds_follow : (left first : Contents) (others : List Contents) (right sum : Contents) → IsDictionary left → IsDictionary first → left.counts_diamonds ≡ first.counts_diamonds →
    Folds first others right → IsJoin left right sum → Folds left (first ∷ others) sum
folds_follow left first [] right sum is_left is_first kinds h join = (sum, subst (λ (x : Contents). IsJoin left x sum) h join, refl)
folds_follow left first (next ∷ others) right sum is_left is_first kinds h join =
    let rest = folds_follow left h.0 others right sum is_left h.1.dictionary (kinds ∙ sym h.1.kinds) h.2 join in
    let parts = joins_regroup left first next h.0 rest.0 is_left is_first kinds h.1 rest.1 in
    (parts.0, parts.1, (rest.0, parts.2, rest.2))

pub folds_append : (first : Contents) (others : List Contents) (middle : Contents) (more : List Contents) (sum : Contents) → Folds first others middle → Folds middle more sum → Folds first (others ++ more) sum
folds_append first [] middle more sum h k = subst (λ (x : Contents). Folds x more sum) h k
folds_append first (next ∷ others) middle more sum h k = (h.0, h.1, folds_append h.0 others middle more sum h.2 k)

-- a dictionary of a kind
abbrev pub IsOf : Bool → Contents → Type 0
IsOf kind d = IsDictionary d × (d.counts_diamonds ≡ kind)

-- the sum of each half, and the join of both
pub folds_both : (kind : Bool) (xs ys : List Contents) (a b : Contents) → AllByRecursion (IsOf kind) xs → AllByRecursion (IsOf kind) ys → FoldsAll xs a → FoldsAll ys b → FoldsAll (xs ++ ys) (both_of a b) × IsJoin a b (both_of a b)
folds_both kind [] ys a b p q h k = absurd h
folds_both kind (x ∷ xs) [] a b p q h k = absurd k
folds_both kind (x ∷ xs) (y ∷ ys) a b p q h k =
    let is_a = sum_is_dictionary x xs a p.0.0 h in
    let is_b = sum_is_dictionary y ys b q.0.0 k in
    let kinds : a.counts_diamonds ≡ b.counts_diamonds = (sum_has_kinds x xs a h ∙ p.0.1) ∙ sym (sum_has_kinds y ys b k ∙ q.0.1) in
    let join = join_of a b is_a is_b kinds in
    (folds_append x xs a (y ∷ ys) (both_of a b) h (folds_follow a y ys b (both_of a b) is_a q.0.0 ((sum_has_kinds x xs a h ∙ p.0.1) ∙ sym q.0.1) k join), join)

-- dictionaries of a kind have a sum
folds_from : (kind : Bool) (first : Contents) (others : List Contents) → IsOf kind first → AllByRecursion (IsOf kind) others → (sum : Contents) × Folds first others sum
folds_from kind first [] p q = (first, refl)
folds_from kind first (next ∷ others) p q =
    let join = join_of first next p.0 q.0.0 (p.1 ∙ sym q.0.1) in
    let rest = folds_from kind (both_of first next) others (join.dictionary, p.1) q.1 in
    (rest.0, (both_of first next, join, rest.1))

pub folds_exist : (kind : Bool) (n : ℕ) (xs : List Contents) → 0 < length xs → AllByRecursion (IsOf kind) xs → (sum : Contents) × FoldsAll xs sum
folds_exist kind n [] some p = absurd (omega arith)
folds_exist kind n (x ∷ xs) some p = folds_from kind x xs p.0 p.1

-- a sum has at least what any part has
counts_grow : (games : ℕ) (e : Entry) (other : Option Entry) → (f : Entry) × (joined_entry games (Some e) other ≡ Some f) × (e.there ≤ f.there)
counts_grow games e None = (e, refl, omega arith)
counts_grow games e (Some o) = (summed_entry e o, refl, omega arith)

abbrev Grows : Contents → Contents → Type 0
Grows a sum = (a.games ≤ sum.games) × (a.moves ≤ sum.moves) × ((shape : ℕ) (e : Entry) → entry_of shape a.entries ≡ Some e → (f : Entry) × (entry_of shape sum.entries ≡ Some f) × (e.there ≤ f.there))

grows_self : (a : Contents) → Grows a a
grows_self a = (omega arith, omega arith, λ shape e is. (e, is, omega arith))

sums_grow : (first : Contents) (others : List Contents) (sum : Contents) → Folds first others sum → Grows first sum
sums_grow first [] sum h = subst (λ (x : Contents). Grows first x) (sym h) (grows_self first)
sums_grow first (next ∷ others) sum h =
    let more = sums_grow h.0 others sum h.2 in (
      omega (arith, h.1.games, more.0),
      omega (arith, h.1.moves, more.1),
      λ shape e is.
          let one = counts_grow first.games e (entry_of shape next.entries) in
          let two = more.2 shape one.0 (h.1.entries shape ∙ (ap (λ (x : Option Entry). joined_entry first.games x (entry_of shape next.entries)) is ∙ one.1)) in
          (two.0, two.1, omega (arith, one.2, two.2)),
    )

-- where the last sum is small, no sum on the way is too large
pub fits_of : (first next both : Contents) (others : List Contents) (sum : Contents) → IsJoin first next both → Folds both others sum → sum.games < 2 ^ 64 → sum.moves < 2 ^ 64 → AllByRecursion IsSmallUse sum.entries → IsOverflow first next → ⊥
fits_of first next both others sum join h games moves small (inl large) = let g = sums_grow both others sum h in omega (arith, join.games, g.0)
fits_of first next both others sum join h games moves small (inr (inl large)) = let g = sums_grow both others sum h in omega (arith, join.moves, g.1)
fits_of first next both others sum join h games moves small (inr (inr large)) =
    let g = sums_grow both others sum h in
    let here : entry_of large.shape both.entries ≡ Some (summed_entry large.of_left large.of_right) =
    join.entries large.shape ∙ (ap (λ (x : Option Entry). joined_entry first.games x (entry_of large.shape next.entries)) large.in_left ∙ ap (joined_entry first.games (Some large.of_left)) large.in_right) in
    let last = g.2 large.shape (summed_entry large.of_left large.of_right) here in
    let few = found_has IsSmallUse large.shape sum.entries last.0 last.1 small in
    omega (arith, large.large, last.2, few.0)

pub folds_join : (first : Contents) (others : List Contents) (sum : Contents) → Folds first others sum → sum.games < 2 ^ 64 → sum.moves < 2 ^ 64 → AllByRecursion IsSmallUse sum.entries → IsJoinOf first others sum
folds_join first [] sum h games moves small = h
folds_join first (next ∷ others) sum h games moves small =
    (h.0, fits_of first next h.0 others sum h.1 h.2 games moves small, h.1, folds_join h.0 others sum h.2 games moves small)

pub join_folds : (first : Contents) (others : List Contents) (sum : Contents) → IsJoinOf first others sum → Folds first others sum
join_folds first [] sum h = h
join_folds first (next ∷ others) sum h = (h.0, h.2, join_folds h.0 others sum h.3)

-- Where the entries of a join are not all small, a pattern of both has counts that are too large.
use Rattle.std.proofs.Common.{◌≡◌, ◌≢◌, ℕ, suc, ◌+◌, ◌≤◌, ◌<◌, ◌^◌, ◌⊎◌, inl, inr, List, [], ◌∷◌, All, Option, Some, None, ap, sym, refl, subst, ◌∙◌, arith}
use Rattle.std.specs.List.{AllByRecursion}
use Rattle.std.proofs.lemmas.Bool.{cases_lt}
use Rattle.std.proofs.lemmas.List.Elements.{All-from_recursion, recursion_from_All}
use Rattle.shape_dict.specs.declared.entries.Entry.{Entry}
use Rattle.shape_dict.specs.Contents.{Contents, IsEntry, entry_of}
use Rattle.shape_dict.specs.Merging.{moved_entry, summed_entry}
use Rattle.shape_dict.specs.Join.{joined_entry, IsJoin, HasLargeEntry}
use Rattle.shape_dict.specs.Text.{IsSmallEntry}
use Rattle.shape_dict.specs.Inner.Merging.{Climbs}
use Rattle.shape_dict.proofs.Climbing.{climbs_from_rises, found_first}
use Rattle.shape_dict.proofs.Merging.{three_ways}
use Rattle.merge_core.specs.Entries.{IsSmallUse}
use Rattle.merge_core.proofs.Alone.{missed}

same_or_not : (a b : ℕ) → (a ≡ b) ⊎ (a ≢ b)
same_or_not a b = elim (three_ways a b) [ inl h ↦ inr (λ e. omega arith) | inr (inl h) ↦ inr (λ e. omega arith) | inr (inr h) ↦ inl h ]

some_same : (d e : Entry) → Some d ≡ Some e → d ≡ e
some_same d e h = cc

none_is_some : (e : Entry) → ◌≡◌ {A = Option Entry} None (Some e) → ⊥
none_is_some e h = cc

-- the entry of a shape is one of the list
pub found_has : (P : Entry → Type 0) (shape : ℕ) (es : List Entry) (f : Entry) → entry_of shape es ≡ Some f → AllByRecursion P es → P f
found_has P shape [] f h all = absurd (none_is_some f h)
found_has P shape (e ∷ es) f h all = elim (same_or_not e.shape shape) [
  | inl same ↦ subst P (some_same e f (sym (found_first shape e es same) ∙ h)) all.0
  | inr other ↦ found_has P shape es f (sym (missed shape e es other) ∙ h) all.1
]

-- what holds of each, weakened
pub weaken : (P Q : Entry → Type 0) (es : List Entry) → ((e : Entry) → P e → Q e) → AllByRecursion P es → AllByRecursion Q es
weaken P Q [] f h = tt
weaken P Q (e ∷ es) f h = (f e h.0, weaken P Q es f h.1)

abbrev IsPlayed : Entry → Type 0
IsPlayed e = e.played ≤ e.there

abbrev HasLarge : ℕ → List Entry → Type 0
HasLarge low es = (e : Entry) × (low ≤ e.shape) × (entry_of e.shape es ≡ Some e) × (2 ^ 64 ≤ e.there)

later : (low : ℕ) (e : Entry) (es : List Entry) → low ≤ e.shape → HasLarge (suc e.shape) es → HasLarge low (e ∷ es)
later low e es below h = (let other : e.shape ≢ h.0.shape = let a = h.1 in omega arith in (h.0, (let a = h.1 in omega arith), missed h.0.shape e es other ∙ h.2, h.3))

small_or_large : (low : ℕ) (es : List Entry) → Climbs low es → AllByRecursion IsPlayed es → AllByRecursion IsSmallUse es ⊎ HasLarge low es
small_or_large low [] h p = inl tt
small_or_large low (e ∷ es) h p = elim (cases_lt e.there (2 ^ 64)) [
  | inl small ↦ elim (small_or_large (suc e.shape) es h.1 p.1) [
    | inl others ↦ inl ((small, (let a = p.0 in omega arith)), others)
    | inr large ↦ inr (later low e es h.0 large)
  ]
  | inr large ↦ inr (e, h.0, found_first e.shape e es refl, large)
]

-- the entries of both
large_of_both : (games : ℕ) (left right : Option Entry) (e : Entry) → joined_entry games left right ≡ Some e → 2 ^ 64 ≤ e.there → ((l : Entry) → left ≡ Some l → l.there < 2 ^ 64) → ((r : Entry) → right ≡ Some r → r.there < 2 ^ 64) →
    (l : Entry) × (r : Entry) × (left ≡ Some l) × (right ≡ Some r) × (2 ^ 64 ≤ l.there + r.there)
large_of_both games None None e is large one two = absurd (none_is_some e is)
large_of_both games (Some l) None e is large one two = absurd (omega (arith, one l refl, ap (λ (x : Entry). x.there) (some_same l e is)))
large_of_both games None (Some r) e is large one two = absurd (omega (arith, two r refl, ap (λ (x : Entry). x.there) (some_same (moved_entry games r) e is)))
large_of_both games (Some l) (Some r) e is large one two = (l, r, refl, refl, omega (arith, ap (λ (x : Entry). x.there) (some_same (summed_entry l r) e is)))

pub large_entry : (left right both : Contents) → IsJoin left right both → AllByRecursion IsSmallUse left.entries → AllByRecursion IsSmallUse right.entries → (All IsSmallUse both.entries → ⊥) → HasLargeEntry left.entries right.entries
large_entry left right both join one two not_small =
    elim (small_or_large 0 both.entries (climbs_from_rises both.entries join.dictionary.rises)
    (weaken (IsEntry both.games) IsPlayed both.entries (λ e is. is.played) (recursion_from_All (IsEntry both.games) both.entries join.dictionary.each))) [
      | inl small ↦ absurd (not_small (All-from_recursion IsSmallUse both.entries small))
      | inr large ↦
          (let found = large_of_both left.games (entry_of large.0.shape left.entries) (entry_of large.0.shape right.entries) large.0 (sym (join.entries large.0.shape) ∙ large.2) large.3
          (λ l is. (found_has IsSmallUse large.0.shape left.entries l is one).0) (λ r is. (found_has IsSmallUse large.0.shape right.entries r is two).0) in
          record { shape = large.0.shape; of_left = found.0; of_right = found.1; in_left = found.2; in_right = found.3; large = found.4 })
    ]

-- the entries of a text are small
pub text_is_small : (es : List Entry) → All IsSmallEntry es → AllByRecursion IsSmallUse es
text_is_small es h = weaken IsSmallEntry IsSmallUse es (λ e is. (is.0, is.1)) (recursion_from_All IsSmallEntry es h)

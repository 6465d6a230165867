-- What a binary search finds among entries whose shapes rise.
use Rattle.std.proofs.Common.{◌≡◌, ◌≢◌, ◌<◌, ◌≤◌, ℕ, zero, suc, List, [], ◌∷◌, length, map, get_or, sym, refl, ap, inl, inr, arith, add-one, Ok, Err, Some, None}
use Rattle.std.specs.List.Sorted.{IsStrictlyIncreasing, IsBinarySearchResult, IsNonDecreasingBy}
use Rattle.std.specs.Ordering.{nat_cmp, ordering_index}
use Rattle.std.proofs.lemmas.Bool.{cases_lt}
use Rattle.std.proofs.lemmas.Bool.Decides.{nat_tests}
use Rattle.std.proofs.lemmas.Cmp.{ranked}
use Rattle.std.proofs.lemmas.List.{get_or-map, length-map}
use Rattle.std.proofs.lemmas.List.Sorted.{IsNonDecreasingBy-from_default}
use Rattle.shape_keys.specs.declared.entries.ShapesEntry.{ShapesEntry}
use Rattle.std.specs.Option.{option_map}
use Rattle.shape_dict.specs.declared.entries.Entry.{Entry}
use Rattle.shape_dict.specs.Contents.{entry_of}
use Rattle.shape_keys.specs.Entries.{said, shapes_in, entry_in}

abbrev pub none : ShapesEntry
none = record { shape = 0; there = 0; played = 0; first = 0 }

rises_between : (ws : List ℕ) → IsStrictlyIncreasing ws → (i j : ℕ) → i < j → j < length ws → get_or ws i 0 < get_or ws j 0
rises_between ws h i zero low small = absurd (omega arith)
rises_between ws h i (suc j) low small =
    let one : get_or ws j 0 < get_or ws (suc j) 0 = rw add-one at (h j (omega arith)) in
    elim (cases_lt i j) [
      | inl below ↦ (let before = rises_between ws h i j below (omega arith) in omega (arith, before, one))
      | inr above ↦ (let same : i ≡ j = omega arith in rw same one)
    ]

shape_at : (es : List ShapesEntry) (i : ℕ) (d : ShapesEntry) → i < length es → get_or (shapes_in es) i 0 ≡ (get_or es i d).shape
shape_at es i d within = get_or-map (λ (e : ShapesEntry). e.shape) es i d 0 within

find_here : (shape : ℕ) (es : List ShapesEntry) (at : ℕ) (d : ShapesEntry) → at < length es → (get_or es at d).shape ≡ shape → ((k : ℕ) → k < at → (get_or es k d).shape ≢ shape) → entry_in shape es ≡ Some (get_or es at d)
find_here shape [] at d within is before = absurd (omega arith)
find_here shape (e ∷ es) zero d within is before = grind (arith, nat_tests)
find_here shape (e ∷ es) (suc at) d within is before =
    let other = before 0 (omega arith) in
    let more = find_here shape es at d (omega arith) is (λ k low. before (suc k) (omega arith)) in grind (arith, nat_tests)

find_none : (shape : ℕ) (es : List ShapesEntry) (d : ShapesEntry) → ((k : ℕ) → k < length es → (get_or es k d).shape ≢ shape) → entry_in shape es ≡ None
find_none shape [] d all = refl
find_none shape (e ∷ es) d all =
    let other = all 0 (omega arith) in
    let more = find_none shape es d (λ k low. all (suc k) (omega arith)) in grind (arith, nat_tests)

-- what was found has the shape, whatever the order
pub found_shape : (shape : ℕ) (es : List ShapesEntry) (at : ℕ) → IsBinarySearchResult (λ (e : ShapesEntry). nat_cmp e.shape shape) es (Ok at) → (get_or es at none).shape ≡ shape
found_shape shape es at equal = ranked _ shape _ (sym (equal none))

module _ (shape : ℕ) (es : List ShapesEntry) (rises : IsStrictlyIncreasing (shapes_in es)) where
  below : (i j : ℕ) → i < j → j < length es → (get_or es i none).shape < (get_or es j none).shape
  below i j low small =
      let h = rises_between (shapes_in es) rises i j low (omega (arith, length-map es (λ (e : ShapesEntry). e.shape))) in
      let a = shape_at es i none (omega arith) in
      let b = shape_at es j none small in omega (arith, h, a, b)

  in_order : (i j : ℕ) → i ≤ j → j < length es → (get_or es i none).shape ≤ (get_or es j none).shape
  in_order i j low small = elim (cases_lt i j) [
    | inl less ↦ (let h = below i j less small in omega (arith, h))
    | inr above ↦ (let same : i ≡ j = omega arith in rw same (omega arith))
  ]

  comparisons_rise : IsNonDecreasingBy (λ (e : ShapesEntry). ordering_index (nat_cmp e.shape shape)) es
  comparisons_rise = IsNonDecreasingBy-from_default (λ (e : ShapesEntry). ordering_index (nat_cmp e.shape shape)) es none (λ i j low small. let h = in_order i j low small in grind (arith, nat_tests))

  pub found_there : (at : ℕ) → at < length es → IsBinarySearchResult (λ (e : ShapesEntry). nat_cmp e.shape shape) es (Ok at) → entry_in shape es ≡ Some (get_or es at none)
  found_there at small equal =
      let same = found_shape shape es at equal in
      find_here shape es at none small same (λ k low. let h = below k at low small in λ clash. absurd (omega (arith, h, same, clash)))

  pub found_nowhere : (at : ℕ) → at ≤ length es → IsBinarySearchResult (λ (e : ShapesEntry). nat_cmp e.shape shape) es (Err at) → entry_in shape es ≡ None
  found_nowhere at fits parted = find_none shape es none (λ k small.
      elim (cases_lt k at) [
        | inl less ↦ (let h : (get_or es k none).shape < shape = ranked _ shape _ (sym ((parted comparisons_rise).0 k none (omega arith) less)) in λ clash. absurd (omega (arith, h, clash)))
        | inr above ↦ (let h : shape < (get_or es k none).shape = ranked _ shape _ (sym ((parted comparisons_rise).1 k none above small)) in λ clash. absurd (omega (arith, h, clash)))
      ])

-- among what is said of entries, the first of a shape is what is said of the shape's entry
pub entry_said : (shape : ℕ) (es : List Entry) → entry_in shape (map said es) ≡ option_map said (entry_of shape es)
entry_said shape [] = refl
entry_said shape (e ∷ es) = let more = entry_said shape es in grind (arith, nat_tests)

-- what is said of entries has their shapes
pub shapes_said : (es : List Entry) → shapes_in (map said es) ≡ map (λ (e : Entry). e.shape) es
shapes_said [] = refl
shapes_said (e ∷ es) = ap (λ more. e.shape ∷ more) (shapes_said es)

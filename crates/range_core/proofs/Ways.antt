-- The ways of patterns through the places of rows.
use Rattle.std.proofs.Common.{◌≡◌, ℕ, ◌+◌, ◌<◌, ◌==◌, Bool, true, false, not, zero, suc, cond, ◌-◌, ◌≤◌, ◌⊎◌, inl, inr, List, length, take, replicate, ◌++◌, slice_set, slice_index_or, All, refl, ap, sym, subst, ◌∙◌, arith, add-one, ⊎_elim, [], ◌∷◌}
use Rattle.std.specs.List.{AllByRecursion}
use Rattle.std.proofs.lemmas.Bool.{cases_eq, cases_order}
use Rattle.std.proofs.lemmas.Bool.Decides.{nat_tests}
use Rattle.std.proofs.lemmas.Grind.{get_or-set_at}
use Rattle.std.proofs.lemmas.List.{get_or_default, get_or-set_other, length-set}
use Rattle.std.proofs.lemmas.List.Elements.{All-set, All-append, All-take, All-nil, All-replicate}
use Rattle.shape_dict.specs.declared.entries.Entry.{Entry}
use Rattle.range_core.specs.Entries.{IsShape}
use Rattle.range_core.specs.Places.{home_of}
use Rattle.range_core.specs.Rows.{next_place, way_of, is_taken, taken_of, row_at, IsReached, IsOther, AreRows, IsFound, HasNoPlace}

-- what was read at a place
pub read_at : (rows : List Entry) (place : ℕ) (row : Entry) → row ≡ slice_index_or rows place row → place < length rows → row ≡ row_at rows place
read_at rows place row is within = is ∙ get_or_default rows place row _ within

not_false : (b : Bool) → not b ≡ false → b ≡ true
not_false true h = refl
not_false false h = absurd cc

-- one step more on a way
pub way-next : (factor places shape step : ℕ) → way_of factor places shape (step + 1) ≡ next_place places (way_of factor places shape step)
way-next factor places shape step = ap (way_of factor places shape) (add-one step)

pub other_at : (rows : List Entry) (shape place : ℕ) (row : Entry) (equal free : Bool) → row ≡ row_at rows place → equal ≡ (row.shape == shape) → equal ≡ false →
    free ≡ not (is_taken row) → free ≡ false → IsOther rows shape place
other_at rows shape place row equal free is test differs tested taken = record {
  taken = ap is_taken (sym is) ∙ not_false (is_taken row) (sym tested ∙ taken);
  other = λ same. let here = ap (λ (r : Entry). r.shape) is ∙ same in Prim.grind (arith, nat_tests);
}

pub passed_more : (factor : ℕ) (rows : List Entry) (shape steps : ℕ) → ((step : ℕ) → step < steps → IsOther rows shape (way_of factor (length rows) shape step)) → IsOther rows shape (way_of factor (length rows) shape steps) →
    (step : ℕ) → step < steps + 1 → IsOther rows shape (way_of factor (length rows) shape step)
passed_more factor rows shape steps passed here step low = ⊎_elim
    (λ (same : step ≡ steps). subst (λ s. IsOther rows shape (way_of factor (length rows) shape s)) (sym same) here)
    (λ (apart : step ≡ steps → ⊥). passed step (omega (arith, low, apart)))
    (cases_eq step steps)

-- ---- a way leads to each place
next_last : (places at : ℕ) → at + 1 ≡ places → next_place places at ≡ 0
next_last places at last = Prim.grind (arith, nat_tests)

next_more : (places at : ℕ) → (at + 1 ≡ places → ⊥) → next_place places at ≡ at + 1
next_more places at more = Prim.grind (arith, nat_tests)

-- the place that is some steps after another one
record IsAfter (places home step at : ℕ) : Type 0 where
  within : at < places
  round : (at ≡ home + step) ⊎ (at + places ≡ home + step)

is_after : (factor places shape step : ℕ) → home_of factor places shape < places → step < places → IsAfter places (home_of factor places shape) step (way_of factor places shape step)
is_after factor places shape zero home low = record { within = home; round = inl (let same : home_of factor places shape ≡ home_of factor places shape + 0 = omega arith in same) }
is_after factor places shape (suc step) home low =
    let start = home_of factor places shape in
    let at = way_of factor places shape step in
    let before = is_after factor places shape step home (omega (arith, low)) in
    ⊎_elim
    (λ (last : at + 1 ≡ places).
    subst (IsAfter places start (suc step)) (sym (next_last places at last)) (record {
      within = omega (arith, low);
      round = ⊎_elim
          (λ (so_far : at ≡ start + step). inr (let is : 0 + places ≡ start + suc step = omega (arith, last, so_far) in is))
          (λ (so_far : at + places ≡ start + step). absurd (omega (arith, last, so_far, home, low)))
          before.round;
    }))
    (λ (more : at + 1 ≡ places → ⊥).
    subst (IsAfter places start (suc step)) (sym (next_more places at more)) (record {
      within = (let inside = before.within in omega (arith, inside, more));
      round = ⊎_elim
          (λ (so_far : at ≡ start + step). inl (let is : at + 1 ≡ start + suc step = omega (arith, so_far) in is))
          (λ (so_far : at + places ≡ start + step). inr (let is : at + 1 + places ≡ start + suc step = omega (arith, so_far) in is))
          before.round;
    }))
    (cases_eq (at + 1) places)

-- how many steps lead to a place
abbrev IsSteps : ℕ → ℕ → ℕ → ℕ → ℕ → Type 0
IsSteps factor places shape place step = (step < places) × (way_of factor places shape step ≡ place)

steps_up : (factor places shape place : ℕ) → home_of factor places shape < places → place < places → home_of factor places shape ≤ place →
    IsSteps factor places shape place (place - home_of factor places shape)
steps_up factor places shape place home inside up =
    let start = home_of factor places shape in
    let steps = place - start in
    let at = way_of factor places shape steps in
    let few : steps < places = omega (arith, inside) in (
      few,
      ⊎_elim
          (λ (so : at ≡ start + steps). (let is : at ≡ place = omega (arith, so, up) in is))
          (λ (so : at + places ≡ start + steps). absurd (omega (arith, so, up, inside)))
          (is_after factor places shape steps home few).round,
    )

steps_down : (factor places shape place : ℕ) → home_of factor places shape < places → place < home_of factor places shape →
    IsSteps factor places shape place (place + places - home_of factor places shape)
steps_down factor places shape place home down =
    let start = home_of factor places shape in
    let steps = place + places - start in
    let at = way_of factor places shape steps in
    let few : steps < places = omega (arith, home, down) in
    let within = (is_after factor places shape steps home few).within in (
      few,
      ⊎_elim
          (λ (so : at ≡ start + steps). absurd (omega (arith, so, within, home)))
          (λ (so : at + places ≡ start + steps). (let is : at ≡ place = omega (arith, so, home, down) in is))
          (is_after factor places shape steps home few).round,
    )

steps_to : (factor places shape place : ℕ) → home_of factor places shape < places → place < places → (step : ℕ) × IsSteps factor places shape place step
steps_to factor places shape place home inside =
    let start = home_of factor places shape in
    ⊎_elim
    (λ (same : start ≡ place). (place - start, steps_up factor places shape place home inside (omega (arith, same))))
    (⊎_elim
    (λ (up : start < place). (place - start, steps_up factor places shape place home inside (omega (arith, up))))
    (λ (down : place < start). (place + places - start, steps_down factor places shape place home down)))
    (cases_order start place)

-- where all steps lead to other patterns, so does each place
pub no_place : (factor : ℕ) (rows : List Entry) (shape : ℕ) → home_of factor (length rows) shape < length rows →
    ((step : ℕ) → step < length rows → IsOther rows shape (way_of factor (length rows) shape step)) → HasNoPlace rows shape
no_place factor rows shape home passed place inside =
    let to = steps_to factor (length rows) shape place home inside in
    subst (IsOther rows shape) to.1.1 (passed to.0 to.1.0)

-- ---- a row is put where its pattern's way leads to
module _ {factor : ℕ} (rows : List Entry) (place : ℕ) (row : Entry) (are : AreRows factor rows) (found : IsFound factor rows row.shape place) (some : is_taken row ≡ true) where
  after : List Entry
  after = slice_set rows place row

  long : length after ≡ length rows
  unfolding after
  long = length-set rows place row

  here : (at : ℕ) → at ≡ place → row_at after at ≡ row
  unfolding after
  here at same = get_or-set_at rows place at row _ same found.within

  elsewhere : (at : ℕ) → (at ≡ place → ⊥) → row_at after at ≡ row_at rows at
  unfolding after
  elsewhere at apart = get_or-set_other rows place at row _ apart

  taken_still : (at : ℕ) → is_taken (row_at rows at) ≡ true → is_taken (row_at after at) ≡ true
  taken_still at taken = Prim.grind (arith, here at, elsewhere at)

  reached_still : (shape at : ℕ) → IsReached factor rows shape at → IsReached factor after shape at
  reached_still shape at way = record {
    step = way.step;
    place_is = way.place_is ∙ ap (λ n. way_of factor n shape way.step) (sym long);
    taken = λ before low. ap (λ n. is_taken (row_at after (way_of factor n shape before))) long ∙ taken_still (way_of factor (length rows) shape before) (way.taken before low);
  }

  reached_after : (at : ℕ) → is_taken (row_at after at) ≡ true → IsReached factor after (row_at after at).shape at
  reached_after at taken = ⊎_elim
      (λ (same : at ≡ place). subst (λ (r : Entry). IsReached factor after r.shape at) (sym (here at same)) (subst (IsReached factor after row.shape) (sym same) (reached_still row.shape place found.reached)))
      (λ (apart : at ≡ place → ⊥).
      subst (λ (r : Entry). IsReached factor after r.shape at) (sym (elsewhere at apart))
      (reached_still (row_at rows at).shape at (are.reached at (sym (ap is_taken (elsewhere at apart)) ∙ taken))))
      (cases_eq at place)

  once_after : (one other : ℕ) → is_taken (row_at after one) ≡ true → is_taken (row_at after other) ≡ true → (row_at after other).shape ≡ (row_at after one).shape → other ≡ one
  once_after one other taken more is = Prim.grind (arith, here one, here other, elsewhere one, elsewhere other, found.only one, found.only other, are.once one other)

  pub rows_put : IsShape row → AreRows factor (slice_set rows place row)
  unfolding after
  rows_put shape = record { reached = reached_after; once = once_after; shapes = All-set IsShape rows place row shape are.shapes }

-- ---- no place is taken
free_at : (rows : List Entry) (place : ℕ) → AllByRecursion (λ row. is_taken row ≡ false) rows → is_taken (row_at rows place) ≡ false
free_at [] place free = refl
free_at (first ∷ rows) zero free = free.0
free_at (first ∷ rows) (suc place) free = free_at rows place free.1

pub none_taken : (rows : List Entry) → AllByRecursion (λ row. is_taken row ≡ false) rows → taken_of rows ≡ []
none_taken [] free = refl
none_taken (first ∷ rows) free = ap (λ b. cond b (first ∷ taken_of rows) (taken_of rows)) free.0 ∙ none_taken rows free.1

pub rows_free : (factor : ℕ) (rows : List Entry) → AllByRecursion (λ row. is_taken row ≡ false) rows → All IsShape rows → AreRows factor rows
rows_free factor rows free shapes = record {
  reached = λ place taken. absurd (let none = free_at rows place free in cc);
  once = λ one other taken more is. absurd (let none = free_at rows one free in cc);
  shapes = shapes;
}

-- the places of a table that was made have copies of a row
pub all_copies : (P : Entry → Type 0) (rows old : List Entry) (places more : ℕ) (row : Entry) → old ≡ [] → rows ≡ take places old ++ replicate more row → P row → All P rows
all_copies P rows old places more row none is holds =
    subst (All P) (sym is) (All-append P (take places old) (replicate more row) (All-take P places old (subst (All P) (sym none) (All-nil P))) (All-replicate P more row holds))

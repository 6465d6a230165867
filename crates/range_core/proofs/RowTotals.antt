-- What rows count of each pattern, where each pattern has one row at most.
use Rattle.std.proofs.Common.{◌≡◌, ◌≢◌, ℕ, zero, suc, ◌+◌, ◌<◌, true, false, cond, List, [], ◌∷◌, ◌++◌, length, take, get_or, slice_set, Option, Some, None, All, refl, ap, ap₂, sym, ◌∙◌, arith, ⊎_elim}
use Rattle.std.proofs.lemmas.Bool.{cases_eq}
use Rattle.std.proofs.lemmas.Bool.Decides.{nat_tests}
use Rattle.std.proofs.lemmas.List.Elements.{All-nil, All-cons, All-head, All-tail}
use Rattle.range_core.specs.Entries.{IsShape, IsCountedEntry}
use Rattle.shape_dict.specs.declared.entries.Entry.{Entry}
use Rattle.range_core.specs.Totals.{Total, earlier, together, count_at, total_of}
use Rattle.range_core.specs.Rows.{is_taken, taken_of, row_at, IsFound}
use Rattle.range_core.specs.Inner.Sums.{summed_row}
use Rattle.std.proofs.lemmas.List.{take_more}
use Rattle.range_core.proofs.Adding.{together_none, together_assoc, count_other}

-- rows that are taken count something
pub taken_counted : (rows : List Entry) → All IsShape rows → All IsCountedEntry (taken_of rows)
taken_counted [] shapes = All-nil IsCountedEntry
taken_counted (row ∷ rows) shapes =
    let rest = taken_counted rows (All-tail IsShape row rows shapes) in
    elim (is_taken row) as (λ b. is_taken row ≡ b → All IsCountedEntry (cond b (row ∷ taken_of rows) (taken_of rows))) [
      | true ↦ λ taken. All-cons IsCountedEntry row (taken_of rows) (All-head IsShape row rows shapes, let some : 0 < row.there + row.played = Prim.grind (arith, nat_tests) in some) rest
      | false ↦ λ free. rest
    ] refl

-- no row but that of one place is of a pattern
abbrev pub StandsOnlyAt : List Entry → ℕ → ℕ → Type 0
StandsOnlyAt rows shape place = (other : ℕ) → is_taken (row_at rows other) ≡ true → (row_at rows other).shape ≡ shape → other ≡ place

only_later : (first : Entry) (rows : List Entry) (shape place : ℕ) → StandsOnlyAt (first ∷ rows) shape (suc place) → StandsOnlyAt rows shape place
only_later first rows shape place only other taken is = omega (arith, only (suc other) taken is)

-- what a row counts of a pattern, where it counts something
abbrev pub count_of : ℕ → Entry → Option Total
count_of shape row = cond (is_taken row) (count_at shape row) None

total-cons : (row : Entry) (rows : List Entry) (shape : ℕ) → total_of shape (taken_of (row ∷ rows)) ≡ together (count_of shape row) (total_of shape (taken_of rows))
total-cons row rows shape =
    elim (is_taken row) as (λ b. total_of shape (cond b (row ∷ taken_of rows) (taken_of rows)) ≡ together (cond b (count_at shape row) None) (total_of shape (taken_of rows)))
    [ true ↦ refl | false ↦ refl ]

-- the first rows, and one more
taken_push : (shape : ℕ) (rows : List Entry) (row : Entry) → total_of shape (taken_of (rows ++ row ∷ [])) ≡ together (total_of shape (taken_of rows)) (count_of shape row)
taken_push shape [] row = total-cons row [] shape ∙ together_none (count_of shape row)
taken_push shape (first ∷ rows) row =
    total-cons first (rows ++ row ∷ []) shape
    ∙ ap (together (count_of shape first)) (taken_push shape rows row)
    ∙ sym (together_assoc (count_of shape first) (total_of shape (taken_of rows)) (count_of shape row))
    ∙ ap (λ t. together t (count_of shape row)) (sym (total-cons first rows shape))

pub total_next_taken : (shape : ℕ) (rows : List Entry) (i : ℕ) (row : Entry) → i < length rows → row ≡ get_or rows i row →
    total_of shape (taken_of (take (i + 1) rows)) ≡ together (total_of shape (taken_of (take i rows))) (count_of shape row)
total_next_taken shape rows i row inside is =
    ap (λ l. total_of shape (taken_of l)) (take_more rows i row inside ∙ ap (λ (y : Entry). take i rows ++ y ∷ []) (sym is)) ∙ taken_push shape (take i rows) row

-- a row of another pattern, or one that counts nothing
none_of : (row : Entry) (shape : ℕ) → (is_taken row ≡ true → row.shape ≡ shape → ⊥) → count_of shape row ≡ None
none_of row shape none =
    elim (is_taken row) as (λ b. is_taken row ≡ b → cond b (count_at shape row) None ≡ None)
    [ true ↦ λ taken. count_other shape row (none taken) | false ↦ λ free. refl ] refl

-- where no row is of a pattern
none_found : (rows : List Entry) (shape : ℕ) → ((other : ℕ) → is_taken (row_at rows other) ≡ true → (row_at rows other).shape ≡ shape → ⊥) → total_of shape (taken_of rows) ≡ None
none_found [] shape none = refl
none_found (first ∷ rows) shape none =
    total-cons first rows shape ∙ ap₂ together (none_of first shape (none 0)) (none_found rows shape (λ other. none (suc other)))

-- where a place has the row of a pattern, or is free and the pattern has no row
found_total : (rows : List Entry) (place shape : ℕ) → place < length rows → StandsOnlyAt rows shape place →
    total_of shape (taken_of rows) ≡ count_of shape (row_at rows place)
found_total [] place shape within only = absurd (omega (arith, within))
found_total (first ∷ rows) zero shape within only =
    total-cons first rows shape
    ∙ ap (together (count_of shape first)) (none_found rows shape (λ other taken is. absurd (omega (arith, only (suc other) taken is))))
    ∙ together_none (count_of shape first)
found_total (first ∷ rows) (suc place) shape within only =
    total-cons first rows shape
    ∙ ap₂ together (none_of first shape (λ taken is. absurd (omega (arith, only 0 taken is)))) (found_total rows place shape (omega (arith, within)) (only_later first rows shape place only))

-- a row is put at a place, whose row was of the same pattern if it counted something: other patterns count what they did
put_others : (rows : List Entry) (place shape : ℕ) (row : Entry) → row.shape ≢ shape → (is_taken (row_at rows place) ≡ true → (row_at rows place).shape ≡ row.shape) →
    total_of shape (taken_of (slice_set rows place row)) ≡ total_of shape (taken_of rows)
put_others [] place shape row other same = refl
put_others (first ∷ rows) zero shape row other same =
    total-cons row rows shape
    ∙ ap (λ t. together t (total_of shape (taken_of rows))) (none_of row shape (λ taken is. other is) ∙ sym (none_of first shape (λ taken is. other (sym (same taken) ∙ is))))
    ∙ sym (total-cons first rows shape)
put_others (first ∷ rows) (suc place) shape row other same =
    total-cons first (slice_set rows place row) shape
    ∙ ap (together (count_of shape first)) (put_others rows place shape row other same)
    ∙ sym (total-cons first rows shape)

-- and its own pattern counts what the row does
put_own : (rows : List Entry) (place : ℕ) (row : Entry) → place < length rows → StandsOnlyAt rows row.shape place →
    total_of row.shape (taken_of (slice_set rows place row)) ≡ count_of row.shape row
put_own [] place row within only = absurd (omega (arith, within))
put_own (first ∷ rows) zero row within only =
    total-cons row rows row.shape
    ∙ ap (together (count_of row.shape row)) (none_found rows row.shape (λ other taken is. absurd (omega (arith, only (suc other) taken is))))
    ∙ together_none (count_of row.shape row)
put_own (first ∷ rows) (suc place) row within only =
    total-cons first (slice_set rows place row) row.shape
    ∙ ap₂ together (none_of first row.shape (λ taken is. absurd (omega (arith, only 0 taken is)))) (put_own rows place row (omega (arith, within)) (only_later first rows row.shape place only))

-- ---- an entry is counted besides
pub summed_shape : (row entry : Entry) → (summed_row row entry).shape ≡ entry.shape
summed_shape row entry = elim (is_taken row) as (λ b. (cond b (let e : Entry = record entry { there = row.there + entry.there; played = row.played + entry.played; first = earlier row.first entry.first } in e) entry).shape ≡ entry.shape)
    [ true ↦ refl | false ↦ refl ]

pub summed_taken : (row entry : Entry) → 0 < entry.there + entry.played → is_taken (summed_row row entry) ≡ true
summed_taken row entry some = Prim.grind (arith, nat_tests)

-- what an entry counts of its own pattern
own : (entry : Entry) → count_at entry.shape entry ≡ Some (record { there = entry.there; played = entry.played; first = entry.first })
own entry = Prim.grind (arith, nat_tests)

summed_own : (row entry : Entry) → 0 < entry.there + entry.played → (is_taken row ≡ true → row.shape ≡ entry.shape) →
    count_of entry.shape (summed_row row entry) ≡ together (count_of entry.shape row) (count_at entry.shape entry)
summed_own row entry some same =
    let taken = summed_taken row entry some in
    let here = own entry in
    Prim.grind (arith, nat_tests)

pub put_sums : {factor : ℕ} (rows : List Entry) (place : ℕ) (entry row more : Entry) → IsFound factor rows entry.shape place → 0 < entry.there + entry.played → row ≡ row_at rows place →
    more ≡ summed_row row entry → (shape : ℕ) → total_of shape (taken_of (slice_set rows place more)) ≡ together (total_of shape (taken_of rows)) (count_at shape entry)
put_sums rows place entry row more found some read is shape =
    rw (is, read)
    (let old = row_at rows place in
    let new = summed_row old entry in
    let named : new.shape ≡ entry.shape = summed_shape old entry in
    ⊎_elim
    (λ (e : entry.shape ≡ shape).
    rw (← e)
    (ap (λ s. total_of s (taken_of (slice_set rows place new))) (sym named)
    ∙ put_own rows place new found.within (λ other taken same. found.only other taken (same ∙ named))
    ∙ ap (λ s. count_of s new) named
    ∙ summed_own old entry some found.same
    ∙ ap (λ t. together t (count_at entry.shape entry)) (sym (found_total rows place entry.shape found.within found.only))))
    (λ (n : entry.shape ≢ shape).
    put_others rows place shape new (λ e. n (sym named ∙ e)) (λ taken. found.same taken ∙ sym named)
    ∙ sym (together_none (total_of shape (taken_of rows)))
    ∙ ap (together (total_of shape (taken_of rows))) (sym (count_other shape entry n)))
    (cases_eq entry.shape shape))

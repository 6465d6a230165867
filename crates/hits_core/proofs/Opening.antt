-- Points that have to be looked at, one after another.
use Rattle.std.proofs.Common.{◌≡◌, ℕ, zero, suc, ◌+◌, ◌-◌, ◌^◌, ◌<◌, ◌≤◌, inl, inr, ⊎_elim, Bool, true, false, cond, List, [], ◌∷◌, ◌++◌, length, map, replicate, slice_index, slice_set, bit_or, append_assoc, refl, ap, ap₂, sym, subst, ◌∙◌, arith, length-set, get_or-set_same, get_or-set_other}
use Rattle.std.specs.List.{flat_map}
use Rattle.std.specs.Int.{bit_at}
use Rattle.std.proofs.lemmas.Bool.{cases_eq, cases_lt}
use Rattle.std.proofs.lemmas.List.{append-nil, get_or-replicate, length-replicate}
use Rattle.std.proofs.lemmas.Nat.{pow_pos, pow_below, or_lt}
use Rattle.std.proofs.lemmas.Nat.Bits.{bit_at_ones, bit_at_or, bit_at-lt, bit_at-zero, bit_at-pow_same}
use Rattle.go_board.specs.Board.{position_of}
use Rattle.go_board.specs.declared.points.Point.{Point}
use Rattle.go_board.specs.declared.points.Colour.{Colour}
use Rattle.shape_core.specs.Field.{Kept}
use Rattle.shape_core.specs.Word.{count_from}
use Rattle.tally_core.specs.Occasions.{is_empty}
use Rattle.tally_core.specs.Counts.{row_of}
use Rattle.tally_core.proofs.Rows.{count_from-first, kept-cons}
use Rattle.hits_core.specs.declared.looking.Moment.{Moment}
use Rattle.hits_core.specs.Wanted.{wanted_at}
use Rattle.hits_core.specs.Inner.Finding.{hit_in}
use Rattle.hits_core.specs.Inner.Watching.{hits_for, hits_over, HasNone, IsOpenAt, IsBitOrNone, IsOpenRow, AreOpen}

module _ (words : List ℕ) (field : Kept) (moment : Moment) where
  -- the hits of the first of some points, then those of the others
  pub over-cons : (q : Point) (points : List Point) → hits_over words field moment (q ∷ points) ≡ hits_over words field moment (q ∷ []) ++ hits_over words field moment points
  over-cons q points = kept-cons (hits_for words field moment) (λ q. is_empty (position_of field.board q)) q points

  pub over-append : (points others : List Point) → hits_over words field moment (points ++ others) ≡ hits_over words field moment points ++ hits_over words field moment others
  over-append [] others = refl
  over-append (q ∷ points) others =
      over-cons q (points ++ others)
      ∙ ap (λ hits. hits_over words field moment (q ∷ []) ++ hits) (over-append points others)
      ∙ sym (append_assoc (hits_over words field moment (q ∷ [])) (hits_over words field moment points) (hits_over words field moment others))
      ∙ ap (λ hits. hits ++ hits_over words field moment others) (sym (over-cons q points))

  -- a point without wanted patterns has no hits
  pub none-over : (q : Point) → HasNone words field moment.mover q → hits_over words field moment (q ∷ []) ≡ []
  none-over q none = by_test (is_empty (position_of field.board q)) none
    where
      by_test : (b : Bool) → flat_map (wanted_at words field.board.size (position_of field.board) moment.mover) (cond b (q ∷ []) []) ≡ [] →
          flat_map (hits_for words field moment) (cond b (q ∷ []) []) ≡ []
      by_test true none = ap (λ ws. map (hit_in moment q) ws ++ []) (sym (append-nil (wanted_at words field.board.size (position_of field.board) moment.mover q)) ∙ none)
      by_test false none = refl

  -- so have points without any
  pub none-over-row : (row : ℕ) → IsOpenRow words field moment.mover row 0 → hits_over words field moment (row_of field.board.size row) ≡ []
  none-over-row row is =
      over-none 0 field.board.size.columns (λ k low below. ⊎_elim
      (λ (set : bit_at 0 k ≡ 1). absurd (omega (arith, set, bit_at-zero k)))
      (λ (none : HasNone words field moment.mover (record { column = k; row = row })). none)
      (is.each k (omega (arith, below))))
    where
      over-none : (first n : ℕ) → ((k : ℕ) → first ≤ k → k < first + n → HasNone words field moment.mover (record { column = k; row = row })) →
          hits_over words field moment (map (λ k. record { column = k; row = row }) (count_from first n)) ≡ []
      over-none first zero none = refl
      over-none first (suc n) none =
          over-cons (record { column = first; row = row }) (map (λ k. record { column = k; row = row }) (count_from (suc first) n))
          ∙ ap₂ (λ xs ys. xs ++ ys) (none-over (record { column = first; row = row }) (none first (omega arith) (omega arith)))
          (over-none (suc first) n (λ k low below. none k (omega (arith, low)) (omega (arith, below))))

  -- the points of a row from a column on
  pub row-first : (row column last : ℕ) → column < last →
      hits_over words field moment (map (λ k. record { column = k; row = row }) (count_from column (last - column)))
      ≡ hits_over words field moment (record { column = column; row = row } ∷ [])
      ++ hits_over words field moment (map (λ k. record { column = k; row = row }) (count_from (column + 1) (last - (column + 1))))
  row-first row column last inside =
      let at : ℕ → Point = λ k. record { column = k; row = row } in
      ap (λ ks. hits_over words field moment (map at ks)) (count_from-first last column inside)
      ∙ over-cons (at column) (map at (count_from (column + 1) (last - (column + 1))))

  -- the rows from a row on
  pub rows-first : (row last : ℕ) → row < last →
      hits_over words field moment (flat_map (row_of field.board.size) (count_from row (last - row)))
      ≡ hits_over words field moment (row_of field.board.size row)
      ++ hits_over words field moment (flat_map (row_of field.board.size) (count_from (row + 1) (last - (row + 1))))
  rows-first row last inside =
      ap (λ ks. hits_over words field moment (flat_map (row_of field.board.size) ks)) (count_from-first last row inside)
      ∙ over-append (row_of field.board.size row) (flat_map (row_of field.board.size) (count_from (row + 1) (last - (row + 1))))

-- ---- bits

kept-bit : (left bit k : ℕ) → bit_at left k ≡ 1 → bit_at (bit_or left bit) k ≡ 1
kept-bit left bit k set = bit_at_or left bit k ∙ omega (arith, set, bit_at-lt bit k)

new-bit : (left k : ℕ) → bit_at (bit_or left (2 ^ k)) k ≡ 1
new-bit left k = bit_at_or left (2 ^ k) k ∙ omega (arith, bit_at-pow_same k, bit_at-lt left k)

-- the bits of a row before a column are those of its points that have wanted patterns
pub record AreOpenBefore (words : List ℕ) (field : Kept) (mover : Colour) (row column left : ℕ) : Type 0 where
  pub few : left < 2 ^ field.board.size.columns
  pub each : (k : ℕ) → k < column → IsOpenAt words field mover left (record { column = k; row = row })

pub before-begins : (words : List ℕ) (field : Kept) (mover : Colour) (row : ℕ) → AreOpenBefore words field mover row 0 0
before-begins words field mover row = record { few = pow_pos field.board.size.columns; each = λ k below. absurd (omega arith) }

pub before-steps : (words : List ℕ) (field : Kept) (mover : Colour) (row column left bit : ℕ) → column < field.board.size.columns →
    AreOpenBefore words field mover row column left → IsBitOrNone words field mover bit (record { column = column; row = row }) →
    AreOpenBefore words field mover row (column + 1) (bit_or left bit)
before-steps words field mover row column left bit inside is new = record {
  few = or_lt field.board.size.columns left bit is.few (⊎_elim
      (λ (set : bit ≡ 2 ^ column). omega (arith, set, pow_below column field.board.size.columns inside))
      (λ (none : (bit ≡ 0) × HasNone words field mover (record { column = column; row = row })). omega (arith, none.0, pow_pos field.board.size.columns))
      new);
  each = λ k below. ⊎_elim
      (λ (earlier : k < column).
      ⊎_elim
      (λ (set : bit_at left k ≡ 1). inl (kept-bit left bit k set))
      (λ (none : HasNone words field mover (record { column = k; row = row })). inr none)
      (is.each k earlier))
      (λ (late : column ≤ k).
      let same : k ≡ column = omega (arith, below, late) in
      subst (λ j. IsOpenAt words field mover (bit_or left bit) (record { column = j; row = row })) (sym same)
      (⊎_elim
      (λ (set : bit ≡ 2 ^ column). inl (ap (λ b. bit_at (bit_or left b) column) set ∙ new-bit left column))
      (λ (none : (bit ≡ 0) × HasNone words field mover (record { column = column; row = row })). inr none.1)
      new))
      (cases_lt k column);
}

pub before-ends : (words : List ℕ) (field : Kept) (mover : Colour) (row column left : ℕ) → field.board.size.columns ≤ column → AreOpenBefore words field mover row column left →
    IsOpenRow words field mover row left
before-ends words field mover row column left all is = record { few = is.few; each = λ k below. is.each k (omega (arith, below, all)) }

-- a row was looked at again
pub open-set : (words : List ℕ) (field : Kept) (mover : Colour) (open_rows : List ℕ) (row bits : ℕ) → row < field.board.size.rows → AreOpen words field mover open_rows →
    IsOpenRow words field mover row bits → AreOpen words field mover (slice_set open_rows row bits)
open-set words field mover open_rows row bits inside are is = record {
  rows = length-set open_rows row bits ∙ are.rows;
  each = λ k below. ⊎_elim
      (λ (same : k ≡ row).
      subst (IsOpenRow words field mover k) (sym (ap (slice_index (slice_set open_rows row bits)) same ∙ get_or-set_same open_rows row bits 0 (omega (arith, inside, are.rows))))
      (subst (λ j. IsOpenRow words field mover j bits) (sym same) is))
      (λ (other : k ≡ row → ⊥).
      subst (IsOpenRow words field mover k) (sym (get_or-set_other open_rows row k bits 0 other)) (are.each k below))
      (cases_eq k row);
}

-- at first every point has to be looked at
pub open-begins : (words : List ℕ) (field : Kept) (mover : Colour) (open_rows : List ℕ) → open_rows ≡ replicate field.board.size.rows (2 ^ field.board.size.columns - 1) →
    AreOpen words field mover open_rows
open-begins words field mover open_rows is =
    let full = 2 ^ field.board.size.columns - 1 in
    record {
      rows = ap length is ∙ length-replicate field.board.size.rows full;
      each = λ row below. subst (IsOpenRow words field mover row)
          (sym (ap (λ rows. slice_index rows row) is ∙ get_or-replicate field.board.size.rows row full 0 below))
          (record {
            few = omega (arith, pow_pos field.board.size.columns);
            each = λ column inside. inl (bit_at_ones field.board.size.columns column inside);
          });
    }

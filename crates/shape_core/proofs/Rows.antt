-- The cells of rows, one row after another.
use Rattle.std.proofs.Common.{◌≡◌, ℕ, zero, suc, ◌+◌, ◌-◌, ◌*◌, ◌<◌, ◌≤◌, ◌&&◌, Bool, true, ltb, List, [], ◌∷◌, length, map, get_or, take, sym, refl, ap, subst, ◌∙◌, arith, length-append, append-nil}
use Rattle.std.specs.List.{list_all}
use Rattle.std.proofs.lemmas.Bool.{and_parts, ltb-true}
use Rattle.std.proofs.lemmas.List.{length-map, get_or-map, take_more}
use Rattle.std.proofs.lemmas.List.Sums.{AllPass-from_list_all}
use Rattle.std.proofs.lemmas.List.Concat.{get_or-flat_map}
use Rattle.std.proofs.lemmas.List.Folds.{length-flat_map-take}
use Rattle.std.proofs.lemmas.Grind.{flat_map-append}
use Rattle.go_board.specs.declared.points.Point.{Point}
use Rattle.shape_core.specs.declared.words.Kind.{Kind}
use Rattle.shape_core.specs.declared.words.Kind.TheVariants as kind
use Rattle.shape_core.specs.Offset.{offsets_of}
use Rattle.shape_core.specs.Word.{count_from}
use Rattle.shape_core.specs.Inner.Table.{Sees, SeesInRow, offset_of, cells_in, cells_of, rows_of}
use Rattle.shape_core.proofs.Images.{count_from-at}

length-count_from : (first n : ℕ) → length (count_from first n) ≡ n
length-count_from first zero = refl
length-count_from first (suc n) = omega (arith, length-count_from (suc first) n)

length-cells_in : (row : ℕ × ℕ) → length (cells_in row) ≡ 2 * row.0 + 1
length-cells_in row = length-map (count_from 0 (2 * row.0 + 1)) (λ k. (3 - row.0 + k, row.1)) ∙ length-count_from 0 (2 * row.0 + 1)

-- a cell of a row
cell_at : (rows : List (ℕ × ℕ)) (i j : ℕ) → i < length rows → j < 2 * (get_or rows i (0, 0)).0 + 1 →
    get_or (cells_of rows) (length (cells_of (take i rows)) + j) (0, 0) ≡ (3 - (get_or rows i (0, 0)).0 + j, (get_or rows i (0, 0)).1)
cell_at rows i j h l =
    let row = get_or rows i (0, 0) in
    get_or-flat_map cells_in rows i j (0, 0) (0, 0) h (omega (arith, length-cells_in row))
    ∙ get_or-map (λ k. (3 - row.0 + k, row.1)) (count_from 0 (2 * row.0 + 1)) j 0 (0, 0) (omega (arith, length-count_from 0 (2 * row.0 + 1)))
    ∙ ap (λ k. (3 - row.0 + k, row.1)) (count_from-at (2 * row.0 + 1) 0 j l ∙ (omega arith))

-- the first cell of a row of a square
pub square_first : (i : ℕ) → i < 5 → 5 * i ≡ length (cells_of (take i (rows_of kind.Square)))
square_first zero h = refl
square_first (suc zero) h = refl
square_first (suc (suc zero)) h = refl
square_first (suc (suc (suc zero))) h = refl
square_first (suc (suc (suc (suc zero)))) h = refl
square_first (suc (suc (suc (suc (suc i))))) h = absurd (omega arith)

-- the rows of a kind have its cells, none further than three from the middle
pub rows_cells : (k : Kind) → length (cells_of (rows_of k)) ≡ 25
rows_cells kind.Square = refl
rows_cells kind.Diamond = refl

pub rows_offsets : (k : Kind) → map offset_of (cells_of (rows_of k)) ≡ offsets_of k
rows_offsets kind.Square = refl
rows_offsets kind.Diamond = refl

near_rows : Kind → Bool
near_rows k = list_all (λ (row : ℕ × ℕ). ltb row.0 4 && ltb row.1 7) (rows_of k)

rows_near : (k : Kind) → near_rows k ≡ true
unfolding near_rows
rows_near kind.Square = refl
rows_near kind.Diamond = refl

pub row_near : (k : Kind) (i : ℕ) → i < length (rows_of k) → ((get_or (rows_of k) i (0, 0)).0 < 4) × ((get_or (rows_of k) i (0, 0)).1 < 7)
unfolding near_rows
row_near k i h =
    let row = get_or (rows_of k) i (0, 0) in
    let both = and_parts (ltb row.0 4) (ltb row.1 7) (AllPass-from_list_all (λ (row : ℕ × ℕ). ltb row.0 4 && ltb row.1 7) (rows_of k) (rows_near k) i (0, 0) h) in
    (ltb-true row.0 4 both.0, ltb-true row.1 7 both.1)

-- the cells of one row more
pub cells_more : (rows : List (ℕ × ℕ)) (i : ℕ) → i < length rows →
    length (cells_of (take (i + 1) rows)) ≡ length (cells_of (take i rows)) + (2 * (get_or rows i (0, 0)).0 + 1)
cells_more rows i h =
    let row = get_or rows i (0, 0) in
    ap (λ some. length (cells_of some)) (take_more rows i (0, 0) h)
    ∙ ap length (flat_map-append cells_in (take i rows) (row ∷ []))
    ∙ length-append (cells_of (take i rows)) (cells_of (row ∷ []))
    ∙ ap (λ cells. length (cells_of (take i rows)) + length cells) (append-nil (cells_in row))
    ∙ ap (λ n. length (cells_of (take i rows)) + n) (length-cells_in row)

pub cells_fit : (rows : List (ℕ × ℕ)) (i : ℕ) → i < length rows →
    length (cells_of (take i rows)) + (2 * (get_or rows i (0, 0)).0 + 1) ≤ length (cells_of rows)
cells_fit rows i h = omega (arith, length-flat_map-take cells_in rows i (0, 0) h, length-cells_in (get_or rows i (0, 0)))

-- the cell of a row in which a point has another
pub sees_there : (rows : List (ℕ × ℕ)) (i : ℕ) (q p : Point) → i < length rows → (get_or rows i (0, 0)).0 ≤ 3 → SeesInRow q (get_or rows i (0, 0)) p →
    Sees q (get_or (cells_of rows) (length (cells_of (take i rows)) + (p.column + (get_or rows i (0, 0)).0 - q.column)) (0, 0)) p
sees_there rows i q p h side sees =
    rw (cell_at rows i (p.column + (get_or rows i (0, 0)).0 - q.column) h (omega (arith, sees.1, sees.2)))
    ((omega (arith, sees.1, sees.2, side)), sees.0)

-- and it is in no other cell of the row
pub sees_only : (rows : List (ℕ × ℕ)) (i m : ℕ) (q p : Point) → i < length rows → (get_or rows i (0, 0)).0 ≤ 3 →
    length (cells_of (take i rows)) ≤ m → m < length (cells_of (take i rows)) + (2 * (get_or rows i (0, 0)).0 + 1) → Sees q (get_or (cells_of rows) m (0, 0)) p →
    SeesInRow q (get_or rows i (0, 0)) p × (m ≡ length (cells_of (take i rows)) + (p.column + (get_or rows i (0, 0)).0 - q.column))
sees_only rows i m q p h side low high sees =
    let row = get_or rows i (0, 0) in
    let first = length (cells_of (take i rows)) in
    let j = m - first in
    let at : first + j ≡ m = omega arith in
    let cell : get_or (cells_of rows) m (0, 0) ≡ (3 - row.0 + j, row.1) = ap (λ n. get_or (cells_of rows) n (0, 0)) (sym at) ∙ cell_at rows i j h (omega arith) in
    let seen : Sees q (3 - row.0 + j, row.1) p = subst (λ x. Sees q x p) cell sees in
    ((seen.1, (omega (arith, seen.0, side)), (omega (arith, seen.0, side))), (omega (arith, seen.0, side)))

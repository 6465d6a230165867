-- The patterns that stay at all points, counted as the points come in a list and as they lie on the board.
use Rattle.std.proofs.Common.{◌≡◌, ℕ, zero, suc, ◌+◌, ◌*◌, ◌≤◌, ◌<◌, List, [], length, map, drop, get_or, ap, sym, arith, drop_of_length-le}
use Rattle.std.specs.Prelude.{sum_by}
use Rattle.std.specs.List.{flat_map}
use Rattle.std.proofs.lemmas.List.Sums.{sum_by-drop_more}
use Rattle.std.proofs.lemmas.List.Concat.{flat_map-append}
use Rattle.std.proofs.lemmas.Nat.{mul-add-lt}
use Rattle.std.proofs.Math.Nat.{mul_comm}
use Rattle.go_board.specs.Extent.{Extent}
use Rattle.go_board.specs.Point.{IsOn, index_of}
use Rattle.go_board.specs.Position.{Position}
use Rattle.go_board.specs.declared.points.Point.{Point}
use Rattle.go_board.specs.declared.points.Colour.{Colour}
use Rattle.shape_core.specs.declared.words.Kinds.{Kinds}
use Rattle.shape_core.specs.Word.{count_from}
use Rattle.tally_core.specs.Counts.{row_of}
use Rattle.tally_core.specs.Inner.Times.{times_in}
use Rattle.tally_core.specs.Inner.Standing.{patterns_staying, patterns_here, patterns_seen, no_stays, IsSeen}
use Rattle.tally_core.specs.declared.stays.Stays.{Stays}
use Rattle.tally_core.specs.declared.sides.Side.{Side}
use Rattle.tally_core.proofs.Lasting.{times-append}

-- each point's list has a pattern as often as what is at its place says
abbrev SaysAll : Extent → (Point → List ℕ) → (Stays → ℕ) → List Stays → ℕ → Type 0
SaysAll size here said points shape = (q : Point) → IsOn size q → times_in (here q) shape ≡ said (get_or points (index_of size q) no_stays)

row-sum : (size : Extent) (here : Point → List ℕ) (said : Stays → ℕ) (points : List Stays) (shape row k n : ℕ) → SaysAll size here said points shape → length points ≡ size.columns * size.rows →
    row < size.rows → k + n ≤ size.columns →
    times_in (flat_map here (map (λ column. record { column = column; row = row }) (count_from k n))) shape + sum_by said (drop (row * size.columns + (k + n)) points)
    ≡ sum_by said (drop (row * size.columns + k) points)
row-sum size here said points shape row k zero says room low fits =
    omega (arith, ap (λ i. sum_by said (drop i points)) (let e : row * size.columns + (k + 0) ≡ row * size.columns + k = omega arith in e))
row-sum size here said points shape row k (suc n) says room low fits =
    let at = row * size.columns + k in
    let rest = flat_map here (map (λ column. record { column = column; row = row }) (count_from (suc k) n)) in
    let inside : at < length points = omega (arith, mul-add-lt row size.columns k size.rows low (omega arith), room) in
    let next : row * size.columns + suc k ≡ at + 1 = omega arith in
    let last : row * size.columns + (k + suc n) ≡ row * size.columns + (suc k + n) = omega arith in
    omega (
      arith,
      times-append shape (here (record { column = k; row = row })) rest,
      says (record { column = k; row = row }) (omega arith, low),
      sum_by-drop_more said points at no_stays inside,
      ap (λ i. sum_by said (drop i points)) next,
      ap (λ i. sum_by said (drop i points)) last,
      row-sum size here said points shape row (suc k) n says room low (omega arith),
    )

next-row : (row columns : ℕ) → row * columns + (0 + columns) ≡ suc row * columns
next-row row columns = omega arith

rows-sum : (size : Extent) (here : Point → List ℕ) (said : Stays → ℕ) (points : List Stays) (shape row n : ℕ) → SaysAll size here said points shape → length points ≡ size.columns * size.rows →
    row + n ≤ size.rows →
    times_in (flat_map here (flat_map (row_of size) (count_from row n))) shape + sum_by said (drop ((row + n) * size.columns) points)
    ≡ sum_by said (drop (row * size.columns) points)
rows-sum size here said points shape row zero says room fits =
    omega (arith, ap (λ i. sum_by said (drop (i * size.columns) points)) (let e : row + 0 ≡ row = omega arith in e))
rows-sum size here said points shape row (suc n) says room fits =
    let D = λ (i : ℕ). sum_by said (drop i points) in
    let first = row_of size row in
    let rest = flat_map (row_of size) (count_from (suc row) n) in
    let start : row * size.columns + 0 ≡ row * size.columns = omega arith in
    let last : row + suc n ≡ suc row + n = omega arith in
    omega (
      arith,
      ap (λ ps. times_in ps shape) (flat_map-append here first rest),
      times-append shape (flat_map here first) (flat_map here rest),
      row-sum size here said points shape row 0 size.columns says room (omega arith) (omega arith),
      ap D start,
      ap D (next-row row size.columns),
      ap (λ i. D (i * size.columns)) last,
      rows-sum size here said points shape (suc row) n says room (omega arith),
    )

-- what stays at all points is what is seen
pub seen-sum : (kinds : Kinds) (size : Extent) (position : Position) (mover : Colour) (shapes : List ℕ) (side : Side) (shape : ℕ) → IsSeen kinds size position mover shapes side →
    sum_by (λ stays. times_in (patterns_staying shapes stays) shape) side.points.items ≡ times_in (patterns_seen kinds size position mover) shape
seen-sum kinds size position mover shapes side shape seen =
    let said = λ (stays : Stays). times_in (patterns_staying shapes stays) shape in
    let points = side.points.items in
    let all = rows-sum size (patterns_here kinds size position mover) said points shape 0 size.rows (λ q on. ap (λ ps. times_in ps shape) (sym (seen.pending q on))) seen.standing.room (omega arith) in
    let end : drop ((0 + size.rows) * size.columns) points ≡ [] = drop_of_length-le points (omega (arith, seen.standing.room, mul_comm size.columns size.rows)) in
    let start : 0 * size.columns ≡ 0 = omega arith in
    omega (arith, all, ap (sum_by said) end, ap (λ i. sum_by said (drop i points)) start)

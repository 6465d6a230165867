-- The cells round a point: which point a cell is, and what its code is.
use Rattle.std.proofs.Common.{◌≡◌, ℕ, ◌+◌, ◌-◌, ◌<◌, ◌≤◌, List, map, length, get_or, Bool, true, false, cond, ltb, ◌&&◌, Option, Some, None, sym, refl, ap, ap₂, ◌∙◌, arith, ⊎_elim, ◌⊎◌, inl, inr}
use Rattle.std.proofs.lemmas.Bool.{cases_lt, lt-ltb, le-ltb}
use Rattle.std.proofs.lemmas.List.{length-map, get_or-map}
use Rattle.std.proofs.lemmas.List.Elements.{All-from_get_or}
use Rattle.go_board.specs.Extent.{Extent}
use Rattle.go_board.specs.Position.{Position}
use Rattle.go_board.specs.Point.{IsOn}
use Rattle.go_board.specs.declared.points.Point.{Point}
use Rattle.go_board.specs.declared.points.Stone.{Stone}
use Rattle.go_board.specs.declared.points.Stone.TheVariants as stone
use Rattle.shape_core.specs.declared.words.Kind.{Kind}
use Rattle.shape_core.specs.declared.words.Kind.TheVariants as kind
use Rattle.shape_core.specs.Offset.{Offset, offsets_of}
use Rattle.shape_core.specs.Inner.Table.{less_three, offset_of}
use Rattle.shape_core.specs.Word.{word_of, kind_of}
use Rattle.shape_core.specs.Around.{shifted, stone_code, code_there, code_around, word_around}
use Rattle.shape_core.specs.Inner.Table.{Sees}
use Rattle.shape_core.proofs.Codes.{AreCodes, kind_of-word_of}

shifted_there : (n a m : ℕ) → m + 3 ≡ n + a → shifted n (less_three a) ≡ Some m
shifted_there n a m e =
    ⊎_elim
    (λ (left : a < 3). let small : 2 - a < n = omega arith in rw (lt-ltb a 3 left) (rw (lt-ltb (2 - a) n small) (ap Some (omega arith))))
    (λ (right : 3 ≤ a). rw (le-ltb a 3 right) (ap Some (omega arith)))
    (cases_lt a 3)

shifted_none : (n a : ℕ) → n + a < 3 → shifted n (less_three a) ≡ None
shifted_none n a h =
    let left : a < 3 = omega arith in
    let small : n ≤ 2 - a = omega arith in
    rw (lt-ltb a 3 left) (rw (le-ltb (2 - a) n small) refl)

there_on : (size : Extent) (position : Position) (q : Point) → IsOn size q → code_there size position (Some q.column) (Some q.row) ≡ stone_code (position q)
there_on size position q on = rw (lt-ltb q.column size.columns on.0, lt-ltb q.row size.rows on.1) refl

-- a cell that is on the board has the code of its stone
pub code_around_on : (size : Extent) (position : Position) (p q : Point) (away : ℕ × ℕ) → IsOn size q → Sees p away q → code_around size position p (offset_of away) ≡ stone_code (position q)
code_around_on size position p q away on sees =
    ap₂ (code_there size position) (shifted_there p.column away.0 q.column (sym sees.0)) (shifted_there p.row away.1 q.row (sym sees.1))
    ∙ there_on size position q on

there_off : (size : Extent) (position : Position) (column row : ℕ) → ((column < size.columns) × (row < size.rows) → ⊥) → code_there size position (Some column) (Some row) ≡ 3
there_off size position column row off =
    ⊎_elim
    (λ (left : column < size.columns). ⊎_elim
    (λ (up : row < size.rows). absurd (off (left, up)))
    (λ (down : size.rows ≤ row). rw (lt-ltb column size.columns left, le-ltb row size.rows down) refl)
    (cases_lt row size.rows))
    (λ (right : size.columns ≤ column). rw (le-ltb column size.columns right) refl)
    (cases_lt column size.columns)

-- every other has the code 3
pub code_around_off : (size : Extent) (position : Position) (p : Point) (away : ℕ × ℕ) → ((q : Point) → IsOn size q → Sees p away q → ⊥) → code_around size position p (offset_of away) ≡ 3
code_around_off size position p away none =
    ⊎_elim
    (λ (left : p.column + away.0 < 3). ap (λ o. code_there size position o (shifted p.row (less_three away.1))) (shifted_none p.column away.0 left))
    (λ (right : 3 ≤ p.column + away.0). ⊎_elim
    (λ (up : p.row + away.1 < 3). ap₂ (code_there size position) (shifted_there p.column away.0 (p.column + away.0 - 3) (omega arith)) (shifted_none p.row away.1 up))
    (λ (down : 3 ≤ p.row + away.1).
    ap₂ (code_there size position) (shifted_there p.column away.0 (p.column + away.0 - 3) (omega arith)) (shifted_there p.row away.1 (p.row + away.1 - 3) (omega arith))
    ∙ there_off size position (p.column + away.0 - 3) (p.row + away.1 - 3) (λ on. none (record { column = p.column + away.0 - 3; row = p.row + away.1 - 3 }) on ((omega arith), (omega arith))))
    (cases_lt (p.row + away.1) 3))
    (cases_lt (p.column + away.0) 3)

stone_code-lt : (s : Stone) → stone_code s < 4
stone_code-lt stone.Empty = omega arith
stone_code-lt stone.Black = omega arith
stone_code-lt stone.White = omega arith

cond-lt : (b : Bool) (x y : ℕ) → x < 4 → y < 4 → cond b x y < 4
cond-lt true x y p q = p
cond-lt false x y p q = q

there-lt : (size : Extent) (position : Position) (column row : Option ℕ) → code_there size position column row < 4
there-lt size position None row = omega arith
there-lt size position (Some column) None = omega arith
there-lt size position (Some column) (Some row) =
    cond-lt (ltb column size.columns && ltb row size.rows) (stone_code (position (record { column = column; row = row }))) 3 (stone_code-lt (position (record { column = column; row = row }))) (omega arith)

code_around-lt : (size : Extent) (position : Position) (p : Point) (o : Offset) → code_around size position p o < 4
code_around-lt size position p o = there-lt size position (shifted p.column o.dx) (shifted p.row o.dy)

-- the codes of the cells at these offsets round a point
unfoldable pub codes_round : Extent → Position → Point → List Offset → List ℕ
codes_round size position p offsets = map (code_around size position p) offsets

pub get_or-codes_round : (size : Extent) (position : Position) (p : Point) (offsets : List Offset) (i : ℕ) (d : Offset) → i < length offsets → get_or (codes_round size position p offsets) i 0 ≡ code_around size position p (get_or offsets i d)
unfolding codes_round
get_or-codes_round size position p offsets i d h = get_or-map (code_around size position p) offsets i d 0 h

pub AreCodes-codes_round : (size : Extent) (position : Position) (p : Point) (offsets : List Offset) → length offsets ≡ 25 → AreCodes (codes_round size position p offsets)
unfolding codes_round
AreCodes-codes_round size position p offsets count =
    record {
      count = length-map offsets (code_around size position p) ∙ count;
      small = All-from_get_or (λ c. c < 4) (codes_round size position p offsets) 0
          (λ i l. rw (get_or-map (code_around size position p) offsets i (record { dx = less_three 0; dy = less_three 0 }) 0 (omega (arith, length-map offsets (code_around size position p))))
          (code_around-lt size position p (get_or offsets i (record { dx = less_three 0; dy = less_three 0 }))));
    }

pub word_around_is : (k : Kind) (size : Extent) (position : Position) (p : Point) → word_around k size position p ≡ word_of k (codes_round size position p (offsets_of k))
unfolding word_around codes_round
word_around_is k size position p = refl

offsets_count : (k : Kind) → length (offsets_of k) ≡ 25
offsets_count kind.Square = refl
offsets_count kind.Diamond = refl

pub kind_of-word_around : (k : Kind) (size : Extent) (position : Position) (p : Point) → kind_of (word_around k size position p) ≡ k
kind_of-word_around k size position p =
    let codes = codes_round size position p (offsets_of k) in
    ap kind_of (word_around_is k size position p) ∙ kind_of-word_of k codes (AreCodes-codes_round size position p (offsets_of k) (offsets_count k))

-- the point at a distance from another, or that there is none on the board
pub point_away : (size : Extent) (p : Point) (away : ℕ × ℕ) →
    ((q : Point) × IsOn size q × Sees p away q)
    ⊎ ((q : Point) → IsOn size q → Sees p away q → ⊥)
point_away size p away =
    let q : Point = record { column = p.column + away.0 - 3; row = p.row + away.1 - 3 } in
    ⊎_elim
    (λ (left : p.column + away.0 < 3). inr (λ r on sees. omega arith))
    (λ (right : 3 ≤ p.column + away.0). ⊎_elim
    (λ (up : p.row + away.1 < 3). inr (λ r on sees. omega arith))
    (λ (down : 3 ≤ p.row + away.1). ⊎_elim
    (λ (columns : q.column < size.columns). ⊎_elim
    (λ (rows : q.row < size.rows). inl (q, (columns, rows), ((omega arith), (omega arith))))
    (λ (rows : size.rows ≤ q.row). inr (λ r on sees. omega arith))
    (cases_lt q.row size.rows))
    (λ (columns : size.columns ≤ q.column). inr (λ r on sees. omega arith))
    (cases_lt q.column size.columns))
    (cases_lt (p.row + away.1) 3))
    (cases_lt (p.column + away.0) 3)

-- Words of which the first cells follow a stone placed at a point, and the others do not yet.
use Rattle.std.proofs.Common.{◌≡◌, ℕ, zero, suc, ◌+◌, ◌-◌, ◌*◌, ◌<◌, ◌≤◌, bit_xor, List, [], ◌∷◌, ◌++◌, map, length, get_or, set, take, drop, sym, refl, ap, ap₂, ◌∙◌, arith, ⊎_elim, ◌⊎◌, inl, inr, append_assoc, append-nil, length-take-le, length-drop, length-append, take_all}
use Rattle.std.proofs.lemmas.Bool.{cases_eq, cases_lt, eq-eqb, ne_eqb}
use Rattle.std.proofs.lemmas.List.{length-map, get_or-map, get_or-append_right, get_or-drop, take_more, drop_more, drop_all, set_at}
use Rattle.std.proofs.lemmas.List.Elements.{All-append, All-take, All-drop}
use Rattle.go_board.specs.Extent.{Extent}
use Rattle.go_board.specs.Point.{IsOn}
use Rattle.go_board.specs.Position.{Position, placed}
use Rattle.go_board.specs.declared.points.Point.{Point}
use Rattle.go_board.specs.declared.points.Stone.{Stone}
use Rattle.shape_core.specs.declared.words.Kind.{Kind}
use Rattle.shape_core.specs.Offset.{offsets_of}
use Rattle.shape_core.specs.Inner.Table.{offset_of, SeesInRow, cells_of}
use Rattle.shape_core.specs.Word.{word_of, code_at}
use Rattle.shape_core.specs.Inner.Word.{recoded, with_change}
use Rattle.shape_core.specs.Around.{stone_code, code_around, word_around}
use Rattle.shape_core.specs.Inner.Table.{Sees}
use Rattle.shape_core.proofs.Codes.{AreCodes, recoded-word_of, code_at-word_of}
use Rattle.shape_core.proofs.Recoding.{changed_twice}
use Rattle.shape_core.proofs.Rows.{cells_fit, sees_there, sees_only}
use Rattle.shape_core.proofs.Reach.{codes_round, get_or-codes_round, AreCodes-codes_round, code_around_on, code_around_off, point_away, word_around_is}

-- the first codes of one list, and then those of another
unfoldable pub mixed : ℕ → List ℕ → List ℕ → List ℕ
mixed i new old = take i new ++ drop i old

mixed_none : (new old : List ℕ) → mixed 0 new old ≡ old
unfolding mixed
mixed_none new old = refl

mixed_all : (new old : List ℕ) (i : ℕ) → length new ≤ i → length old ≤ i → mixed i new old ≡ new
unfolding mixed
mixed_all new old i p q = ap₂ ◌++◌ (take_all i new p) (drop_all i old q) ∙ append-nil new

AreCodes-mixed : (i : ℕ) (new old : List ℕ) → i ≤ 25 → AreCodes new → AreCodes old → AreCodes (mixed i new old)
unfolding mixed
AreCodes-mixed i new old h a b =
    record {
      count = omega (arith, length-append (take i new) (drop i old), length-take-le i new (omega (arith, a.count)), length-drop i old, a.count, b.count);
      small = All-append (λ c. c < 4) (take i new) (drop i old) (All-take (λ c. c < 4) i new a.small) (All-drop (λ c. c < 4) i old b.small);
    }

mixed_next : (i : ℕ) (new old : List ℕ) → i < length new → i < length old → mixed (i + 1) new old ≡ take i new ++ get_or new i 0 ∷ drop (i + 1) old
unfolding mixed
mixed_next i new old p q =
    ap (λ front. front ++ drop (i + 1) old) (take_more new i 0 p) ∙ append_assoc (take i new) (get_or new i 0 ∷ []) (drop (i + 1) old)

mixed_set : (i c : ℕ) (new old : List ℕ) → i < length new → i < length old → get_or new i 0 ≡ c → set (mixed i new old) i c ≡ mixed (i + 1) new old
unfolding mixed
mixed_set i c new old p q e =
    ap (λ back. set (take i new ++ back) i c) (drop_more old i 0 q)
    ∙ set_at (take i new) (get_or old i 0) (drop (i + 1) old) c i (length-take-le i new (omega arith))
    ∙ ap (λ x. take i new ++ x ∷ drop (i + 1) old) (sym e)
    ∙ sym (mixed_next i new old p q)

-- the cell after those that follow the stone
mixed_at : (i : ℕ) (new old : List ℕ) → i < length new → get_or (mixed i new old) i 0 ≡ get_or old i 0
unfolding mixed
mixed_at i new old h =
    get_or-append_right (take i new) (drop i old) i i 0 (length-take-le i new (omega arith)) (omega arith)
    ∙ get_or-drop i old (i - i) 0
    ∙ ap (λ n. get_or old n 0) (omega arith)

mixed_same : (i : ℕ) (new old : List ℕ) → i < length new → i < length old → get_or new i 0 ≡ get_or old i 0 → mixed (i + 1) new old ≡ mixed i new old
unfolding mixed
mixed_same i new old p q e =
    mixed_next i new old p q ∙ ap (λ x. take i new ++ x ∷ drop (i + 1) old) e ∙ ap (λ back. take i new ++ back) (sym (drop_more old i 0 q))

-- ---- a stone placed at a point

pub placed_there : (position : Position) (p : Point) (stone : Stone) → placed position p stone p ≡ stone
placed_there position p stone = rw (eq-eqb p.column p.column refl, eq-eqb p.row p.row refl) refl

pub placed_other : (position : Position) (p q : Point) (stone : Stone) → ((q.column ≡ p.column) × (q.row ≡ p.row) → ⊥) → placed position p stone q ≡ position q
placed_other position p q stone apart =
    ⊎_elim
    (λ (column : q.column ≡ p.column). ⊎_elim
    (λ (row : q.row ≡ p.row). absurd (apart (column, row)))
    (λ (row : q.row ≡ p.row → ⊥). rw (eq-eqb q.column p.column column, ne_eqb q.row p.row row) refl)
    (cases_eq q.row p.row))
    (λ (column : q.column ≡ p.column → ⊥). rw (ne_eqb q.column p.column column) refl)
    (cases_eq q.column p.column)

code_there : (size : Extent) (position : Position) (p q : Point) (stone : Stone) (away : ℕ × ℕ) → IsOn size p → Sees q away p → code_around size (placed position p stone) q (offset_of away) ≡ stone_code stone
code_there size position p q stone away on sees =
    code_around_on size (placed position p stone) q p away on sees ∙ ap stone_code (placed_there position p stone)

code_elsewhere : (size : Extent) (position : Position) (p q : Point) (stone : Stone) (away : ℕ × ℕ) → (Sees q away p → ⊥) → code_around size (placed position p stone) q (offset_of away) ≡ code_around size position q (offset_of away)
code_elsewhere size position p q stone away blind =
    ⊎_elim
    (λ (there : (r : Point) × IsOn size r × Sees q away r).
    let apart : (there.0.column ≡ p.column) × (there.0.row ≡ p.row) → ⊥ = λ same. blind ((omega (arith, there.2.0, same.0)), (omega (arith, there.2.1, same.1))) in
    code_around_on size (placed position p stone) q there.0 away there.1 there.2
    ∙ ap stone_code (placed_other position p there.0 stone apart)
    ∙ sym (code_around_on size position q there.0 away there.1 there.2))
    (λ (none : (r : Point) → IsOn size r → Sees q away r → ⊥).
    code_around_off size (placed position p stone) q away none ∙ sym (code_around_off size position q away none))
    (point_away size q away)

sees_or_not : (q : Point) (away : ℕ × ℕ) (p : Point) → Sees q away p ⊎ (Sees q away p → ⊥)
sees_or_not q away p =
    ⊎_elim
    (λ (column : q.column + away.0 ≡ p.column + 3). ⊎_elim
    (λ (row : q.row + away.1 ≡ p.row + 3). inl (column, row))
    (λ (row : q.row + away.1 ≡ p.row + 3 → ⊥). inr (λ sees. row sees.1))
    (cases_eq (q.row + away.1) (p.row + 3)))
    (λ (column : q.column + away.0 ≡ p.column + 3 → ⊥). inr (λ sees. column sees.0))
    (cases_eq (q.column + away.0) (p.column + 3))

pub sees_in_row_or_not : (q : Point) (row : ℕ × ℕ) (p : Point) → SeesInRow q row p ⊎ (SeesInRow q row p → ⊥)
sees_in_row_or_not q row p =
    ⊎_elim
    (λ (down : q.row + row.1 ≡ p.row + 3). ⊎_elim
    (λ (left : q.column < p.column + row.0 + 1). ⊎_elim
    (λ (right : p.column < q.column + row.0 + 1). inl (down, (omega arith), (omega arith)))
    (λ (far : q.column + row.0 + 1 ≤ p.column). inr (λ sees. omega (arith, sees.2)))
    (cases_lt p.column (q.column + row.0 + 1)))
    (λ (far : p.column + row.0 + 1 ≤ q.column). inr (λ sees. omega (arith, sees.1)))
    (cases_lt q.column (p.column + row.0 + 1)))
    (λ (other : q.row + row.1 ≡ p.row + 3 → ⊥). inr (λ sees. other sees.0))
    (cases_eq (q.row + row.1) (p.row + 3))

-- ---- one cell more

-- the codes round q, of which those of the first cells follow the stone
pub mixed_round : ℕ → Extent → Position → Point → Stone → Point → List (ℕ × ℕ) → List ℕ
mixed_round i size position p stone q cells =
    mixed i (codes_round size (placed position p stone) q (map offset_of cells)) (codes_round size position q (map offset_of cells))

away_at : (size : Extent) (position : Position) (q : Point) (cells : List (ℕ × ℕ)) (i : ℕ) → i < length cells → get_or (codes_round size position q (map offset_of cells)) i 0 ≡ code_around size position q (offset_of (get_or cells i (0, 0)))
away_at size position q cells i h =
    get_or-codes_round size position q (map offset_of cells) i (offset_of (0, 0)) (omega (arith, length-map cells offset_of))
    ∙ ap (code_around size position q) (get_or-map offset_of cells i (0, 0) (offset_of (0, 0)) h)

module _ (k : Kind) (size : Extent) (position : Position) (p : Point) (stone : Stone) (q : Point) (cells : List (ℕ × ℕ)) (count : length cells ≡ 25) where
  offsets_count : length (map offset_of cells) ≡ 25
  offsets_count = length-map cells offset_of ∙ count

  old_codes : AreCodes (codes_round size position q (map offset_of cells))
  old_codes = AreCodes-codes_round size position q (map offset_of cells) offsets_count

  new_codes : AreCodes (codes_round size (placed position p stone) q (map offset_of cells))
  new_codes = AreCodes-codes_round size (placed position p stone) q (map offset_of cells) offsets_count

  mixed_round_none : mixed_round 0 size position p stone q cells ≡ codes_round size position q (map offset_of cells)
  unfolding mixed_round
  mixed_round_none = mixed_none (codes_round size (placed position p stone) q (map offset_of cells)) (codes_round size position q (map offset_of cells))

  mixed_round_all : (i : ℕ) → 25 ≤ i → mixed_round i size position p stone q cells ≡ codes_round size (placed position p stone) q (map offset_of cells)
  unfolding mixed_round
  mixed_round_all i h =
      mixed_all (codes_round size (placed position p stone) q (map offset_of cells)) (codes_round size position q (map offset_of cells)) i
      (omega (arith, new_codes.count)) (omega (arith, old_codes.count))

  -- a cell that is still to come has the code of the stone that stood there
  mixed_round_code : (i before : ℕ) → i < 25 → IsOn size p → before ≡ word_of k (mixed_round i size position p stone q cells)
      → Sees q (get_or cells i (0, 0)) p → code_at before i ≡ stone_code (position p)
  unfolding mixed_round
  mixed_round_code i before h on is sees =
      let old = codes_round size position q (map offset_of cells) in
      let new = codes_round size (placed position p stone) q (map offset_of cells) in
      let away = get_or cells i (0, 0) in
      ap (λ w. code_at w i) is
      ∙ code_at-word_of k (mixed i new old) i (AreCodes-mixed i new old (omega arith) new_codes old_codes) h
      ∙ mixed_at i new old (omega (arith, new_codes.count))
      ∙ away_at size position q cells i (omega arith)
      ∙ code_around_on size position q p away on sees

  mixed_round_more : (i before after : ℕ) → i < 25 → IsOn size p → before ≡ word_of k (mixed_round i size position p stone q cells)
      → (Sees q (get_or cells i (0, 0)) p → after ≡ recoded before i (stone_code stone))
      → ((Sees q (get_or cells i (0, 0)) p → ⊥) → after ≡ before)
      → after ≡ word_of k (mixed_round (i + 1) size position p stone q cells)
  unfolding mixed_round
  mixed_round_more i before after h on is there elsewhere =
      let away = get_or cells i (0, 0) in
      let old = codes_round size position q (map offset_of cells) in
      let new = codes_round size (placed position p stone) q (map offset_of cells) in
      let l_new : i < length new = omega (arith, new_codes.count) in
      let l_old : i < length old = omega (arith, old_codes.count) in
      ⊎_elim
      (λ (sees : Sees q away p).
      there sees
      ∙ ap (λ w. recoded w i (stone_code stone)) is
      ∙ recoded-word_of k (mixed i new old) i (stone_code stone) (AreCodes-mixed i new old (omega arith) new_codes old_codes)
      ∙ ap (word_of k) (mixed_set i (stone_code stone) new old l_new l_old (away_at size (placed position p stone) q cells i (omega arith) ∙ code_there size position p q stone away on sees)))
      (λ (blind : Sees q away p → ⊥).
      elsewhere blind ∙ is
      ∙ ap (word_of k) (sym (mixed_same i new old l_new l_old
      (away_at size (placed position p stone) q cells i (omega arith) ∙ code_elsewhere size position p q stone away blind ∙ sym (away_at size position q cells i (omega arith))))))
      (sees_or_not q away p)

  -- cells in which q does not have the point change nothing
  mixed_round_past : (i n before : ℕ) → i + n ≤ 25 → IsOn size p → before ≡ word_of k (mixed_round i size position p stone q cells)
      → ((j : ℕ) → i ≤ j → j < i + n → Sees q (get_or cells j (0, 0)) p → ⊥)
      → before ≡ word_of k (mixed_round (i + n) size position p stone q cells)
  mixed_round_past i zero before h on is blind = is ∙ ap (λ m. word_of k (mixed_round m size position p stone q cells)) (omega arith)
  mixed_round_past i (suc n) before h on is blind =
      mixed_round_past (i + 1) n before (omega arith) on
      (mixed_round_more i before before (omega arith) on is (λ sees. absurd (blind i (omega arith) (omega arith) sees)) (λ away. refl))
      (λ j low high. blind j (omega arith) (omega arith))
      ∙ ap (λ m. word_of k (mixed_round m size position p stone q cells)) (omega arith)

  -- where q has the point in one of the next cells, that cell's code follows the stone
  mixed_round_one : (i n j before after change : ℕ) → i + n ≤ 25 → i ≤ j → j < i + n → IsOn size p
      → before ≡ word_of k (mixed_round i size position p stone q cells)
      → Sees q (get_or cells j (0, 0)) p
      → ((m : ℕ) → i ≤ m → m < i + n → Sees q (get_or cells m (0, 0)) p → m ≡ j)
      → change ≡ bit_xor (stone_code (position p)) (stone_code stone)
      → after ≡ with_change before j change
      → after ≡ word_of k (mixed_round (i + n) size position p stone q cells)
  mixed_round_one i n j before after change h low high on is sees only changed there =
      let until : before ≡ word_of k (mixed_round j size position p stone q cells) =
      mixed_round_past i (j - i) before (omega arith) on is (λ m from to here. omega (arith, to, only m from (omega arith) here))
      ∙ ap (λ m. word_of k (mixed_round m size position p stone q cells)) (omega arith) in
      let code = mixed_round_code j before (omega arith) on until sees in
      let follows : after ≡ recoded before j (stone_code stone) =
      there ∙ ap (recoded before j) (ap₂ bit_xor code changed ∙ changed_twice (stone_code (position p)) (stone_code stone)) in
      mixed_round_past (j + 1) (i + n - (j + 1)) after (omega arith) on
      (mixed_round_more j before after (omega arith) on until (λ seen. follows) (λ blind. absurd (blind sees)))
      (λ m from to here. omega (arith, from, only m (omega arith) (omega arith) here))
      ∙ ap (λ m. word_of k (mixed_round m size position p stone q cells)) (omega arith)

-- a word that follows the stone in the cells of the rows before a row does so in those of this row too, once it is
-- changed where its point has the stone's in the row
pub mixed_row : (k : Kind) (size : Extent) (position : Position) (p : Point) (stone : Stone) (q : Point) (rows : List (ℕ × ℕ)) (i before after change : ℕ) →
    length (cells_of rows) ≡ 25 → i < length rows → (get_or rows i (0, 0)).0 ≤ 3 → IsOn size p →
    before ≡ word_of k (mixed_round (length (cells_of (take i rows))) size position p stone q (cells_of rows)) →
    change ≡ bit_xor (stone_code (position p)) (stone_code stone) →
    (SeesInRow q (get_or rows i (0, 0)) p → after ≡ with_change before (length (cells_of (take i rows)) + (p.column + (get_or rows i (0, 0)).0 - q.column)) change) →
    ((SeesInRow q (get_or rows i (0, 0)) p → ⊥) → after ≡ before) →
    after ≡ word_of k (mixed_round (length (cells_of (take i rows)) + (2 * (get_or rows i (0, 0)).0 + 1)) size position p stone q (cells_of rows))
mixed_row k size position p stone q rows i before after change count h side on is changed there elsewhere =
    let row = get_or rows i (0, 0) in
    let first = length (cells_of (take i rows)) in
    let n = 2 * row.0 + 1 in
    let fits : first + n ≤ 25 = omega (arith, cells_fit rows i h, count) in
    ⊎_elim
    (λ (sees : SeesInRow q row p).
    mixed_round_one k size position p stone q (cells_of rows) count first n (first + (p.column + row.0 - q.column)) before after change fits
    (omega arith) (omega (arith, sees.1, sees.2)) on is (sees_there rows i q p h side sees)
    (λ m from to here. (sees_only rows i m q p h side from to here).1)
    changed (there sees))
    (λ (blind : SeesInRow q row p → ⊥).
    elsewhere blind
    ∙ mixed_round_past k size position p stone q (cells_of rows) count first n before fits on is
    (λ m from to here. blind (sees_only rows i m q p h side from to here).0))
    (sees_in_row_or_not q row p)

-- before the first cell the words are those of the position, after the last those with the stone
pub mixed_before : (k : Kind) (size : Extent) (position : Position) (p : Point) (stone : Stone) (q : Point) (cells : List (ℕ × ℕ)) → length cells ≡ 25 → map offset_of cells ≡ offsets_of k → word_around k size position q ≡ word_of k (mixed_round 0 size position p stone q cells)
mixed_before k size position p stone q cells count same =
    word_around_is k size position q
    ∙ ap (λ offsets. word_of k (codes_round size position q offsets)) (sym same)
    ∙ ap (word_of k) (sym (mixed_round_none k size position p stone q cells count))

pub mixed_after : (k : Kind) (size : Extent) (position : Position) (p : Point) (stone : Stone) (q : Point) (cells : List (ℕ × ℕ)) (i : ℕ) → length cells ≡ 25 → 25 ≤ i → map offset_of cells ≡ offsets_of k → word_of k (mixed_round i size position p stone q cells) ≡ word_around k size (placed position p stone) q
mixed_after k size position p stone q cells i count h same =
    ap (word_of k) (mixed_round_all k size position p stone q cells count i h)
    ∙ ap (λ offsets. word_of k (codes_round size (placed position p stone) q offsets)) same
    ∙ sym (word_around_is k size (placed position p stone) q)

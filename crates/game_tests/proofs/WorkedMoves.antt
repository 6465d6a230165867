-- The rule of capture at worked values: a stone that takes its own last liberty, and a capture.
use Rattle.std.proofs.Common.{◌≡◌, ◌⊎◌, ◌∙◌, ℕ, [], ◌∷◌, Contains, refl, sym, ap, subst, inl, inr, arith}
use Rattle.std.proofs.lemmas.Bool.{cases_eq}
use Rattle.std.proofs.lemmas.List.Elements.{All-nil, All-push, Contains-push}
use Rattle.go_board.specs.declared.points.Point.{Point}
use Rattle.go_board.specs.declared.points.Colour.TheVariants as colour
use Rattle.go_board.specs.declared.points.Stone.TheVariants as stone
use Rattle.go_board.specs.Extent.{Extent}
use Rattle.go_board.specs.Point.{IsOn}
use Rattle.go_board.specs.Position.{Position, placed, IsAlive}
use Rattle.go_board.specs.Play.{Plays, IsCaptured, IsRemoved, ListsOnce, count_of}
use Rattle.go_board.proofs.Paths.{joined_same}

-- a board of one row
abbrev row_of : ℕ → Extent
row_of columns = record { columns = columns; rows = 1 }

abbrev point : ℕ → Point
point column = record { column = column; row = 0 }

abbrev empty : Position
empty _ = stone.Empty

-- a point of such a board is that of its column
same_place : (columns : ℕ) (q : Point) (column : ℕ) → IsOn (row_of columns) q → column ≡ q.column → point column ≡ q
same_place columns q column on e =
    let row : 0 ≡ q.row = omega arith in
    ap point e ∙ ap (λ r. record { column = q.column; row = r }) row

-- the one point of a board of one column
the_point : (q : Point) → IsOn (row_of 1) q → point 0 ≡ q
the_point q on = same_place 1 q 0 on (omega arith)

-- a list of one point has each of which P holds, if P holds of that alone
one_listed : (P : Point → Type 0) (p : Point) → P p → ((q : Point) → P q → p ≡ q) → ListsOnce P (p ∷ [])
one_listed P p holds alone = record {
  only = All-push P [] p (All-nil P) holds;
  each = λ q h. subst (Contains (p ∷ [])) (alone q h) (Contains-push [] p);
  once = λ i j d before below. absurd (omega arith);
}

-- `.`, where Black plays: no stone is captured, and the stone has no liberty and is removed
abbrev full : Position
full = placed empty (point 0) stone.Black

no_liberty : (p : Point) → IsAlive (row_of 1) full p → ⊥
no_liberty p alive =
    let at : full alive.liberty ≡ stone.Black = ap full (sym (the_point alive.liberty alive.on_board)) in
    let empty = alive.empty in
    cc

suicide : Plays (row_of 1) empty colour.Black (point 0) empty
suicide = record {
  cleared = full;
  captures = λ q on. inr (
    (λ c. let at : full c.neighbour ≡ stone.Black = ap full (sym (the_point c.neighbour c.on_board)) in let white = c.of_other in cc),
    refl,
  );
  suicide = λ q on. inl (
    (record { path = []; leads = the_point q on }, no_liberty (point 0)),
    refl,
  );
}

removed_itself : ListsOnce (IsRemoved (row_of 1) empty colour.Black (point 0) empty) (point 0 ∷ [])
removed_itself =
    one_listed (IsRemoved (row_of 1) empty colour.Black (point 0) empty) (point 0)
    (record { on_board = (omega arith, omega arith); stood = λ e. cc; gone = refl })
    (λ q r. the_point q r.on_board)

none_taken : count_of full stone.White (point 0 ∷ []) ≡ 0
none_taken = refl

lost_itself : count_of full stone.Black (point 0 ∷ []) ≡ 1
lost_itself = refl

-- `O.`, where Black plays at the right: White's stone is captured, and Black's has its point for a liberty
abbrev white_left : Position
white_left = placed empty (point 0) stone.White

abbrev both : Position
both = placed white_left (point 1) stone.Black

abbrev black_right : Position
black_right = placed empty (point 1) stone.Black

-- the two points of a board of two columns
left_or_right : (q : Point) → IsOn (row_of 2) q → (point 0 ≡ q) ⊎ (point 1 ≡ q)
left_or_right q on = elim (cases_eq q.column 0) [
  | inl e ↦ inl (same_place 2 q 0 on (sym e))
  | inr ne ↦ inr (same_place 2 q 1 on (omega arith))
]

none_empty : (q : Point) → IsOn (row_of 2) q → both q ≡ stone.Empty → ⊥
none_empty q on empty = elim (left_or_right q on) [
  | inl left ↦ (let white : both q ≡ stone.White = ap both (sym left) in cc)
  | inr right ↦ (let black : both q ≡ stone.Black = ap both (sym right) in cc)
]

white_is_captured : IsCaptured (row_of 2) both colour.Black (point 1) (point 0)
white_is_captured = record {
  neighbour = point 0;
  on_board = (omega arith, omega arith);
  next_to = inl (inr refl, refl);
  of_other = refl;
  joined = record { path = []; leads = refl };
  dead = λ alive. none_empty alive.liberty alive.on_board alive.empty;
}

black_is_not_captured : IsCaptured (row_of 2) both colour.Black (point 1) (point 1) → ⊥
black_is_not_captured c =
    let same = joined_same (row_of 2) both c.neighbour (point 1) c.joined in
    let white = c.of_other in
    cc

black_is_alive : IsAlive (row_of 2) black_right (point 1)
black_is_alive = record {
  member = point 1;
  liberty = point 0;
  joined = record { path = []; leads = refl };
  neighbours = inl (inr refl, refl);
  on_board = (omega arith, omega arith);
  empty = refl;
}

abbrev IsCleared : Point → Type 0
IsCleared q =
    (IsCaptured (row_of 2) both colour.Black (point 1) q × (black_right q ≡ stone.Empty))
    ⊎ ((IsCaptured (row_of 2) both colour.Black (point 1) q → ⊥) × (black_right q ≡ both q))

capture : Plays (row_of 2) white_left colour.Black (point 1) black_right
capture = record {
  cleared = black_right;
  captures = λ q on. elim (left_or_right q on) [
    | inl left ↦ subst IsCleared left (inl (white_is_captured, refl))
    | inr right ↦ subst IsCleared right (inr (black_is_not_captured, refl))
  ];
  suicide = λ q on. inr ((λ s. s.1 black_is_alive), refl);
}

removed_white : ListsOnce (IsRemoved (row_of 2) white_left colour.Black (point 1) black_right) (point 0 ∷ [])
removed_white =
    one_listed (IsRemoved (row_of 2) white_left colour.Black (point 1) black_right) (point 0)
    (record { on_board = (omega arith, omega arith); stood = λ e. cc; gone = refl })
    (λ q r. elim (left_or_right q r.on_board) [
      | inl left ↦ left
      | inr right ↦ (let black : black_right q ≡ stone.Black = ap black_right (sym right) in let gone = r.gone in absurd cc)
    ])

taken_white : count_of both stone.White (point 0 ∷ []) ≡ 1
taken_white = refl

none_lost : count_of both stone.Black (point 0 ∷ []) ≡ 0
none_lost = refl

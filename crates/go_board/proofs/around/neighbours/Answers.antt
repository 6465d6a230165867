-- Each of the four ways to be a neighbour is one of the four answers.
use Rattle.std.proofs.Common.{◌≡◌, ◌∙◌, Some, inl, inr, ℕ, ◌+◌, ◌-◌, ap, arith}
use Rattle.go_board.specs.declared.points.Point.{Point}
use Rattle.go_board.proofs.around.neighbours.Goals as goal
use Rattle.go_board.proofs.around.neighbours.Goals.{then-column-gt0, else-column-gt0, then-column-columns, else-column-columns, then-row-gt0, else-row-gt0, then-row-rows, else-row-rows}

some_same : (q : Point) (column row : ℕ) → column ≡ q.column → row ≡ q.row → Some (record { column = column; row = row }) ≡ Some q
some_same q column row e f =
    ap (λ c. Some (record { column = c; row = row })) e ∙ ap (λ r. Some (record { column = q.column; row = r })) f

pub returns-clause-each : goal.returns-clause-each
returns-clause-each c = λ q on next. elim next [
  | inl h ↦ elim h.0 [
    | inl right ↦ (
      1,
      omega arith,
      elim c.if-column-columns.branch [
        | then-column-columns w ↦ w.right-is ∙ some_same q (c.args.point.column + 1) c.args.point.row right h.1
        | else-column-columns w ↦ absurd (omega arith)
      ],
    )
    | inr left ↦ (
      0,
      omega arith,
      elim c.if-column-gt0.branch [
        | then-column-gt0 w ↦ w.left-is ∙ some_same q (c.args.point.column - 1) c.args.point.row (omega arith) h.1
        | else-column-gt0 w ↦ absurd (omega arith)
      ],
    )
  ]
  | inr h ↦ elim h.1 [
    | inl below ↦ (
      3,
      omega arith,
      elim c.if-row-rows.branch [
        | then-row-rows w ↦ w.below-is ∙ some_same q c.args.point.column (c.args.point.row + 1) h.0 below
        | else-row-rows w ↦ absurd (omega arith)
      ],
    )
    | inr above ↦ (
      2,
      omega arith,
      elim c.if-row-gt0.branch [
        | then-row-gt0 w ↦ w.above-is ∙ some_same q c.args.point.column (c.args.point.row - 1) h.0 (omega arith)
        | else-row-gt0 w ↦ absurd (omega arith)
      ],
    )
  ]
]

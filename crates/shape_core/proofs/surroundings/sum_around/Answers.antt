use Rattle.std.proofs.Common.{◌≡◌, ◌+◌, ◌*◌, ◌%◌, ◌^◌, ℕ, List, map, take, get_or, sym, ap, ◌∙◌, arith}
use Rattle.std.proofs.lemmas.List.{length-map, get_or-map, take_all}
use Rattle.go_board.specs.Board.{position_of}
use Rattle.shape_core.specs.Inner.Table.{offset_of}
use Rattle.shape_core.specs.Word.{sum_of}
use Rattle.shape_core.specs.Around.{code_around}
use Rattle.shape_core.proofs.Codes.{AreCodes, sum-lt}
use Rattle.shape_core.proofs.Sums.{sum_of-more, sum_of_fits}
use Rattle.shape_core.proofs.Reach.{codes_round, get_or-codes_round, AreCodes-codes_round}
use Rattle.shape_core.proofs.surroundings.sum_around.Goals as goal

round : goal.After-from → List ℕ
round c = codes_round c.args.board.now.size (position_of c.args.board.now) c.args.point (map offset_of c.args.cells.now)

are_codes : (c : goal.After-from) → AreCodes (round c)
unfolding round
are_codes c =
    AreCodes-codes_round c.args.board.now.size (position_of c.args.board.now) c.args.point (map offset_of c.args.cells.now) (omega (arith, length-map c.args.cells.now offset_of))

one_more : (c : goal.After-from) → sum_of (take (c.loop-cell.cell + 1) (round c)) ≡ c.loop-cell.sum + c.from.result * 2 ^ (2 * c.loop-cell.cell) % 2 ^ 64
unfolding round
one_more c =
    let size = c.args.board.now.size in
    let position = position_of c.args.board.now in
    let cells = c.args.cells.now in
    let cell = c.loop-cell.cell in
    let code : get_or (round c) cell 0 ≡ c.from.result =
    get_or-codes_round size position c.args.point (map offset_of cells) cell (offset_of (0, 0)) (omega (arith, length-map cells offset_of))
    ∙ ap (code_around size position c.args.point) (get_or-map offset_of cells cell (0, 0) (offset_of (0, 0)) (omega arith))
    ∙ sym c.code_away.ensures ∙ sym c.from.ensures in
    sum_of-more (round c) cell c.from.result (are_codes c) (omega arith) (sym code)
    ∙ ap (λ s. s + c.from.result * 2 ^ (2 * cell) % 2 ^ 64) (sym c.loop-cell.invariant)

pub overflow_add-sum : goal.overflow_add-sum
overflow_add-sum c = omega (arith, one_more c, sum_of_fits (round c) (c.loop-cell.cell + 1) (are_codes c) (omega arith))

pub loop-cell-preserved : goal.loop-cell-preserved
unfolding round
loop-cell-preserved c = sym (one_more c)

whole_sum : (c : goal.After-loop-cell) → c.loop-cell.sum ≡ sum_of (codes_round c.args.board.now.size (position_of c.args.board.now) c.args.point (map offset_of c.args.cells.now))
unfolding codes_round
whole_sum c =
    c.loop-cell.invariant ∙ ap sum_of (take_all c.loop-cell.cell (codes_round c.args.board.now.size (position_of c.args.board.now) c.args.point (map offset_of c.args.cells.now))
    (omega (arith, length-map c.args.cells.now offset_of, length-map (map offset_of c.args.cells.now) (code_around c.args.board.now.size (position_of c.args.board.now) c.args.point))))

pub returns-clause-value : goal.returns-clause-value
unfolding codes_round
returns-clause-value c = whole_sum c

pub returns-clause-small : goal.returns-clause-small
returns-clause-small c =
    let are = AreCodes-codes_round c.args.board.now.size (position_of c.args.board.now) c.args.point (map offset_of c.args.cells.now) (omega (arith, length-map c.args.cells.now offset_of)) in
    rw (whole_sum c) (sum-lt (codes_round c.args.board.now.size (position_of c.args.board.now) c.args.point (map offset_of c.args.cells.now)) are)

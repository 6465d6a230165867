use Rattle.std.proofs.Common.{◌≡◌, replicate, rules, arith, ap, ◌∙◌}
use Rattle.std.proofs.lemmas.Grind.{common_steps}
use Rattle.go_board.specs.declared.points.Stone.TheVariants as kind
use Rattle.go_board.proofs.Agreement.{empty_at}
use Rattle.go_board.proofs.boards.Board.new.Goals as goal

pub returns-clause-empty : goal.returns-clause-empty
returns-clause-empty c =
    let filled : c.in_ok-stones.stones.items ≡ replicate c.area.result kind.Empty = first_of (search rules, grind (arith, common_steps)) in
    λ q on. empty_at c.args.size c.in_ok-stones.stones.items q on (filled ∙ ap (λ n. replicate n kind.Empty) c.area.ensures.value)

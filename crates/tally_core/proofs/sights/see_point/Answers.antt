use Rattle.std.proofs.Common.{◌≡◌, [], ◌∷◌, ap, ap₂, refl, sym, subst, ◌∙◌}
use Rattle.go_board.specs.Board.{position_of}
use Rattle.shape_core.specs.declared.words.Kinds.{Kinds}
use Rattle.shape_core.specs.declared.words.Kinds.TheVariants as which
use Rattle.tally_core.specs.Counts.{kinds_of, patterns_at}
use Rattle.tally_core.specs.Walk.{shapes_of}
use Rattle.tally_core.specs.Inner.Meeting.{Meets}
use Rattle.tally_core.specs.Inner.Sight.{here_on, diamond_on}
use Rattle.tally_core.proofs.Once.{meets_on}
use Rattle.tally_core.proofs.Seeing.{here-empty}
use Rattle.tally_core.proofs.sights.see_point.Goals as goal

pub returns-in_ok-meeting-in-Both-clause-meets : goal.returns-in_ok-meeting-in-Both-clause-meets
returns-in_ok-meeting-in-Both-clause-meets c =
    let field = c.args.field.now in
    let mover = c.args.mover in
    let position = position_of field.board in
    let settled : shapes_of c.settle_point.new.meetings ≡ shapes_of c.args.meetings.now = c.settle_point.ensures.shapes in
    let before = shapes_of c.settle_point.new.meetings in
    let between = shapes_of c.begin.new.meetings in
    let after = shapes_of c.meet_diamond.new.meetings in
    let square = c.canonical.result in
    let diamond = diamond_on field mover c.args.point in
    let both : which.Both ≡ field.kinds = sym c.in-Both.is ∙ c.kinds.ensures in
    let words : square ∷ diamond ∷ [] ≡ patterns_at (kinds_of which.Both) field.board.size position mover c.args.point =
    ap₂ (λ a b. a ∷ b ∷ [])
    c.canonical.ensures refl in
    subst (λ first. Meets first (here_on field mover c.args.point) after) settled
    (subst (λ patterns. Meets before patterns after)
    (words ∙ ap (λ (kinds : Kinds). patterns_at (kinds_of kinds) field.board.size position mover c.args.point) both
    ∙ sym (here-empty field.kinds field.board.size position mover c.args.point c.requires.empty))
    (meets_on before (square ∷ []) between (diamond ∷ []) after c.in_ok-square.ensures.meets c.in_ok-meeting-in-Both.ensures.meets))

-- A copy of an empty field is empty.
use Rattle.std.proofs.Common.{◌≡◌, rules, refl, subst}
use Rattle.go_board.specs.Board.{Stones, position_of}
use Rattle.go_board.specs.Extent.{Extent}
use Rattle.go_board.specs.Point.{IsOn}
use Rattle.go_board.specs.declared.points.Point.{Point}
use Rattle.go_board.specs.declared.points.Stone.TheVariants as stone
use Rattle.tally_core.specs.Inner.Blank.{IsBlank}
use Rattle.tally_core.proofs.blanks.Blank.field.Goals as goal

copied_empty : (size : Extent) (blank copy : Stones) → blank.size ≡ size → copy.size ≡ blank.size → copy.stones ≡ blank.stones →
    ((q : Point) → IsOn size q → position_of blank q ≡ stone.Empty) →
    (q : Point) → IsOn copy.size q → position_of copy q ≡ stone.Empty
copied_empty size blank copy sized same_size same_stones empty = rw (same_size, same_stones, sized) (rw sized at empty)

pub returns-then-eq-clause-blank : goal.returns-then-eq-clause-blank
returns-then-eq-clause-blank c =
    let blank = c.in-Some.blank in
    let is : IsBlank c.self.inside.kinds blank = search rules in
    let copy = c.in_ok-copied in
    record {
      keeps = search rules;
      board = search rules;
      empty = copied_empty blank.board.size blank.board copy.field-0.board refl copy.ensures.size copy.ensures.stones is.empty;
    }

pub returns-clause-blank : goal.returns-clause-blank
returns-clause-blank c =
    let blank = c.in_ok-blank in
    let copy = c.in_ok-field in
    record {
      keeps = search rules;
      board = search rules;
      empty = copied_empty c.args.size blank.blank.board copy.field.board blank.ensures.size copy.ensures.size copy.ensures.stones blank.ensures.empty;
    }

pub invariant_of-self : goal.invariant_of-self
invariant_of-self c =
    let made = c.in_ok-blank.ensures in
    record {
      keeps = made.kinds;
      board = made.board;
      empty = λ q on. made.empty q (subst (λ (size : Extent). IsOn size q) made.size on);
    }

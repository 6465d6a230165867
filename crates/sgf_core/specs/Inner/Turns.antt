-- What a mark does to the number of trees that are open.
use Rattle.std.specs.Prelude.{◌≡◌}
use Rattle.sgf_core.specs.declared.marks.Mark.{Mark}
use Rattle.sgf_core.specs.declared.marks.Mark.TheVariants as mark
use Rattle.sgf_core.specs.declared.parse.Turn.{Turn}
use Rattle.sgf_core.specs.declared.parse.Turn.TheVariants as turn

abbrev pub IsTurn : Mark → Turn → Type 0
IsTurn mark.Begin found = found ≡ turn.Opens
IsTurn mark.Node found = found ≡ turn.Stays
IsTurn (mark.Prop property) found = found ≡ turn.Stays
IsTurn mark.End found = found ≡ turn.Closes

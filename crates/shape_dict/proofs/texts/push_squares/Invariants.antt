use Rattle.std.proofs.Common.{◌≡◌, ◌++◌, drop}
use Rattle.std.specs.List.{flat_map}
use Rattle.shape_dict.specs.Contents.{squares_of}
use Rattle.shape_dict.specs.Text.{line_text}
use Rattle.shape_dict.specs.declared.entries.Text.TheVariants as text
use Rattle.shape_dict.specs.Writing.{Begins}
use Rattle.shape_dict.proofs.texts.push_squares.Given as goal

abbrev pub invariant-loop-entry : goal.invariant-loop-entry
invariant-loop-entry l = record {
  begins : Begins l.fn.out.items l.out.items;
  left : l.out.items ++ flat_map (line_text text.One) (squares_of (drop l.entry-index l.entries)) ≡ l.fn.out.items ++ flat_map (line_text text.One) (squares_of l.entries);
}

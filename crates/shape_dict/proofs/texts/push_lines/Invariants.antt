use Rattle.std.proofs.Common.{◌≡◌, ◌++◌, drop}
use Rattle.std.specs.List.{flat_map}
use Rattle.shape_dict.specs.Text.{line_text}
use Rattle.shape_dict.specs.Writing.{Begins}
use Rattle.shape_dict.proofs.texts.push_lines.Given as goal

abbrev pub invariant-loop-entry : goal.invariant-loop-entry
invariant-loop-entry l = record {
  begins : Begins l.fn.out.items l.out.items;
  left : l.out.items ++ flat_map (line_text l.text) (drop l.entry-index l.entries) ≡ l.fn.out.items ++ flat_map (line_text l.text) l.entries;
}

use Rattle.std.proofs.Common.{◌≡◌, ◌+◌, ◌++◌, drop}
use Rattle.sheet_core.specs.Pieces.{ranked}
use Rattle.sheet_core.specs.Plain.{figure_text}
use Rattle.sheet_core.proofs.plain.push_figures.Given as goal

abbrev pub invariant-loop-entry : goal.invariant-loop-entry
invariant-loop-entry l = record {
  rank : l.rank ≡ l.entry-index + 1;
  left : l.text.items ++ ranked figure_text l.rank (drop l.entry-index l.chosen) ≡ l.fn.text.items ++ ranked figure_text 1 l.chosen;
}

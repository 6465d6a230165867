use Rattle.std.proofs.Common.{◌≡◌, ◌+◌, ◌++◌, drop, map, List, ℕ}
use Rattle.std.specs.Borrow.{Bor}
use Rattle.sheet_core.specs.Pieces.{ranked}
use Rattle.sheet_core.specs.Page.{figure_text}
use Rattle.sheet_core.proofs.page.push_figures.Given as goal

abbrev pub invariant-loop-entry : goal.invariant-loop-entry
invariant-loop-entry l = record {
  rank : l.rank ≡ l.entry-index + 1;
  left : l.text.items ++ ranked (figure_text (map (λ (line : Bor (List ℕ)). line.now) l.lines)) l.rank (drop l.entry-index l.chosen) ≡ l.fn.text.items ++ ranked (figure_text (map (λ (line : Bor (List ℕ)). line.now) l.lines)) 1 l.chosen;
}

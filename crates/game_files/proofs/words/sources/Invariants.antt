use Rattle.std.proofs.Common.{List, ℕ, map, take}
use Rattle.std.specs.Borrow.{Bor}
use Rattle.game_files.specs.Sources.{AreMeant}
use Rattle.game_files.proofs.words.sources.Given as goal

abbrev pub invariant-loop-word : goal.invariant-loop-word
invariant-loop-word l = AreMeant (map (λ (w : Bor (List ℕ)). w.now) (take l.word-index l.words)) l.all.items

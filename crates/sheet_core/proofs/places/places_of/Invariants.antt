use Rattle.std.proofs.Common.{◌≡◌, map, take, List, ℕ}
use Rattle.std.specs.Borrow.{Bor}
use Rattle.sheet_core.specs.Places.{places_of}
use Rattle.sheet_core.proofs.places.places_of.Given as goal

abbrev pub invariant-loop-line : goal.invariant-loop-line
invariant-loop-line l = map (λ (place : Bor (List ℕ)). place.now) l.places.items ≡ places_of (map (λ (line : Bor (List ℕ)). line.now) (take l.line-index l.lines)) l.word

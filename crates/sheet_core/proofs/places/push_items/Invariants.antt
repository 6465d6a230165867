use Rattle.std.proofs.Common.{◌≡◌, ◌++◌, map, take, List, ℕ}
use Rattle.std.specs.Borrow.{Bor}
use Rattle.sheet_core.specs.Places.{items_text}
use Rattle.sheet_core.proofs.places.push_items.Given as goal

abbrev pub invariant-loop-place : goal.invariant-loop-place
invariant-loop-place l = l.text.items ≡ l.fn.text.items ++ items_text (map (λ (place : Bor (List ℕ)). place.now) (take l.place-index l.places))

use Rattle.std.proofs.Common.{◌∙◌, ap, map, take_all, List, ℕ}
use Rattle.std.specs.Borrow.{Bor}
use Rattle.sheet_core.specs.Places.{places_of}
use Rattle.sheet_core.proofs.places.places_of.Goals as goal

pub returns : goal.returns
returns c =
    c.loop-line.invariant
    ∙ ap (λ (lines : List (Bor (List ℕ))). places_of (map (λ (line : Bor (List ℕ)). line.now) lines) c.args.word) (take_all c.loop-line.line-index c.args.lines.now c.loop-line-test.false)

use Rattle.std.proofs.Common.{◌≡◌, ◌<◌, ℕ, true, get_or, take}
use Rattle.shape_core.specs.Glyph.{is_glyph}
use Rattle.shape_core.proofs.Spelled.{sum_of_glyphs}
use Rattle.shape_core.proofs.spelling.sum_of_glyphs.Given as goal

abbrev pub invariant-loop-at : goal.invariant-loop-at
invariant-loop-at l =
    (l.sum ≡ sum_of_glyphs (take l.at l.bytes)) × ((k : ℕ) → k < l.at → is_glyph (get_or l.bytes k 0) ≡ true)

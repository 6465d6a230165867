use Rattle.std.proofs.Common.{◌≡◌, ◌<◌, ℕ, length, get_or}
use Rattle.shape_core.specs.Word.{code_at}
use Rattle.shape_core.specs.Glyph.{glyph_of}
use Rattle.shape_core.proofs.spelling.glyphs.Given as goal

abbrev pub invariant-loop-cell : goal.invariant-loop-cell
invariant-loop-cell l =
    (length l.glyphs ≡ 25) × ((k : ℕ) → k < l.cell → get_or l.glyphs k 0 ≡ glyph_of (code_at l.word k))

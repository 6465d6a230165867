-- Why bytes are not the glyphs of a word, as a status.
use Rattle.std.specs.Prelude.{◌≡◌, ◌≢◌, ℕ, ◌⊎◌, List, length}
use Rattle.shape_core.specs.Glyph.{IsFirstBad}
use Rattle.shape_keys.specs.declared.statuses.Status.TheVariants as status
use Rattle.shape_keys.specs.Status.{number_of}

-- they are not 25, or they are and one of them is no glyph
abbrev pub IsGlyphFault : List ℕ → ℕ → Type 0
IsGlyphFault bytes number =
    (number ≡ number_of status.BadLength) × (length bytes ≢ 25)
    ⊎ (number ≡ number_of status.BadGlyph) × (length bytes ≡ 25) × ((at : ℕ) × IsFirstBad bytes at)

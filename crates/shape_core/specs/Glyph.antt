-- Words written as 25 glyphs, cell 0 first: `.` empty, `X` black, `O` white, `#` off the board (this project's own).
use Rattle.std.specs.Prelude.{◌≡◌, ℕ, ◌<◌, ◌==◌, ◌||◌, Bool, true, false, List, map, length, slice_index, if◌then◌else◌}
use Rattle.shape_core.specs.Word.{codes_of}

-- the glyph of a code
abbrev pub glyph_of : ℕ → ℕ
glyph_of code = if code == 0 then 46 else (if code == 1 then 88 else (if code == 2 then 79 else 35))

-- the byte is one of the four glyphs
abbrev pub is_glyph : ℕ → Bool
is_glyph byte = byte == 46 || byte == 88 || byte == 79 || byte == 35

-- the glyphs of the 25 cells, cell 0 first
unfoldable pub glyphs_of : ℕ → List ℕ
glyphs_of word = map glyph_of (codes_of word)

-- the byte at this place is no glyph, and all before it are
pub record IsFirstBad (bytes : List ℕ) (at : ℕ) : Type 0 where
  pub within : at < length bytes
  pub bad : is_glyph (slice_index bytes at) ≡ false
  pub before : (k : ℕ) → k < at → is_glyph (slice_index bytes k) ≡ true

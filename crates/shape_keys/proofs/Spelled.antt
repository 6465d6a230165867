-- The status of a fault of glyphs.
use Rattle.std.proofs.Common.{◌≡◌, ◌≢◌, ◌↔◌, ℕ, List, length, Result, Err, refl, ap, inl, inr}
use Rattle.shape_core.specs.Glyph.{IsFirstBad}
use Rattle.shape_core.specs.declared.spelling.GlyphFault.{GlyphFault}
use Rattle.shape_core.specs.declared.spelling.GlyphFault.TheVariants as fault
use Rattle.shape_keys.specs.declared.statuses.Status.{Status}
use Rattle.shape_keys.specs.declared.statuses.Status.TheVariants as status
use Rattle.shape_keys.specs.Glyphs.{IsGlyphFault}
use Rattle.shape_keys.specs.Status.{number_of}

pub fault_said : (bytes : List ℕ) (found : GlyphFault) (said : Status) (r : Result ℕ GlyphFault) → r ≡ Err found → (found ≡ fault.BadLength → said ≡ status.BadLength) → ((at : ℕ) → found ≡ fault.BadGlyph at → said ≡ status.BadGlyph) → ((r ≡ Err fault.BadLength) ↔ (length bytes ≢ 25)) → ((at : ℕ) → (r ≡ Err (fault.BadGlyph at)) ↔ ((length bytes ≡ 25) × IsFirstBad bytes at)) → IsGlyphFault bytes (number_of said)
fault_said bytes fault.BadLength said r is length_said glyph_said length_is glyph_is =
    inl (ap number_of (length_said refl), length_is.0 is)
fault_said bytes (fault.BadGlyph at) said r is length_said glyph_said length_is glyph_is =
    let h = (glyph_is at).0 is in inr (ap number_of (glyph_said at refl), h.0, (at, h.1))

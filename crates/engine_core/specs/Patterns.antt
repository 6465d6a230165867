-- The pattern that glyphs and a mover's name spell.
use Rattle.std.specs.Prelude.{◌≡◌, ◌≢◌, ℕ, ◌^◌, ◌<◌, List, length, codes}
use Rattle.go_board.specs.declared.points.Colour.{Colour}
use Rattle.go_board.specs.declared.points.Colour.TheVariants as colour
use Rattle.shape_core.specs.declared.words.Kind.{Kind}
use Rattle.shape_core.specs.declared.spelling.GlyphFault.{GlyphFault}
use Rattle.shape_core.specs.declared.spelling.GlyphFault.TheVariants as glyph_fault
use Rattle.shape_core.specs.Glyph.{glyphs_of, IsFirstBad}
use Rattle.shape_core.specs.Symmetry.{canonical_of}
use Rattle.shape_core.specs.Word.{kind_of}
use Rattle.engine_core.specs.declared.faults.RunFault.{RunFault}
use Rattle.engine_core.specs.declared.faults.RunFault.TheVariants as fault

-- how a mover is written
abbrev pub colour_text : Colour → List ℕ
colour_text colour.Black = codes "black"
colour_text colour.White = codes "white"

-- the pattern of these 25 glyphs, read as a square's or a diamond's, with this mover
pub record IsPatternOf (kind : Kind) (glyphs mover : List ℕ) (shape : ℕ) : Type 0 where
  pub word : ℕ
  pub colour : Colour
  pub small : word < 2 ^ 51
  pub of_kind : kind_of word ≡ kind
  pub spelled : glyphs_of word ≡ glyphs
  pub moves : mover ≡ colour_text colour
  pub canonical : shape ≡ canonical_of word colour

-- there are not 25 glyphs, or this is the first that is none
abbrev pub IsGlyphFault : List ℕ → GlyphFault → Type 0
IsGlyphFault glyphs glyph_fault.BadLength = length glyphs ≢ 25
IsGlyphFault glyphs (glyph_fault.BadGlyph at) = (length glyphs ≡ 25) × IsFirstBad glyphs at

-- the mover is judged before the glyphs
abbrev pub IsPatternFault : List ℕ → List ℕ → RunFault → Type 0
IsPatternFault glyphs mover fault.Usage = (colour : Colour) → mover ≢ colour_text colour
IsPatternFault glyphs mover (fault.Glyph found) = ((colour : Colour) × (mover ≡ colour_text colour)) × IsGlyphFault glyphs found
IsPatternFault glyphs mover (fault.Sgf found) = ⊥
IsPatternFault glyphs mover (fault.Record found) = ⊥
IsPatternFault glyphs mover (fault.Board found) = ⊥
IsPatternFault glyphs mover (fault.Harvest found) = ⊥
IsPatternFault glyphs mover (fault.Dict n found) = ⊥
IsPatternFault glyphs mover fault.Read = ⊥
IsPatternFault glyphs mover (fault.Write written) = ⊥
IsPatternFault glyphs mover fault.Memory = ⊥

-- The pattern that GLYPHS, COLOUR and `--diamond` spell, and why they spell none.
use Rattle.std.specs.Prelude.{◌≡◌, ◌⊎◌, ℕ, List, Some, None, codes}
use Rattle.clap.specs.Words.{Row, first_of}
use Rattle.command_lines.specs.Values.{IsChoiceOf}
use Rattle.engine_core.specs.Patterns.{IsPatternOf, IsPatternFault}
use Rattle.engine_core.specs.declared.faults.RunFault.{RunFault}
use Rattle.engine_core.specs.declared.faults.RunFault.TheVariants as fault
use Rattle.shape_core.specs.declared.words.Kind.{Kind}
use Rattle.shape_core.specs.declared.words.Kind.TheVariants as kind
use Rattle.shape_core.specs.declared.spelling.GlyphFault.{GlyphFault}

-- whether the flag was given says which kind the glyphs are of
abbrev pub IsKindOf : List Row → Kind → Type 0
IsKindOf rows found = IsChoiceOf (codes "diamond") kind.Diamond kind.Square rows found

-- the glyphs and the colour spell this pattern
pub record IsSpelled (rows : List Row) (shape : ℕ) : Type 0 where
  pub kind_found : Kind
  pub glyphs : List ℕ
  pub mover : List ℕ
  pub is_kind : IsKindOf rows kind_found
  pub has_glyphs : first_of (codes "glyphs") rows ≡ Some glyphs
  pub has_mover : first_of (codes "colour") rows ≡ Some mover
  pub pattern : IsPatternOf kind_found glyphs mover shape

-- the mover is no colour, or the mover or the glyphs are missing
abbrev pub HasNoColour : List Row → Type 0
HasNoColour rows =
    (first_of (codes "glyphs") rows ≡ None)
    ⊎ (first_of (codes "colour") rows ≡ None)
    ⊎ ((glyphs : List ℕ) × (mover : List ℕ) × (first_of (codes "colour") rows ≡ Some mover) × IsPatternFault glyphs mover fault.Usage)

-- the glyphs spell no pattern
pub record IsBadSpelling (rows : List Row) (found : GlyphFault) : Type 0 where
  pub glyphs : List ℕ
  pub mover : List ℕ
  pub has_glyphs : first_of (codes "glyphs") rows ≡ Some glyphs
  pub has_mover : first_of (codes "colour") rows ≡ Some mover
  pub wrong : IsPatternFault glyphs mover (fault.Glyph found)

-- why no pattern is spelled
abbrev pub IsSpellingFault : List Row → RunFault → Type 0
IsSpellingFault rows fault.Usage = HasNoColour rows
IsSpellingFault rows (fault.Glyph found) = IsBadSpelling rows found
IsSpellingFault rows found = ⊥

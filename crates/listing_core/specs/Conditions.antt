-- What a game has to meet, as `KEY=VALUE` says it.
use Rattle.std.specs.Prelude.{◌≡◌, ℕ, ◌==◌, ◌&&◌, ◌||◌, Bool, false, List, [], ◌∷◌, ◌++◌, codes, if◌then◌else◌}
use Rattle.std.specs.Bool.{nat_eq}
use Rattle.std.specs.Fmt.{decimal}
use Rattle.std.specs.List.{list_all, starts_with}
use Rattle.std.specs.Str.{bytes_eq}
use Rattle.sgf_core.specs.Tree.{Node}
use Rattle.go_board.specs.Extent.{Extent}
use Rattle.listing_core.specs.declared.conditions.Condition.{Condition}
use Rattle.listing_core.specs.declared.keys.Key.{Key}
use Rattle.listing_core.specs.declared.keys.Key.TheVariants as key
use Rattle.listing_core.specs.Columns.{key_text, key_value}

-- a text is the value, or, where a star stood at its end, begins with what stands before the star
abbrev pub fits : Condition → List ℕ → Bool
fits condition text =
    if condition.is_front then starts_with nat_eq text condition.value.now else bytes_eq text condition.value.now

-- the size of a square board is also its side alone, as 19 for 19x19
abbrev pub side_fits : Condition → Extent → Bool
side_fits condition size = size.columns == size.rows && fits condition (decimal size.columns)

-- a game with a board of this size and with this main line meets a condition on this key
abbrev pub meets_on : Key → Condition → List Node → Extent → Bool
meets_on key.Size condition line size = fits condition (key_value key.Size line size) || side_fits condition size
meets_on key.BlackName condition line size = fits condition (key_value key.BlackName line size)
meets_on key.WhiteName condition line size = fits condition (key_value key.WhiteName line size)
meets_on key.BlackRank condition line size = fits condition (key_value key.BlackRank line size)
meets_on key.WhiteRank condition line size = fits condition (key_value key.WhiteRank line size)
meets_on key.Date condition line size = fits condition (key_value key.Date line size)
meets_on key.Outcome condition line size = fits condition (key_value key.Outcome line size)
meets_on key.Handicap condition line size = fits condition (key_value key.Handicap line size)
meets_on key.Komi condition line size = fits condition (key_value key.Komi line size)

abbrev pub meets : Condition → List Node → Extent → Bool
meets condition line size = meets_on condition.key condition line size

abbrev pub meets_all : List Condition → List Node → Extent → Bool
meets_all conditions line size = list_all (λ condition. meets condition line size) conditions

abbrev pub star : ℕ
star = 42

-- the text spells a condition: its key, an equals sign, and its value, with a star at the end where it may go on
pub record IsSpelled (text : List ℕ) (condition : Condition) : Type 0 where
  pub spelled : text ≡ key_text condition.key ++ codes "=" ++ condition.value.now ++ (if condition.is_front then star ∷ [] else [])
  pub whole : condition.is_front ≡ false → (before : List ℕ) → condition.value.now ≡ before ++ star ∷ [] → ⊥

-- the text spells no condition
abbrev pub SpellsNone : List ℕ → Type 0
SpellsNone text = (found : Key) (value : List ℕ) → text ≡ key_text found ++ codes "=" ++ value → ⊥

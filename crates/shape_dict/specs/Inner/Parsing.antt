-- The parts of a text, each as it is read off the front of bytes.
use Rattle.std.specs.Prelude.{◌≡◌, ℕ, ◌+◌, ◌*◌, ◌-◌, ◌<◌, ◌≤◌, ◌^◌, ◌⊎◌, List, [], ◌∷◌, Option, None, IfSome}
use Rattle.shape_dict.specs.declared.entries.Entry.{Entry}
use Rattle.shape_dict.specs.declared.entries.Text.{Text}
use Rattle.shape_dict.specs.declared.entries.Text.TheVariants as text
use Rattle.shape_dict.specs.declared.lines.Line.{Line}
use Rattle.shape_dict.specs.declared.headers.Header.{Header}
use Rattle.shape_core.specs.Word.{kind_of}
use Rattle.shape_dict.specs.Text.{IsSmallEntry}
use Rattle.shape_dict.specs.Reading.{kind_at}

-- no digit comes first
abbrev pub IsEnded : List ℕ → Type 0
IsEnded [] = Unit {0}
IsEnded (byte ∷ bytes) = (byte < 48) ⊎ (57 < byte)

-- each byte is a digit
abbrev pub AreDigits : List ℕ → Type 0
AreDigits [] = Unit {0}
AreDigits (byte ∷ bytes) = (48 ≤ byte) × (byte ≤ 57) × AreDigits bytes

-- the number that digits are, after a number so far
abbrev pub read_on : ℕ → List ℕ → ℕ
read_on number [] = number
read_on number (digit ∷ digits) = read_on (10 * number + (digit - 48)) digits

-- the entry that a line says, whether its word is canonical or not
abbrev pub entry_of_line : Line → Entry
entry_of_line line = record { shape = line.word; there = line.there; played = line.played; first = line.first }

-- texts 1 and 2 say nothing of a first game
abbrev pub IsPlain : Text → Option ℕ → Type 0
IsPlain text.One first = first ≡ None
IsPlain text.Two first = first ≡ None
IsPlain text.Three first = Unit {0}

-- what a line can spell
pub record IsSpelled (text : Text) (entry : Entry) : Type 0 where
  pub word : entry.shape < 2 ^ 51
  pub small : IsSmallEntry entry
  pub plain : IsPlain text entry.first

-- its place may have what a line says
pub record MayStand (header : Header) (place : ℕ) (line : Line) : Type 0 where
  pub kind : kind_of line.word ≡ kind_at header place
  pub there : 1 ≤ line.there
  pub played : line.played ≤ line.there
  pub first : IfSome line.first (λ game. game < header.games)

-- Which text of a dictionary `--text` names.
use Rattle.std.specs.Prelude.{ℕ, List, codes}
use Rattle.clap.specs.Words.{Row}
use Rattle.command_lines.specs.Values.{IsNumberOf}
use Rattle.shape_dict.specs.declared.entries.Text.{Text}
use Rattle.shape_dict.specs.declared.entries.Text.TheVariants as text

abbrev pub number_of : Text → ℕ
number_of text.One = 1
number_of text.Two = 2
number_of text.Three = 3

-- no text has the number that is given for it
abbrev pub HasNoText : List Row → Type 0
HasNoText rows = (kind : Text) → IsNumberOf (codes "text") rows (number_of kind) → ⊥

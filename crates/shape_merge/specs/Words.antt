-- What the words of the command line ask for.
use Rattle.std.specs.Prelude.{◌≡◌, ◌<◌, ◌^◌, List, Some, IfSome, map, codes, option_map}
use Rattle.clap.specs.Words.{Row, all_of, first_of}
use Rattle.command_lines.specs.Texts.{number_of}
use Rattle.command_lines.specs.Values.{IsNumberOf, IsOptionalNumberOf}
use Rattle.shape_merge.specs.declared.words.Asked.{Asked}

-- the values ask for this join: its text, which patterns stay, the file that is written, and the dictionaries in their order
pub record IsAsked (rows : List Row) (asked : Asked) : Type 0 where
  pub text : IsNumberOf (codes "text") rows (number_of asked.form.text)
  pub least : IsOptionalNumberOf (codes "least") rows asked.form.least
  pub out : option_map (λ name. name.now) asked.out ≡ first_of (codes "out") rows
  pub names : all_of (codes "dictionaries") rows ≡ Some (map (λ name. name.now) asked.names.items)

-- the values ask for no join whose least number is below 2 ^ 64
abbrev pub HasNoJoin : List Row → Type 0
HasNoJoin rows = (asked : Asked) → IsAsked rows asked → IfSome asked.form.least (λ n. n < 2 ^ 64) → ⊥

-- What the words of the command line ask for.
use Rattle.std.specs.Prelude.{◌≡◌, ◌≢◌, ◌⊎◌, ℕ, List, [], Option, Some, codes}
use Rattle.clap.specs.Words.{Row}
use Rattle.command_lines.specs.Lines.{AsksForHelp, refusals_of}
use Rattle.command_lines.specs.Patterns.{IsSpelled, IsSpellingFault}
use Rattle.command_lines.specs.Texts.{HasNoText, number_of}
use Rattle.command_lines.specs.Values.{IsNumberOf}
use Rattle.shape_core.specs.declared.words.Kinds.{Kinds}
use Rattle.shape_core.specs.declared.words.Kinds.TheVariants as kinds
use Rattle.tally_core.specs.Limits.{Limits, AreLimits}
use Rattle.shape_dict.specs.declared.entries.Text.{Text}
use Rattle.shape_dict.specs.declared.entries.Text.TheVariants as text
use Rattle.engine_core.specs.declared.faults.RunFault.{RunFault}
use Rattle.engine_core.specs.declared.faults.RunFault.TheVariants as fault
use Rattle.shapes_line.specs.Commands.{program_app}
use Rattle.shapes_line.specs.declared.words.Task.{Task}
use Rattle.shapes_line.specs.declared.words.Task.TheVariants as task

-- the kinds that are counted for a text
abbrev pub kinds_for : Text → Kinds
kinds_for text.One = kinds.Squares
kinds_for text.Two = kinds.Both
kinds_for text.Three = kinds.Both

-- a count by these settings
pub record IsCount (rows : List Row) (settings : Limits) (kind : Text) : Type 0 where
  pub workers : IsNumberOf (codes "workers") rows settings.workers
  pub bits : IsNumberOf (codes "bits") rows settings.k
  pub text : IsNumberOf (codes "text") rows (number_of kind)
  pub kinds : settings.kinds ≡ kinds_for kind

-- the subcommand is this one, with values of which this holds
abbrev pub Asks : Option (List ℕ × List Row) → List ℕ → (List Row → Type 0) → Type 0
Asks asked name Holds = (rows : List Row) × (asked ≡ Some (name, rows)) × Holds rows

-- the subcommand is another one
abbrev pub AsksNot : Option (List ℕ × List Row) → List ℕ → Type 0
AsksNot asked name = (rows : List Row) → asked ≢ Some (name, rows)

-- the task that a subcommand with its values asks for; any other subcommand, or none, asks for `board`, and none for help
abbrev pub IsTaskOf : Option (List ℕ × List Row) → Task → Type 0
IsTaskOf asked task.Board = AsksNot asked (codes "count") × AsksNot asked (codes "find") × AsksNot asked (codes "join")
IsTaskOf asked (task.Count settings kind) = Asks asked (codes "count") (λ rows. IsCount rows settings kind)
IsTaskOf asked (task.Find shape) = Asks asked (codes "find") (λ rows. IsSpelled rows shape)
IsTaskOf asked (task.Join kind) = Asks asked (codes "join") (λ rows. IsNumberOf (codes "text") rows (number_of kind))
IsTaskOf asked (task.Help help) = ⊥

-- the task is that of the words: help only where it was asked for, and any other only where `clap` refuses nothing
abbrev pub IsAnswered : List (List ℕ) → Option (List ℕ × List Row) → Task → Type 0
IsAnswered words asked (task.Help help) = AsksForHelp program_app words
IsAnswered words asked found = (refusals_of program_app words ≡ []) × IsTaskOf asked found

-- the values are those of no count within the limits
abbrev pub HasNoSettings : List Row → Type 0
HasNoSettings rows = (settings : Limits) → (kind : Text) → IsCount rows settings kind → AreLimits settings → ⊥

-- what can be wrong with a subcommand's values: they spell no pattern, or are those of no count, or of no text
abbrev pub IsWordsFault : Option (List ℕ × List Row) → RunFault → Type 0
IsWordsFault asked found =
    Asks asked (codes "find") (λ rows. IsSpellingFault rows found)
    ⊎ ((found ≡ fault.Usage) × (Asks asked (codes "count") HasNoSettings ⊎ Asks asked (codes "join") HasNoText))

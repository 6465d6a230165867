-- What a line of words asks for, and what can be wrong with it, by what `clap` makes of the words.
use Rattle.std.specs.Prelude.{◌≡◌, ◌≢◌, ◌⊎◌, ℕ, List, []}
use Rattle.clap.specs.Words.{App, IsAmong, fault_of, matches_of, subcommand_of, subcommand_rows_of}
use Rattle.clap.specs.declared.error.kind.ErrorKind.{ErrorKind}
use Rattle.clap.specs.declared.error.kind.ErrorKind.TheVariants as refusal
use Rattle.clap.specs.declared.parser.matches.ArgMatches.{ArgMatches}
use Rattle.command_lines.specs.declared.lines.Line.{Line}
use Rattle.command_lines.specs.declared.lines.Line.TheVariants as line
use Rattle.command_lines.specs.Values.{rows_in}
use Rattle.engine_core.specs.declared.faults.RunFault.{RunFault}
use Rattle.engine_core.specs.declared.faults.RunFault.TheVariants as fault

-- the kinds of refusal by which `clap` answers these words of a program; none where it takes them
abbrev pub refusals_of : App → List (List ℕ) → List ErrorKind
refusals_of app words = fault_of app words

-- `clap` answers that help or a version was asked for
abbrev pub AsksForHelp : App → List (List ℕ) → Type 0
AsksForHelp app words = IsAmong refusal.DisplayHelp (refusals_of app words) ⊎ IsAmong refusal.DisplayVersion (refusals_of app words)

-- these are the values that the words give, to the program or to the subcommand that they name
pub record AreValues (app : App) (words : List (List ℕ)) (matches : ArgMatches) : Type 0 where
  pub rows : rows_in matches ≡ matches_of app words
  pub subcommand : subcommand_rows_of matches ≡ subcommand_of app words

-- the line is what the words ask for: a text only where help or a version was asked for, and else what this holds of, only where `clap` refuses nothing
abbrev pub IsLineOf : {A : Type 0} → App → List (List ℕ) → (A → Type 0) → Line A → Type 0
IsLineOf app words IsAsked (line.Asked asked) = (refusals_of app words ≡ []) × IsAsked asked
IsLineOf app words IsAsked (line.Told text) = AsksForHelp app words

-- this is a refusal, and no answer to who asked for help or a version
abbrev pub IsRefusal : ErrorKind → Type 0
IsRefusal found = (found ≢ refusal.DisplayHelp) × (found ≢ refusal.DisplayVersion) × (found ≢ refusal.OutOfMemory)

-- `clap` refuses the words
abbrev pub AreRefused : App → List (List ℕ) → Type 0
AreRefused app words = (found : ErrorKind) × IsAmong found (refusals_of app words) × IsRefusal found

-- what can be wrong with the words: memory was wanting, or `clap` refuses them
abbrev pub IsLineFault : App → List (List ℕ) → RunFault → Type 0
IsLineFault app words found = (found ≡ fault.Memory) ⊎ ((found ≡ fault.Usage) × AreRefused app words)

-- what can be wrong with the words, or, where `clap` takes them, with what they ask for
abbrev pub IsAskingFault : App → List (List ℕ) → (RunFault → Type 0) → RunFault → Type 0
IsAskingFault app words IsWrong found = IsLineFault app words found ⊎ ((refusals_of app words ≡ []) × IsWrong found)

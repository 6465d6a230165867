-- What the values of a subcommand say.
use Rattle.std.proofs.Common.{◌≡◌, ◌^◌, ℕ, List, Option, Some, arith, inl, inr, refl, sym, subst, [], codes, Result, Ok, Err, IfOk, IfErr}
use Rattle.clap.specs.Words.{App, Row, subcommand_rows_of}
use Rattle.clap.specs.declared.parser.matches.ArgMatches.{ArgMatches}
use Rattle.command_lines.specs.Lines.{AreValues, IsAskingFault, IsLineOf, refusals_of}
use Rattle.command_lines.specs.declared.lines.Line.{Line}
use Rattle.command_lines.specs.declared.lines.Line.TheVariants as line
use Rattle.command_lines.specs.Texts.{HasNoText}
use Rattle.command_lines.specs.Values.{HasNoNumber, IsNumberOf}
use Rattle.command_lines.proofs.Numbers.{one_number}
use Rattle.shape_core.specs.declared.words.Kinds.TheVariants as kinds
use Rattle.tally_core.specs.Limits.{AreLimits}
use Rattle.shapes_line.specs.Commands.{asked_by, program_app}
use Rattle.shapes_line.specs.Words.{HasNoSettings, IsWordsFault, IsTaskOf, IsAnswered}
use Rattle.shapes_line.specs.declared.words.Task.{Task}
use Rattle.shapes_line.specs.declared.words.Task.TheVariants as task
use Rattle.engine_core.specs.declared.faults.RunFault.{RunFault}
use Rattle.engine_core.specs.declared.faults.RunFault.TheVariants as fault

-- without a text, or one of the two numbers, or with numbers outside the limits, there are no settings
pub no_settings_text : (rows : List Row) → HasNoText rows → HasNoSettings rows
no_settings_text rows none settings kind is limits = none kind is.text

pub no_settings_workers : (rows : List Row) → HasNoNumber (2 ^ 8) (codes "workers") rows → HasNoSettings rows
no_settings_workers rows none settings kind is limits = none settings.workers is.workers (omega (arith, limits.few_workers))

pub no_settings_bits : (rows : List Row) → HasNoNumber (2 ^ 8) (codes "bits") rows → HasNoSettings rows
no_settings_bits rows none settings kind is limits = none settings.k is.bits (omega (arith, limits.small_table))

pub no_settings_limits : (rows : List Row) (workers k : ℕ) → IsNumberOf (codes "workers") rows workers → IsNumberOf (codes "bits") rows k →
    (AreLimits (record { workers = workers; k = k; kinds = kinds.Squares }) → ⊥) → HasNoSettings rows
no_settings_limits rows workers k is_workers is_k outside settings kind is limits =
    let same_workers = one_number (codes "workers") rows workers settings.workers is_workers is.workers in
    let same_k = one_number (codes "bits") rows k settings.k is_k is.bits in
    outside (record {
      some_workers = omega (arith, same_workers, limits.some_workers);
      few_workers = omega (arith, same_workers, limits.few_workers);
      small_table = omega (arith, same_k, limits.small_table);
    })

-- a count's fault as that of the words' subcommand
pub count_fault : (asked : Option (List ℕ × List Row)) (rows : List Row) (result : Result Task RunFault) → asked ≡ Some (codes "count", rows) →
    IfErr result (λ found. (found ≡ fault.Usage) × HasNoSettings rows) → IfErr result (IsWordsFault asked)
count_fault asked rows (Ok found) is wrong = tt
count_fault asked rows (Err found) is wrong =
    inr (wrong.0, inl (rows, is, wrong.1))

-- where `clap` refuses nothing, the task of the subcommand is that of the words
answered_from : (words : List (List ℕ)) (asked : Option (List ℕ × List Row)) (result : Result Task RunFault) → refusals_of program_app words ≡ [] → IfOk result (IsTaskOf asked) →
    IfOk result (IsAnswered words asked)
answered_from words asked (Ok task.Board) none is = (none, is)
answered_from words asked (Ok (task.Count settings text)) none is = (none, is)
answered_from words asked (Ok (task.Find shape)) none is = (none, is)
answered_from words asked (Ok (task.Join text)) none is = (none, is)
answered_from words asked (Ok (task.Help text)) none is = absurd is
answered_from words asked (Err found) none is = tt

-- the values of a line of the program that was told
pub taken_by : (told : App) (words : List (List ℕ)) (found : Line ArgMatches) (matches : ArgMatches) → told ≡ program_app → found ≡ line.Asked matches →
    IsLineOf told words (AreValues told words) found → (refusals_of program_app words ≡ []) × AreValues program_app words matches
taken_by told words found matches same is asked =
    subst (λ (app : App). (refusals_of app words ≡ []) × AreValues app words matches) same
    (subst (λ (one : Line ArgMatches). IsLineOf told words (AreValues told words) one) is asked)

pub task_answered : (words : List (List ℕ)) (matches : ArgMatches) (result : Result Task RunFault) → (refusals_of program_app words ≡ []) × AreValues program_app words matches →
    IfOk result (IsTaskOf (subcommand_rows_of matches)) → IfOk result (IsAnswered words (asked_by words))
task_answered words matches result are is =
    answered_from words (asked_by words) result are.0 (subst (λ (a : Option (List ℕ × List Row)). IfOk result (IsTaskOf a)) are.1.subcommand is)

-- and so is its fault
pub task_refused : (words : List (List ℕ)) (matches : ArgMatches) (result : Result Task RunFault) → (refusals_of program_app words ≡ []) × AreValues program_app words matches →
    IfErr result (IsWordsFault (subcommand_rows_of matches)) → IfErr result (IsAskingFault program_app words (IsWordsFault (asked_by words)))
task_refused words matches (Ok found) are is = tt
task_refused words matches (Err found) are is = inr (are.0, subst (λ (a : Option (List ℕ × List Row)). IsWordsFault a found) are.1.subcommand is)

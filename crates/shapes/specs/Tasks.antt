-- What each task does with the reader and the writer, and the status that a run ends with.
use Rattle.std.specs.Prelude.{◌≡◌, ℕ, ◌^◌, List, Option, None, IfSome, Result, Ok, Err}
use Rattle.std.specs.Option.{IsSome}
use Rattle.std.specs.Io.KnownBytes.{Appends, Keeps}
use Rattle.engine_core.specs.Runs.{HasRead, Wrote, IsRunFault, input_of}
use Rattle.engine_core.specs.Boards.{IsBoardText, HasNoBoard, IsBoardFault}
use Rattle.count_core.specs.Counts.{IsCountText, HasCountText, IsCountRunFault}
use Rattle.engine_core.specs.Finds.{IsFoundText, IsAbsentText, IsFindText, IsFindFault}
use Rattle.engine_core.specs.Joins.{IsJoinText, IsJoinRunFault}
use Rattle.engine_core.specs.Output.{WroteFront}
use Rattle.engine_core.specs.Status.{status_of}
use Rattle.engine_core.specs.declared.boards.Outcome.{Outcome}
use Rattle.engine_core.specs.declared.boards.Outcome.TheVariants as outcome
use Rattle.engine_core.specs.declared.faults.RunFault.{RunFault}
use Rattle.shapes.specs.declared.tasks.Answer.{Answer}
use Rattle.shapes_line.specs.declared.words.Task.{Task}
use Rattle.shapes_line.specs.declared.words.Task.TheVariants as task

-- what a task took of the reader's rest, however it ended: help nothing, and any other what a run reads
abbrev pub Reads : Task → Result Answer RunFault → Option (List ℕ) → Option (List ℕ) → Type 0
Reads (task.Help text) result rest left = left ≡ rest
Reads found result rest left = HasRead result rest left

-- what a task that ended well did with the reader's rest and the writer, and what it answered
abbrev pub Does : Task → Option (List ℕ) → Option (List ℕ) → Option (List ℕ) → Answer → Type 0
Does task.Board rest before after answer =
    (answer.report ≡ None)
    × (answer.outcome ≡ outcome.Done → Wrote IsBoardText rest before after)
    × (answer.outcome ≡ outcome.NotFound → IfSome rest (λ all. HasNoBoard (input_of all)))
    × (answer.outcome ≡ outcome.NotFound → Keeps before after)
Does (task.Count settings text) rest before after answer =
    IsSome answer.report
    × (answer.outcome ≡ outcome.Done)
    × IfSome answer.report (λ report. Wrote (IsCountText (2 ^ settings.k) settings.kinds text report) rest before after)
Does (task.Find shape) rest before after answer =
    (answer.report ≡ None)
    × (answer.outcome ≡ outcome.Done → Wrote (IsFoundText shape) rest before after)
    × (answer.outcome ≡ outcome.NotFound → Wrote (IsAbsentText shape) rest before after)
Does (task.Join text) rest before after answer =
    (answer.report ≡ None) × (answer.outcome ≡ outcome.Done) × Wrote (IsJoinText text) rest before after
Does (task.Help text) rest before after answer =
    (answer.report ≡ None) × (answer.outcome ≡ outcome.Done) × Appends before after text.bytes.items

-- why a task was not done, and what is out then
abbrev pub IsTaskFault : Task → Option (List ℕ) → Option (List ℕ) → Option (List ℕ) → RunFault → Type 0
IsTaskFault task.Board rest before after found = IsRunFault IsBoardText IsBoardFault rest before after found
IsTaskFault (task.Count settings text) rest before after found =
    IsRunFault (HasCountText (2 ^ settings.k) settings.kinds text) (IsCountRunFault (2 ^ settings.k) settings.kinds) rest before after found
IsTaskFault (task.Find shape) rest before after found = IsRunFault (IsFindText shape) IsFindFault rest before after found
IsTaskFault (task.Join text) rest before after found = IsRunFault (IsJoinText text) IsJoinRunFault rest before after found
IsTaskFault (task.Help text) rest before after found = WroteFront before after text.bytes.items found

-- 0 where the task was done, 1 where it did not find what was asked for
abbrev pub outcome_status : Outcome → ℕ
outcome_status outcome.Done = 0
outcome_status outcome.NotFound = 1

-- the status that a run ends with
abbrev pub status_after : Result Answer RunFault → ℕ
status_after (Ok answer) = outcome_status answer.outcome
status_after (Err found) = status_of found

-- What the words of the command line ask for.
use Rattle.std.specs.Prelude.{◌≡◌, ◌≢◌, ◌≤◌, ◌<◌, ◌*◌, ◌/◌, ◌^◌, ◌⊎◌, ℕ, true, false, List, [], Some, None, map, codes, option_map}
use Rattle.clap.specs.Words.{Row, first_of}
use Rattle.command_lines.specs.Texts.{number_of}
use Rattle.command_lines.specs.Values.{IsChoiceOf, IsNumberOf, words_in}
use Rattle.shape_dict.specs.declared.entries.Text.{Text}
use Rattle.shape_dict.specs.declared.entries.Text.TheVariants as text
use Rattle.tally_parts.specs.declared.plans.Plan.{Plan}
use Rattle.shape_tally.specs.declared.words.Asked.{Asked}
use Rattle.shape_tally.specs.declared.words.NameEnd.TheVariants as end
use Rattle.shape_tally.specs.declared.words.Named.{Named}
use Rattle.shape_tally.specs.declared.words.Named.TheVariants as named

-- more megabytes of memory can't be asked for
abbrev pub most_memory : ℕ
most_memory = 1000000

-- how many bytes of memory a byte of text is taken to need
abbrev pub need_of : Text → ℕ
need_of text.One = 128
need_of text.Two = 256
need_of text.Three = 256

-- how many bytes of text are counted at a time with this number of megabytes of memory
abbrev pub most_for : Text → ℕ → ℕ
most_for kind memory = (memory * 2 ^ 20) / need_of kind

-- the values ask for this text, this number of workers, and this number of megabytes of memory
pub record IsPlanOf (rows : List Row) (plan : Plan) : Type 0 where
  pub memory : ℕ
  pub is_text : IsNumberOf (codes "text") rows (number_of plan.text)
  pub are_workers : IsNumberOf (codes "workers") rows plan.workers
  pub is_memory : IsNumberOf (codes "memory") rows memory
  pub within : memory ≤ most_memory
  pub is_most : plan.most ≡ most_for plan.text memory

-- the inputs are named by words, where no list is, or else by a list alone, whose names end as the flag says
abbrev pub AreNamed : List Row → Named → Type 0
AreNamed rows (named.Words files) = (first_of (codes "list") rows ≡ None) × (map (λ name. name.now) files.items ≡ words_in (codes "files") rows)
AreNamed rows (named.List file ending) =
    (first_of (codes "list") rows ≡ Some file.now) × (words_in (codes "files") rows ≡ []) × IsChoiceOf (codes "null") end.Zero end.LineFeed rows ending

-- the values ask for this count
pub record IsAsked (rows : List Row) (asked : Asked) : Type 0 where
  pub is_plan : IsPlanOf rows asked.plan
  pub are_named : AreNamed rows asked.named
  pub out : option_map (λ name. name.now) asked.out ≡ first_of (codes "out") rows
  pub report : option_map (λ name. name.now) asked.report ≡ first_of (codes "report") rows
  pub spill : option_map (λ name. name.now) asked.spill ≡ first_of (codes "spill") rows
  pub strict : IsChoiceOf (codes "strict") true false rows asked.is_strict

-- the values ask for no plan with fewer than 2 ^ 8 workers
abbrev pub HasNoPlan : List Row → Type 0
HasNoPlan rows = (plan : Plan) → IsPlanOf rows plan → plan.workers < 2 ^ 8 → ⊥

-- a list is named, and there are other words
abbrev pub HasNoNames : List Row → Type 0
HasNoNames rows = (first_of (codes "list") rows ≢ None) × (words_in (codes "files") rows ≢ [])

-- what is wrong with values that `clap` takes: a number is missing or too large, or a list is named beside words
abbrev pub IsUsage : List Row → Type 0
IsUsage rows = HasNoPlan rows ⊎ HasNoNames rows

-- What the words of the command line ask for.
use Rattle.std.specs.Prelude.{◌≡◌, ◌⊎◌, ℕ, Bool, true, false, List, [], ◌∷◌, Option, Some, None, map, codes, if◌then◌else◌}
use Rattle.clap.specs.Words.{Row}
use Rattle.command_lines.specs.Values.{IsChoiceOf, words_in}
use Rattle.listing_core.specs.Conditions.{IsSpelled, SpellsNone}
use Rattle.listing_core.specs.declared.asked.Form.TheVariants as form
use Rattle.listing_core.specs.declared.conditions.Condition.{Condition}
use Rattle.shape_games.specs.declared.words.Asked.{Asked}
use Rattle.shape_games.specs.declared.words.Work.{Work}
use Rattle.shape_games.specs.declared.words.Work.TheVariants as work

-- these texts spell these conditions, one after another
abbrev pub AreConditions : List (List ℕ) → List Condition → Type 0
AreConditions [] [] = Unit {0}
AreConditions [] (condition ∷ conditions) = ⊥
AreConditions (text ∷ texts) [] = ⊥
AreConditions (text ∷ texts) (condition ∷ conditions) = IsSpelled text condition × AreConditions texts conditions

-- one of the texts spells no condition
abbrev pub HasBadCondition : List (List ℕ) → Type 0
HasBadCondition [] = ⊥
HasBadCondition (text ∷ texts) = SpellsNone text ⊎ HasBadCondition texts

abbrev pub is_some_text : List (List ℕ) → Bool
is_some_text [] = false
is_some_text (text ∷ texts) = true

-- what is done, by the flags that are given, and whether a condition is; what does not go together asks for nothing
abbrev pub work_of : Bool → Bool → Bool → Bool → Option Work
work_of false false false has_condition = Some (work.List form.Lines)
work_of true false false has_condition = Some (work.List form.Columns)
work_of false true false has_condition = Some (work.List form.Trees)
work_of false false true has_condition = if has_condition then None else Some work.Twins
work_of true true twice has_condition = None
work_of true false true has_condition = None
work_of false true true has_condition = None

-- which flags are given
pub record HasFlags (rows : List Row) (info cut twice : Bool) : Type 0 where
  pub is_info : IsChoiceOf (codes "info") true false rows info
  pub is_cut : IsChoiceOf (codes "cut") true false rows cut
  pub is_twice : IsChoiceOf (codes "twice") true false rows twice

-- the values ask for this
pub record IsAsked (rows : List Row) (asked : Asked) : Type 0 where
  pub info : Bool
  pub cut : Bool
  pub twice : Bool
  pub flags : HasFlags rows info cut twice
  pub is_work : work_of info cut twice (is_some_text (words_in (codes "where") rows)) ≡ Some asked.work
  pub conditions : AreConditions (words_in (codes "where") rows) asked.conditions.items
  pub files : map (λ name. name.now) asked.files.items ≡ words_in (codes "files") rows

-- the flags don't go together
pub record HasNoWork (rows : List Row) : Type 0 where
  pub info : Bool
  pub cut : Bool
  pub twice : Bool
  pub flags : HasFlags rows info cut twice
  pub no_work : work_of info cut twice (is_some_text (words_in (codes "where") rows)) ≡ None

-- what is wrong with values that `clap` takes: a condition is none, or they don't go together
abbrev pub IsUsage : List Row → Type 0
IsUsage rows = HasBadCondition (words_in (codes "where") rows) ⊎ HasNoWork rows

-- What ranges by places are when they were taken.
use Rattle.std.specs.Prelude.{◌≡◌, ℕ, Bool, true, List, All, length}
use Rattle.shape_dict.specs.declared.entries.Entry.{Entry}
use Rattle.range_core.specs.Totals.{total_of, all_of, everything}
use Rattle.range_core.specs.Ranges.{AreDealtBy}
use Rattle.range_core.specs.Words.{word_ranges, range_of_word}
use Rattle.slot_table.specs.Passes.{Known, IsPassOf}
use Rattle.gather_core.specs.Numbering.{AreNumbered}
use Rattle.gather_core.specs.declared.taking.Numbering.{Numbering}
use Rattle.gather_core.specs.declared.taking.Taken.{Taken}

-- the pass is of the table, and lists by ranges of words count of each pattern what the ranges did;
-- where the numbers are complete, none was wanting, and each of the patterns has its own
pub record AreTaken {O : Type 0} (numbering : Numbering O) (ranges : List (List Entry)) (known : Known O) (complete : Bool) (lists : List (List (List Entry))) : Type 0 where
  pub pass : IsPassOf numbering.table.now known
  pub long : All (λ words. length words ≡ word_ranges) lists
  pub dealt : All (AreDealtBy (range_of_word numbering.cuts.now)) lists
  pub totals : (shape : ℕ) → total_of shape (everything lists) ≡ total_of shape (all_of ranges)
  pub numbered : complete ≡ true → AreNumbered numbering.table.now.slots known.seen (everything lists)

-- what a thread has taken, or several together
abbrev pub IsTaken : {O : Type 0} → Numbering O → List (List Entry) → Taken O → Type 0
IsTaken numbering ranges taken = AreTaken numbering ranges taken.pass taken.numbered taken.lists.items

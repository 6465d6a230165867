-- What is written of a text, and what is still pending.
use Rattle.std.specs.Prelude.{◌≡◌, ℕ, ◌+◌, ◌<◌, ◌≤◌, List, ◌++◌, length, take, Option, Some, None, if◌then◌else◌}
use Rattle.std.specs.Io.KnownBytes.{Appends}
use Rattle.shape_dict.specs.declared.entries.Entry.{Entry}
use Rattle.shape_dict.specs.declared.headers.Header.{Header}
use Rattle.shape_dict.specs.Inner.Parts.{lines_of as text_lines}
use Rattle.merge_core.specs.declared.faults.MergeFault.{MergeFault}
use Rattle.merge_core.specs.declared.faults.MergeFault.TheVariants as fault
use Rattle.merge_core.specs.declared.entries.NextFault.{NextFault}
use Rattle.merge_core.specs.declared.entries.NextFault.TheVariants as next_fault
use Rattle.merge_core.specs.declared.forms.Form.{Form}
use Rattle.merge_core.specs.declared.judged.Totals.{Totals}
use Rattle.merge_core.specs.declared.tallies.Tally.{Tally}
use Rattle.merge_core.specs.Least.{kept}

-- the lines that a text has of what stays of entries
abbrev pub lines_of : Form → List Entry → List ℕ
lines_of form entries = text_lines form.text (kept form.least entries)

-- a fault of a tree, after this number of bytes
abbrev pub stopped : ℕ → NextFault → MergeFault
stopped written next_fault.Overflow = fault.Changed written
stopped written (next_fault.Read n) = fault.Read n written
stopped written next_fault.Changed = fault.Changed written
stopped written next_fault.Memory = fault.Memory written

-- the writer failed in these bytes, which follow this number of others
pub record IsCutIn (written : ℕ) (bytes : List ℕ) (before after : Option (List ℕ)) (found : MergeFault) : Type 0 where
  pub count : ℕ
  pub is_write : found ≡ fault.Write (written + count)
  pub short : count < length bytes
  pub out : Appends before after (take count bytes)

-- a front of these bytes is out, and the others are still to be written
pub record WroteSome (old new : List ℕ) (before after : Option (List ℕ)) (written count : ℕ) : Type 0 where
  pub out : List ℕ
  pub parts : old ≡ out ++ new
  pub count_is : count ≡ written + length out
  pub appends : Appends before after out

-- some of the entries were pushed, and what was pushed is out or pending
pub record HasPushed (form : Form) (header done pending : List ℕ) (Rest : List Entry → Type 0) (all : List Entry) : Type 0 where
  pub given : List Entry
  pub others : List Entry
  pub parts : all ≡ given ++ others
  pub same : header ++ lines_of form given ≡ done ++ pending
  pub rest : Rest others

-- what is out, where some are
pub record IsOutSoFar (before after : Option (List ℕ)) (written : ℕ) (P : List ℕ → Type 0) : Type 0 where
  pub done : List ℕ
  pub appends : Appends before after done
  pub count : length done ≡ written
  pub known : P done

-- a front of this text is out, as the fault says
abbrev pub IsStopped : Option (List ℕ) → Option (List ℕ) → List ℕ → MergeFault → Type 0
IsStopped before after text fault.Empty = ⊥
IsStopped before after text (fault.Dict n found) = ⊥
IsStopped before after text (fault.Read n written) = (written ≤ length text) × Appends before after (take written text)
IsStopped before after text (fault.Changed written) = (written ≤ length text) × Appends before after (take written text)
IsStopped before after text (fault.Write written) = (written < length text) × Appends before after (take written text)
IsStopped before after text (fault.Memory written) = (written ≤ length text) × Appends before after (take written text)

-- how many moves a header names
abbrev pub moves_for : Option ℕ → Totals → Tally → ℕ
moves_for None totals counts = totals.moves
moves_for (Some least) totals counts = counts.squares_played

-- and how many diamonds
abbrev pub diamonds_for : Option ℕ → Totals → Tally → Option ℕ
diamonds_for None totals counts = if totals.counts_diamonds then Some counts.diamonds else None
diamonds_for (Some least) totals counts = None

-- the header of what stays of a join
abbrev pub header_for : Form → Totals → Tally → Header
header_for form totals counts = record {
  text = form.text;
  games = totals.games;
  moves = moves_for form.least totals counts;
  squares = counts.squares;
  diamonds = diamonds_for form.least totals counts;
}

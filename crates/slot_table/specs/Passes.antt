-- What contracts say of a pass before and after a call.
use Rattle.std.specs.Prelude.{◌≡◌, ℕ, ◌+◌, ◌≤◌, List, [], ◌∷◌, ◌++◌, length, Option, Some, filter_map, slice_get}
use Rattle.atomic_table.specs.Seated.{TableId}
use Rattle.slot_table.specs.declared.entries.Happened.{Happened}
use Rattle.slot_table.specs.History.{IsLegal, Begins, Keeps}
use Rattle.slot_table.specs.Places.{times, IsRising}
use Rattle.slot_table.specs.Stakes.{IsWhole}

-- a table: which one it is, its order, and how many slots it has, so how many numbers
pub record Numbers (O : Type 0) : Type 0 where
  pub table : TableId
  pub order : O
  pub slots : ℕ

-- a pass: of which table and order it is, a history that it has seen, the places in it of its own calls, and its stake, how
-- much of the right to call the table it has
pub record Known (O : Type 0) : Type 0 where
  pub table : TableId
  pub order : Option O
  pub seen : List Happened
  pub mine : List ℕ
  pub stake : List ℕ

-- the pass is of the table: it has seen a legal history, and the places of its own calls rise in it
pub record IsPassOf {O : Type 0} (numbers : Numbers O) (pass : Known O) : Type 0 where
  pub table : pass.table ≡ numbers.table
  pub order : pass.order ≡ Some numbers.order
  pub legal : IsLegal numbers.slots pass.seen
  pub rises : IsRising 0 pass.mine (length pass.seen)

-- the calls that a pass made, with their answers, in order: what it has seen at the places of its own calls
abbrev pub calls_of : {O : Type 0} → Known O → List Happened
calls_of pass = filter_map (slice_get pass.seen) pass.mine

-- where a pass has the whole stake, no other has a call of its own: this one's are all that it has seen
abbrev pub IsAlone : {O : Type 0} → Known O → Type 0
IsAlone pass = IsWhole pass.stake → calls_of pass ≡ pass.seen

-- a pass at an earlier and at a later time: what it had seen begins what it has seen, each key has kept its number and
-- no least game has risen, and in between the pass made these calls and gave nothing of its stake away; and where it was
-- alone, it still is
pub record IsLater {O : Type 0} (n : ℕ) (old : Known O) (made : List Happened) (new : Known O) : Type 0 where
  pub begins : Begins old.seen new.seen
  pub keeps : Keeps n old.seen new.seen
  pub calls : calls_of new ≡ calls_of old ++ made
  pub stake : new.stake ≡ old.stake
  pub alone : IsAlone old → IsAlone new

-- the pass has seen more since, and its own calls and its stake are the same
pub record Saw {O : Type 0} (n : ℕ) (old new : Known O) : Type 0 where
  pub since : List Happened
  pub seen : new.seen ≡ old.seen ++ since
  pub keeps : Keeps n old.seen new.seen
  pub mine : new.mine ≡ old.mine
  pub stake : new.stake ≡ old.stake

-- the pass made this call: it has seen a history that begins with what it had seen and ends with the call, and the call's
-- place is one more of its own; its stake is the same
pub record Made {O : Type 0} (n : ℕ) (old : Known O) (made : Happened) (new : Known O) : Type 0 where
  pub since : List Happened
  pub seen : new.seen ≡ (old.seen ++ since) ++ made ∷ []
  pub keeps : Keeps n old.seen new.seen
  pub mine : new.mine ≡ old.mine ++ length (old.seen ++ since) ∷ []
  pub stake : new.stake ≡ old.stake

-- one pass was made of two: it has seen a history that begins with what each of the two had seen. Its own calls are those
-- of both, which share none, and no others, and it has the stakes of both
pub record Met {O : Type 0} (n : ℕ) (one other both : Known O) : Type 0 where
  pub after_one : Begins one.seen both.seen
  pub after_other : Begins other.seen both.seen
  pub keeps_one : Keeps n one.seen both.seen
  pub keeps_other : Keeps n other.seen both.seen
  pub mine : (k : ℕ) → times k both.mine ≡ times k one.mine + times k other.mine
  pub apart : (k : ℕ) → times k one.mine + times k other.mine ≤ 1
  pub stake : both.stake ≡ one.stake ++ other.stake

-- What is known of dictionaries that were judged.
use Rattle.std.specs.Prelude.{◌≡◌, ◌≢◌, ℕ, ◌+◌, ◌-◌, ◌^◌, ◌<◌, ◌≤◌, ◌⊎◌, min, List, [], ◌∷◌, ◌++◌, length, Option}
use Rattle.std.specs.List.{AllByRecursion}
use Rattle.shape_dict.specs.declared.faults.DictFault.{DictFault}
use Rattle.shape_dict.specs.declared.faults.DictFault.TheVariants as dict_fault
use Rattle.shape_dict.specs.Contents.{Contents}
use Rattle.shape_dict.specs.Reading.{IsTextOf}
use Rattle.stream_core.specs.Faults.{IsWholeFault}
use Rattle.stream_core.specs.declared.faults.StreamFault.{StreamFault}
use Rattle.stream_core.specs.declared.faults.StreamFault.TheVariants as stream
use Rattle.merge_core.specs.declared.faults.MergeFault.{MergeFault}
use Rattle.merge_core.specs.declared.faults.MergeFault.TheVariants as fault
use Rattle.shape_dict.specs.declared.headers.Header.{Header}
use Rattle.shape_dict.specs.declared.entries.Entry.{Entry}
use Rattle.shape_dict.specs.Reading.{counts_of}
use Rattle.merge_core.specs.declared.judged.Judged.{Judged}
use Rattle.merge_core.specs.declared.judged.Totals.{Totals}
use Rattle.merge_core.specs.declared.tallies.Tally.{Tally}
use Rattle.merge_core.specs.Entries.{IsSmallUse}
use Rattle.merge_core.specs.Merge.{AreTexts, IsDictFault}
use Rattle.merge_core.specs.Inner.Folds.{Folds, FoldsAll, there_in}
use Rattle.merge_core.specs.Inner.Leaves.{Offers}
use Rattle.merge_core.specs.Inner.Ranges.{IsCountOf}

-- a number, or 2 ^ 64 - 1 where it is more
abbrev pub capped : ℕ → ℕ
capped number = min number (2 ^ 64 - 1)

-- the totals are those of this header
pub record IsTotalIn (totals : Totals) (header : Header) : Type 0 where
  pub games : totals.games ≡ header.games
  pub moves : totals.moves ≡ header.moves
  pub kinds : totals.counts_diamonds ≡ counts_of header

-- the totals are those of this dictionary
pub record IsTotalOf (totals : Totals) (sum : Contents) : Type 0 where
  pub games : totals.games ≡ sum.games
  pub moves : totals.moves ≡ sum.moves
  pub kinds : totals.counts_diamonds ≡ sum.counts_diamonds

-- what was judged is this dictionary
pub record IsSumOf (judged : Judged) (sum : Contents) : Type 0 where
  pub games : judged.totals.games ≡ sum.games
  pub moves : judged.totals.moves ≡ sum.moves
  pub kinds : judged.totals.counts_diamonds ≡ sum.counts_diamonds
  pub there : judged.there ≡ capped (there_in sum.entries)

-- the text is one of a dictionary, and this was judged
abbrev pub IsJudged : List ℕ → Judged → Type 0
IsJudged text judged = (d : Contents) × IsTextOf d text × IsSumOf judged d

-- a fault of a text with the number of its dictionary
abbrev pub numbered : ℕ → StreamFault → MergeFault
numbered n (stream.Dict found) = fault.Dict n found
numbered n stream.Read = fault.Read n 0
numbered n stream.Memory = fault.Memory 0

-- the fault of one text, whose dictionary has this number
abbrev pub IsOwnFault : List ℕ → ℕ → MergeFault → Type 0
IsOwnFault text n fault.Empty = ⊥
IsOwnFault text n (fault.Dict m found) = (m ≡ n) × IsWholeFault text found
IsOwnFault text n (fault.Read m written) = written ≡ 0
IsOwnFault text n (fault.Changed written) = written ≡ 0
IsOwnFault text n (fault.Write written) = ⊥
IsOwnFault text n (fault.Memory written) = written ≡ 0

-- the first inputs are texts of dictionaries that can be joined, and what was judged is their join
pub record HasJudged (bytes : ℕ → Option (List ℕ)) (n : ℕ) (judged : Judged) (inputs : List (List ℕ)) : Type 0 where
  pub first : Contents
  pub others : List Contents
  pub sum : Contents
  pub texts : AreTexts (first ∷ others) inputs
  pub offers : Offers bytes first.counts_diamonds 0 (first ∷ others)
  pub number : length inputs ≡ n
  pub folds : Folds first others sum
  pub few_games : sum.games < 2 ^ 64
  pub few_moves : sum.moves < 2 ^ 64
  pub small : AllByRecursion IsSmallUse sum.entries
  pub of_sum : IsSumOf judged sum

-- before anything is written: the first fault of these inputs, or a read failed, or memory was refused
abbrev pub IsJudgeFault : List (List ℕ) → MergeFault → Type 0
IsJudgeFault inputs fault.Empty = inputs ≡ []
IsJudgeFault inputs (fault.Dict n found) = IsDictFault inputs n found
IsJudgeFault inputs (fault.Read m written) = written ≡ 0
IsJudgeFault inputs (fault.Changed written) = written ≡ 0
IsJudgeFault inputs (fault.Write written) = ⊥
IsJudgeFault inputs (fault.Memory written) = written ≡ 0

-- the same, whatever inputs follow
abbrev pub IsFaultAt : List (List ℕ) → List ℕ → MergeFault → Type 0
IsFaultAt inputs input found = (after : List (List ℕ)) → IsJudgeFault (inputs ++ input ∷ after) found

-- the inputs of these numbers are texts of dictionaries, whose join has these totals and entries
pub record HasSummed (bytes : ℕ → Option (List ℕ)) (from : ℕ) (totals : Totals) (inputs : List (List ℕ)) (entries : List Entry) : Type 0 where
  pub all : List Contents
  pub sum : Contents
  pub texts : AreTexts all inputs
  pub offers : Offers bytes totals.counts_diamonds from all
  pub folds : FoldsAll all sum
  pub same : sum.entries ≡ entries
  pub of_sum : IsTotalOf totals sum
  pub few_games : totals.games < 2 ^ 64
  pub few_moves : totals.moves < 2 ^ 64

-- all inputs are texts of dictionaries that can be joined; their join has these totals, and what stays of it this tally
pub record HasJoined (bytes : ℕ → Option (List ℕ)) (least : Option ℕ) (totals : Totals) (counts : Tally) (inputs : List (List ℕ)) : Type 0 where
  pub entries : List Entry
  pub summed : HasSummed bytes 0 totals inputs entries
  pub counted : IsCountOf least entries counts

-- the totals of two that follow one another
pub record IsTotal (before next both : Totals) : Type 0 where
  pub games : both.games ≡ before.games + next.games
  pub moves : both.moves ≡ before.moves + next.moves
  pub same_kinds : before.counts_diamonds ≡ next.counts_diamonds
  pub kinds : both.counts_diamonds ≡ before.counts_diamonds
  pub few_games : both.games < 2 ^ 64
  pub few_moves : both.moves < 2 ^ 64

-- what two that were judged are together
pub record IsBoth (before next both : Judged) : Type 0 where
  pub games : both.totals.games ≡ before.totals.games + next.totals.games
  pub moves : both.totals.moves ≡ before.totals.moves + next.totals.moves
  pub same_kinds : before.totals.counts_diamonds ≡ next.totals.counts_diamonds
  pub kinds : both.totals.counts_diamonds ≡ before.totals.counts_diamonds
  pub there : both.there ≡ capped (before.there + next.there)
  pub few_games : both.totals.games < 2 ^ 64
  pub few_moves : both.totals.moves < 2 ^ 64

-- why they are none
abbrev pub IsBothFault : Totals → Totals → DictFault → Type 0
IsBothFault before next dict_fault.MixedKinds = before.counts_diamonds ≢ next.counts_diamonds
IsBothFault before next dict_fault.Overflow =
    (before.counts_diamonds ≡ next.counts_diamonds) × ((2 ^ 64 ≤ before.games + next.games) ⊎ (2 ^ 64 ≤ before.moves + next.moves))
IsBothFault before next found = ⊥

-- How far the calls of a batch have come.
use Rattle.std.specs.Prelude.{◌≡◌, ◌≢◌, ℕ, ◌+◌, ◌^◌, ◌<◌, ◌≤◌, false, List, [], ◌∷◌, ◌++◌, slice_index, slice_index_or}
use Rattle.probe_core.specs.declared.calls.Call.TheVariants as call
use Rattle.probe_core.specs.declared.calls.Answer.{Answer}
use Rattle.probe_core.specs.Machine.{Machine, Followed, Runs, Answers, code_of, follows}
use Rattle.slot_table.specs.declared.batches.Look.{Look}
use Rattle.slot_table.specs.declared.entries.Happened.{Happened}
use Rattle.slot_table.specs.Batches.{entered_as}
use Rattle.slot_table.specs.History.{Tells}
use Rattle.slot_table.specs.Telling.{IsSearch, entries_of}

-- the machine of a key's Enter that loads at an index
abbrev pub loads_at : ℕ → ℕ → Machine
loads_at key index = record { call = call.Enter key; index = index; swaps = false }

-- what follows a look: its load found a word
abbrev pub followed : ℕ → (ℕ → ℕ → ℕ) → ℕ → Look → Followed
followed n place key look = follows n (loads_at key look.index) (place key look.index) look.word

-- what is known of what follows: a machine of the key's Enter is on its way, or the answer still tells
abbrev pub HasFollowed : ℕ → (ℕ → ℕ → ℕ) → List Happened → ℕ → Followed → Type 0
HasFollowed n place seen key (Runs machine) = IsSearch n place machine seen × (machine.call ≡ call.Enter key)
HasFollowed n place seen key (Answers found) = Tells n seen (call.Enter key) found

-- a look at a slot for a key's Enter, where this much was seen
pub record IsLooked (n : ℕ) (place : ℕ → ℕ → ℕ) (seen : List Happened) (key : ℕ) (look : Look) : Type 0 where
  pub within : look.index < n
  pub next : HasFollowed n place seen key (followed n place key look)

-- the look of a place
abbrev pub look_at : List Look → ℕ → Look
look_at looks i = slice_index_or looks i (record { index = 0; word = 0 })

-- the first `count` keys were looked at
abbrev pub AreLooked : ℕ → (ℕ → ℕ → ℕ) → List Happened → List ℕ → List Look → ℕ → Type 0
AreLooked n place seen keys looks count = (i : ℕ) → i < count → IsLooked n place seen (slice_index keys i) (look_at looks i)

-- the calls of the keys that have ended by these looks
abbrev pub ended : ℕ → (ℕ → ℕ → ℕ) → List ℕ → List Look → List Happened
ended n place [] looks = []
ended n place (key ∷ keys) [] = []
ended n place (key ∷ keys) (look ∷ looks) = entries_of (call.Enter key) (followed n place key look) ++ ended n place keys looks

-- the call that ends after a look, where it did not end by it
abbrev pub rest_of : ℕ → Followed → Answer → List Happened
rest_of key (Runs machine) found = entered_as key found
rest_of key (Answers one) found = []

-- the answer, where a call has ended by a look
abbrev pub IsAnswerOf : Followed → Answer → Type 0
IsAnswerOf (Runs machine) found = Unit {0}
IsAnswerOf (Answers one) found = one ≡ found

-- a look met another key, and the key has a place after it
pub record IsPassed (n key : ℕ) (look : Look) : Type 0 where
  pub taken : look.word ≢ 0
  pub other : look.word ≢ code_of key
  pub more : look.index + 1 < n
  pub fits : look.index + 1 < 2 ^ 64

-- the first `count` of these places rise, and are below `high`
pub record AreChosen (high : ℕ) (left : List ℕ) (count : ℕ) : Type 0 where
  pub within : (a : ℕ) → a < count → slice_index left a < high
  pub rises : (a b : ℕ) → a < b → b < count → slice_index left a < slice_index left b

-- at the places that are left from the one at `from` on, up to the one before `count`, other keys were met
abbrev pub ArePassed : ℕ → List ℕ → List Look → List ℕ → ℕ → ℕ → Type 0
ArePassed n keys looks left from count = (a : ℕ) → from ≤ a → a < count
    → IsPassed n (slice_index keys (slice_index left a)) (look_at looks (slice_index left a))

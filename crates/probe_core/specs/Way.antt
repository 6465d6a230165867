-- A call on its way through the places of its key: what is known of them, and what each step tells.
use Rattle.std.specs.Prelude.{◌≡◌, ℕ, ◌<◌, Bool, true, false, ⊤, List}
use Rattle.probe_core.specs.declared.calls.Call.{Call}
use Rattle.probe_core.specs.declared.calls.Call.TheVariants as call
use Rattle.probe_core.specs.Machine.{Machine, Followed, Runs, Answers, key_of, place_in}
use Rattle.probe_core.specs.Sequential.{Step}
use Rattle.probe_core.specs.Placing.{HoldOthers}
use Rattle.probe_core.specs.Showing.{table_of}
use Rattle.probe_core.specs.World.{words_after}

-- a call that only looks up never swaps
abbrev pub MaySwap : Call → Bool → Type 0
MaySwap (call.Enter key) swaps = ⊤
MaySwap (call.LookUp key) true = ⊥
MaySwap (call.LookUp key) false = ⊤

-- a call at one of n places, after places that other keys hold
pub record IsOnWay (n : ℕ) (place : ℕ → ℕ → ℕ) (words : List ℕ) (machine : Machine) : Type 0 where
  pub within : machine.index < n
  pub passed : HoldOthers (place (key_of machine.call)) words (key_of machine.call) machine.index
  pub swapping : MaySwap machine.call machine.swaps

-- a call goes on as the same one, further on its way, and leaves the words as they were
pub record GoesOnWay (n : ℕ) (place : ℕ → ℕ → ℕ) (words : List ℕ) (machine next : Machine) : Type 0 where
  pub same : next.call ≡ machine.call
  pub on_way : IsOnWay n place words next
  pub still : words_after words machine (place_in place machine) ≡ words

-- what a step of a call tells: it goes on its way, or its answer is a step of the sequential table from what the words
-- showed to what they show then
abbrev pub Tells : ℕ → (ℕ → ℕ → ℕ) → List ℕ → Machine → Followed → Type 0
Tells n place words machine (Runs next) = GoesOnWay n place words machine next
Tells n place words machine (Answers found) =
    Step (table_of words) machine.call found (table_of (words_after words machine (place_in place machine)))

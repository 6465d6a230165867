-- The decisions of a probe: what a call does at each place of its key's order, by what a word showed. This project's
-- own.
use Rattle.std.specs.Prelude.{ℕ, ◌+◌, ◌-◌, ◌*◌, Bool, true, false, ◌==◌, if◌then◌else◌}
use Rattle.probe_core.specs.declared.calls.Call.{Call}
use Rattle.probe_core.specs.declared.calls.Call.TheVariants as call
use Rattle.probe_core.specs.declared.calls.Answer.{Answer}
use Rattle.probe_core.specs.declared.calls.Answer.TheVariants as answer
use Rattle.probe_core.specs.declared.calls.Want.{Want}
use Rattle.probe_core.specs.declared.calls.Want.TheVariants as want

-- a call, an index in its key's order, and whether a swap is next or a load
pub record Machine : Type 0 where
  pub call : Call
  pub index : ℕ
  pub swaps : Bool

-- what follows a step: a swap of the same place, a load of the next place, or the answer
pub data Decision : Type 0 where
  Swaps : Decision
  GoesOn : Decision
  Ends : Answer → Decision

-- the key of a call
abbrev pub key_of : Call → ℕ
key_of (call.Enter key) = key
key_of (call.LookUp key) = key

-- the word of a key: the key and 1 more, since 0 is the word of a free place
abbrev pub code_of : ℕ → ℕ
code_of key = key + 1

-- after a load of place p
abbrev pub after_load : Call → ℕ → ℕ → Decision
after_load (call.Enter key) p word =
    if word == 0 then Swaps else (if word == code_of key then Ends (answer.Number p) else GoesOn)
after_load (call.LookUp key) p word =
    if word == 0 then Ends answer.Absent else (if word == code_of key then Ends (answer.Number p) else GoesOn)

-- after a swap of place p, which won where the word was 0
abbrev pub after_swap : ℕ → ℕ → ℕ → Decision
after_swap key p word =
    if word == 0 then Ends (answer.Number p) else (if word == code_of key then Ends (answer.Number p) else GoesOn)

-- after the next step of a machine at place p, where the word was this one before the step
abbrev pub decision : Machine → ℕ → ℕ → Decision
decision machine p word =
    if machine.swaps then after_swap (key_of machine.call) p word else after_load machine.call p word

-- a machine that runs on, or the answer of one that ends
pub data Followed : Type 0 where
  Runs : Machine → Followed
  Answers : Answer → Followed

-- going on is a load of the next place; from the last of n places it is Full
abbrev pub followed_by : ℕ → Machine → Decision → Followed
followed_by n machine Swaps = Runs (record { call = machine.call; index = machine.index; swaps = true })
followed_by n machine GoesOn =
    if machine.index + 1 == n then Answers answer.Full
    else Runs (record { call = machine.call; index = machine.index + 1; swaps = false })
followed_by n machine (Ends found) = Answers found

-- what follows the next step of a machine at place p of n places, where the word was this one before the step
abbrev pub follows : ℕ → Machine → ℕ → ℕ → Followed
follows n machine p word = followed_by n machine (decision machine p word)

-- a call begins with a load of the first place of its order
abbrev pub begun : Call → Machine
begun asked = record { call = asked; index = 0; swaps = false }

-- the next step of a machine at place p: a load, or a swap from 0 to the key's word
abbrev pub next_step : Machine → ℕ → Want
next_step machine p =
    if machine.swaps then want.Swap p (code_of (key_of machine.call)) else want.Load p

-- the place that a machine is at, where its order is this one
abbrev pub place_in : (ℕ → ℕ → ℕ) → Machine → ℕ
place_in place machine = place (key_of machine.call) machine.index

-- how many steps a call has left at most: with m places left that it has not passed, and a swap or a load next
abbrev pub steps_of : Call → ℕ → Bool → ℕ
steps_of (call.Enter key) m swaps = if swaps then 2 * m - 1 else 2 * m
steps_of (call.LookUp key) m swaps = m

-- how many steps a machine has left at most, with n places
abbrev pub left_of : ℕ → Machine → ℕ
left_of n machine = steps_of machine.call (n - machine.index) machine.swaps

-- the place that a step is at
abbrev pub place_wanted : Want → ℕ
place_wanted (want.Load p) = p
place_wanted (want.Swap p value) = p

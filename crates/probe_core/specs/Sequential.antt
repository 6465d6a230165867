-- The sequential table: a finite map from numbers to keys, and what one call does to it. This project's own.
use Rattle.std.specs.Prelude.{◌≡◌, ℕ, ◌<◌, ◌⊎◌, List, length, Option, Some, None, slice_index_or, slice_set}
use Rattle.probe_core.specs.declared.calls.Call.{Call}
use Rattle.probe_core.specs.declared.calls.Call.TheVariants as call
use Rattle.probe_core.specs.declared.calls.Answer.{Answer}
use Rattle.probe_core.specs.declared.calls.Answer.TheVariants as answer

-- for each number, from 0, its key or none
abbrev pub Table : Type 0
Table = List (Option ℕ)

-- p is the key's number
pub record IsNumber (table : Table) (key p : ℕ) : Type 0 where
  pub within : p < length table
  pub stands : slice_index_or table p None ≡ Some key

-- no key has the number p
pub record IsFree (table : Table) (p : ℕ) : Type 0 where
  pub within : p < length table
  pub free : slice_index_or table p None ≡ None

-- the key has no number
abbrev pub IsAbsent : Table → ℕ → Type 0
IsAbsent table key = (p : ℕ) → IsNumber table key p → ⊥

-- no number is free
abbrev pub IsFull : Table → Type 0
IsFull table = (p : ℕ) → IsFree table p → ⊥

-- some number is free
abbrev pub HasFree : Table → Type 0
HasFree table = (p : ℕ) × IsFree table p

-- a call with this answer makes `new` of `old`: Enter answers the key's number, else a free one that is the key's from
-- then on, else Full; LookUp answers the key's number, else Absent where a number is free, else Full
abbrev pub Step : Table → Call → Answer → Table → Type 0
Step old (call.Enter key) (answer.Number p) new =
    (IsNumber old key p × (new ≡ old)) ⊎ (IsAbsent old key × IsFree old p × (new ≡ slice_set old p (Some key)))
Step old (call.Enter key) answer.Absent new = ⊥
Step old (call.Enter key) answer.Full new = IsAbsent old key × IsFull old × (new ≡ old)
Step old (call.LookUp key) (answer.Number p) new = IsNumber old key p × (new ≡ old)
Step old (call.LookUp key) answer.Absent new = IsAbsent old key × HasFree old × (new ≡ old)
Step old (call.LookUp key) answer.Full new = IsAbsent old key × IsFull old × (new ≡ old)

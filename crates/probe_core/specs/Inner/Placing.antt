-- Definitions that private contracts alone use, beside those of `Placing`.
use Rattle.std.specs.Prelude.{◌≢◌, ℕ, ◌<◌, List, slice_index_or}
use Rattle.probe_core.specs.Machine.{code_of}

-- none of n places holds the key
abbrev pub IsNowhere : ℕ → List ℕ → ℕ → Type 0
IsNowhere n words key = (p : ℕ) → p < n → slice_index_or words p 0 ≢ code_of key

-- none of n places is free
abbrev pub AreAllTaken : ℕ → List ℕ → Type 0
AreAllTaken n words = (p : ℕ) → p < n → slice_index_or words p 0 ≢ 0

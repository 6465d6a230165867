-- Probe orders: in which order the places of a table of `2 ^ k` slots are probed for a key. They are this project's
-- own; nothing is claimed of the constant.
use Rattle.std.specs.Prelude.{◌≡◌, ℕ, ◌+◌, ◌-◌, ◌*◌, ◌/◌, ◌%◌, ◌^◌, ◌<◌}

-- the places at the indices below n are all numbers below n, each once
pub record IsOrder (n : ℕ) (place : ℕ → ℕ) : Type 0 where
  pub within : (i : ℕ) → i < n → place i < n
  pub once : (i j : ℕ) → i < n → j < n → place i ≡ place j → i ≡ j
  pub each : (p : ℕ) → p < n → (i : ℕ) × (i < n) × (place i ≡ p)

-- what a key's places are taken from: its product with a constant, mod 2^64
abbrev pub mixed_of : ℕ → ℕ
mixed_of key = (key * 0x9E37_79B9_7F4A_7C15) % 2 ^ 64

-- the first place: the top k of the 64 bits, which is 0 for k = 0
abbrev pub start_of : ℕ → ℕ → ℕ
start_of k mixed = mixed / 2 ^ (64 - k)

-- place i of a key where each place is followed by the next one, and the last one by the first
abbrev pub linear_place : ℕ → ℕ → ℕ → ℕ
linear_place k key i = (start_of k (mixed_of key) + i) % 2 ^ k

-- the step of a key: bits 20 and on, mod the number of slots, with the lowest bit set
abbrev pub step_of : ℕ → ℕ → ℕ
step_of k mixed = (mixed / 2 ^ 20) % 2 ^ k / 2 * 2 + 1

-- place i of a key where each place is followed by the one a step further
abbrev pub odd_place : ℕ → ℕ → ℕ → ℕ
odd_place k key i = (start_of k (mixed_of key) + i * step_of k (mixed_of key)) % 2 ^ k

-- place i of a key where runs of 16 places follow one another, each as many runs further than the one before as the key's step
abbrev pub runs_place : ℕ → ℕ → ℕ → ℕ
runs_place k key i = (start_of k (mixed_of key) + i % 16 + i / 16 * 16 * step_of k (mixed_of key)) % 2 ^ k

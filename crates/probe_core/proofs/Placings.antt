-- What a free place, and the last place, of a key's order tell of the key.
use Rattle.std.proofs.Common.{◌≡◌, ℕ, ◌<◌, ◌⊎◌, List, slice_index_or, ap, ◌∙◌, sym, inl, inr, arith}
use Rattle.probe_core.specs.Order.{IsOrder}
use Rattle.probe_core.specs.Machine.{code_of}
use Rattle.probe_core.specs.Placing.{HoldOthers, IsPlaced}
use Rattle.probe_core.specs.Inner.Placing.{IsNowhere, AreAllTaken}

pub three_ways : (i j : ℕ) → (i < j) ⊎ ((i ≡ j) ⊎ (j < i))
three_ways i j = grind arith

-- a key is nowhere if the places of its order hold other keys up to one that is free
pub nowhere_at_free : (n : ℕ) (place : ℕ → ℕ → ℕ) (words : List ℕ) (key i : ℕ) → IsOrder n (place key) → IsPlaced n place words
    → HoldOthers (place key) words key i → slice_index_or words (place key i) 0 ≡ 0 → IsNowhere n words key
nowhere_at_free n place words key i order placed held free p h e =
    let q : (j : ℕ) × (j < n) × (place key j ≡ p) = order.each p h
    in let stands : slice_index_or words (place key q.0) 0 ≡ code_of key = ap (λ x. slice_index_or words x 0) q.2 ∙ e
    in elim (three_ways i q.0) [
      | inl before ↦ (placed key q.0 q.1 stands i before).taken free
      | inr (inl same) ↦
          let clash : 0 ≡ code_of key = sym free ∙ ap (λ x. slice_index_or words (place key x) 0) same ∙ stands
          in omega (arith, clash)
      | inr (inr behind) ↦ (held q.0 behind).other stands
    ]

-- a key is nowhere if all places of its order hold other keys
pub nowhere_at_end : (n : ℕ) (place : ℕ → ℕ → ℕ) (words : List ℕ) (key : ℕ) → IsOrder n (place key)
    → HoldOthers (place key) words key n → IsNowhere n words key
nowhere_at_end n place words key order held p h e =
    let q : (j : ℕ) × (j < n) × (place key j ≡ p) = order.each p h
    in (held q.0 q.1).other (ap (λ x. slice_index_or words x 0) q.2 ∙ e)

-- no place is free then
pub taken_at_end : (n : ℕ) (place : ℕ → ℕ → ℕ) (words : List ℕ) (key : ℕ) → IsOrder n (place key)
    → HoldOthers (place key) words key n → AreAllTaken n words
taken_at_end n place words key order held p h e =
    let q : (j : ℕ) × (j < n) × (place key j ≡ p) = order.each p h
    in (held q.0 q.1).taken (ap (λ x. slice_index_or words x 0) q.2 ∙ e)

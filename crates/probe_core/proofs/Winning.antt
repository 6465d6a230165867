-- A swap that wins keeps each key after places that other keys hold.
use Rattle.std.proofs.Common.{◌≡◌, ◌≢◌, ℕ, ◌<◌, List, length, slice_index_or, slice_set, ap, ◌∙◌, sym, subst, inl, inr, arith}
use Rattle.std.proofs.lemmas.Bool.{cases_eq}
use Rattle.std.proofs.lemmas.List.{get_or-set_same, get_or-set_other}
use Rattle.probe_core.specs.Order.{IsOrder}
use Rattle.probe_core.specs.Machine.{code_of}
use Rattle.probe_core.specs.Placing.{IsOther, HoldOthers, IsPlaced}

-- a word elsewhere stays
stays_other : (words : List ℕ) (p c q x : ℕ) → q ≢ p → IsOther (slice_index_or words q 0) x → IsOther (slice_index_or (slice_set words p c) q 0) x
stays_other words p c q x apart other =
    let P : ℕ → Type 0 = λ w. IsOther w x
    in subst P (sym (get_or-set_other words p q c 0 apart)) other

-- the places before the one that was won
own_places : (n : ℕ) (place : ℕ → ℕ) (words : List ℕ) (key c i j l : ℕ) → IsOrder n place → i < n → j < n → HoldOthers place words key i
    → place j ≡ place i → l < j → IsOther (slice_index_or (slice_set words (place i) c) (place l) 0) key
own_places n place words key c i j l order hi hj held same hl =
    let at : j ≡ i = order.once j i hj hi same
    in let before : l < i = omega (arith, at, hl)
    in stays_other words (place i) c (place l) key
    (λ e. let twice : l ≡ i = order.once l i (omega (arith, before, hi)) hi e in omega (arith, twice, before))
    (held l before)

-- the places before one that already held its key
pub other_places : (place : ℕ → ℕ) (words : List ℕ) (x p c l : ℕ) → slice_index_or words p 0 ≡ 0
    → IsOther (slice_index_or words (place l) 0) x → IsOther (slice_index_or (slice_set words p c) (place l) 0) x
other_places place words x p c l free other =
    stays_other words p c (place l) x (λ e. other.taken (ap (λ q. slice_index_or words q 0) e ∙ free)) other

-- a key that is written to a free place after other keys leaves each key after other keys
pub placed_by_win : (n : ℕ) (place : ℕ → ℕ → ℕ) (words : List ℕ) (key i : ℕ) → IsOrder n (place key) → IsPlaced n place words
    → i < n → length words ≡ n → HoldOthers (place key) words key i → slice_index_or words (place key i) 0 ≡ 0
    → IsPlaced n place (slice_set words (place key i) (code_of key))
placed_by_win n place words key i order placed hi whole held free x j hj e l hl =
    let p : ℕ = place key i
    in let c : ℕ = code_of key
    in let inside : p < length words = omega (arith, order.within i hi, whole)
    in let P : ℕ → Type 0 = λ y. (j l : ℕ) → j < n → place y j ≡ p → l < j → IsOther (slice_index_or (slice_set words p c) (place y l) 0) y
    in let own : P key = λ j l hj same hl. own_places n (place key) words key c i j l order hi hj held same hl
    in elim (cases_eq (place x j) p) [
      | inl same ↦
          let coded : c ≡ code_of x = sym (get_or-set_same words p c 0 inside) ∙ ap (λ q. slice_index_or (slice_set words p c) q 0) (sym same) ∙ e
          in let is : key ≡ x = omega (arith, coded)
          in subst P is own j l hj same hl
      | inr apart ↦
          let stood : slice_index_or words (place x j) 0 ≡ code_of x = sym (get_or-set_other words p (place x j) c 0 apart) ∙ e
          in other_places (place x) words x p c l free (placed x j hj stood l hl)
    ]

-- Texts in memory are the inputs of their join.
use Rattle.std.proofs.Common.{◌≡◌, ℕ, suc, ◌+◌, ◌<◌, List, [], ◌∷◌, length, get_or, map, Some, ap, sym, ◌∙◌, arith, zero-add}
use Rattle.std.proofs.lemmas.Option.{slice_get-get_or}
use Rattle.std.specs.Prelude.{Option, option_map, slice_get}
use Rattle.std.specs.Borrow.{Bor}
use Rattle.merge_core.specs.Merge.{AreInputs}

-- the bytes of one of them
abbrev pub bytes_in : List (Bor (List ℕ)) → ℕ → Option (List ℕ)
bytes_in texts n = option_map (λ (text : Bor (List ℕ)). text.now) (slice_get texts n)

-- those from a number on
inputs_from : (all : List (Bor (List ℕ))) (k : ℕ) (rest : List (Bor (List ℕ))) → ((i : ℕ) → bytes_in all (k + i) ≡ bytes_in rest i) →
    AreInputs (bytes_in all) k (map (λ (text : Bor (List ℕ)). text.now) rest)
inputs_from all k [] same = tt
inputs_from all k (text ∷ rest) same =
    let here : k ≡ k + 0 = omega arith in (
      ap (bytes_in all) here ∙ same 0,
      inputs_from all (k + 1) rest (λ i. let there : (k + 1) + i ≡ k + suc i = omega arith in ap (bytes_in all) there ∙ same (suc i)),
    )

pub are_inputs : (texts : List (Bor (List ℕ))) → AreInputs (bytes_in texts) 0 (map (λ (text : Bor (List ℕ)). text.now) texts)
are_inputs texts = inputs_from texts 0 texts (λ i. ap (bytes_in texts) (zero-add i))

-- one of them, by its number
pub text_at : (texts : List (Bor (List ℕ))) (n : ℕ) (none : Bor (List ℕ)) (text : List ℕ) → n < length texts → bytes_in texts n ≡ Some text → (get_or texts n none).now ≡ text
text_at texts n none text inside is =
    let same : Some ((get_or texts n none).now) ≡ Some text =
    sym (ap (option_map (λ (one : Bor (List ℕ)). one.now)) (slice_get-get_or texts n none inside)) ∙ is in
    cc

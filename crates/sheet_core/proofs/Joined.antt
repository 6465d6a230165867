-- Pieces that were appended one after another.
use Rattle.std.proofs.Common.{◌≡◌, ℕ, List, ◌++◌, ap, ◌∙◌, append_assoc}

pub three_joined : (old a b c s t u : List ℕ) → s ≡ old ++ a → t ≡ s ++ b → u ≡ t ++ c → u ≡ old ++ ((a ++ b) ++ c)
three_joined old a b c s t u one two three =
    three ∙ ap (λ x. x ++ c) (two ∙ ap (λ x. x ++ b) one) ∙ simp append_assoc

pub five_joined : (old a b c d e s t u v w : List ℕ) → s ≡ old ++ a → t ≡ s ++ b → u ≡ t ++ c → v ≡ u ++ d → w ≡ v ++ e →
    w ≡ old ++ ((((a ++ b) ++ c) ++ d) ++ e)
five_joined old a b c d e s t u v w one two three four five =
    five ∙ ap (λ x. x ++ e) (four ∙ ap (λ x. x ++ d) (three ∙ ap (λ x. x ++ c) (two ∙ ap (λ x. x ++ b) one))) ∙ simp append_assoc

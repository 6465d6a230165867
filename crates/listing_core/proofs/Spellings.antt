-- The texts that spell a condition.
use Rattle.std.proofs.Common.{◌≡◌, ℕ, ◌≤◌, List, [], ◌∷◌, ◌++◌, length, drop, ap, sym, subst, ◌∙◌, arith, append_assoc, codes}
use Rattle.std.specs.Prelude.{slice_index}

-- two letters, an equals sign, and the value
text_is : (text key : List ℕ) → 3 ≤ length text → slice_index text 2 ≡ 61 → key ≡ slice_index text 0 ∷ slice_index text 1 ∷ [] →
    text ≡ key ++ codes "=" ++ drop 3 text
text_is [] key long equals is = absurd (omega (arith, long))
text_is (a ∷ []) key long equals is = absurd (omega (arith, long))
text_is (a ∷ b ∷ []) key long equals is = absurd (omega (arith, long))
text_is (a ∷ b ∷ c ∷ rest) key long equals is =
    subst (λ k. a ∷ b ∷ c ∷ rest ≡ k ++ codes "=" ++ rest) (sym is) (ap (λ x. a ∷ b ∷ x ∷ rest) equals)

-- and a star at the end
pub starred : (text key value front : List ℕ) → 3 ≤ length text → slice_index text 2 ≡ 61 → key ≡ slice_index text 0 ∷ slice_index text 1 ∷ [] →
    value ≡ drop 3 text → value ≡ front ++ 42 ∷ [] → text ≡ key ++ codes "=" ++ front ++ 42 ∷ []
starred text key value front long equals is rest ends =
    text_is text key long equals is ∙ ap (λ v. key ++ codes "=" ++ v) (sym rest ∙ ends) ∙ sym (append_assoc (key ++ codes "=") front (42 ∷ []))

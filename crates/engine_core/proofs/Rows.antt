-- Numbers in order, the first of them apart.
use Rattle.std.proofs.Common.{◌≡◌, ℕ, suc, ◌+◌, ◌-◌, ◌<◌, List, ◌∷◌, ◌++◌, ap, ◌∙◌, append_assoc, add-one, sym, arith}
use Rattle.shape_core.specs.Word.{count_from}

pub count_from-first : (n k : ℕ) → k < n → count_from k (n - k) ≡ k ∷ count_from (k + 1) (n - (k + 1))
count_from-first n k inside =
    let more : n - k ≡ suc (n - (k + 1)) = omega arith in
    ap (count_from k) more ∙ ap (λ m. k ∷ count_from m (n - (k + 1))) (sym (add-one k))

-- one piece more is in the text, and is taken from what is left
pub piece_moved : (text new piece rest whole : List ℕ) → new ≡ text ++ piece → text ++ (piece ++ rest) ≡ whole → new ++ rest ≡ whole
piece_moved text new piece rest whole grown left = ap (λ xs. xs ++ rest) grown ∙ append_assoc text piece rest ∙ left

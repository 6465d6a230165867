-- What stands at a place of a list once one more stands at its end, or another one at some place.
use Rattle.std.proofs.Common.{◌≡◌, ℕ, ◌<◌, ◌≤◌, List, [], ◌∷◌, ◌++◌, length, get_or, sym, subst, arith, length-append, ⊎_elim}
use Rattle.table_shares.proofs.Common.{cases_lt, cases_eq, get_or-set_same, get_or-set_other}
use Rattle.std.proofs.Math.ListN.{set, get_or-append}
use Rattle.std.proofs.Math.Seq.{get_or-append_seam}

pub each_more : {A : Type 0} (P : ℕ → A → Type 0) (xs : List A) (x d : A) → ((i : ℕ) → i < length xs → P i (get_or xs i d)) →
    P (length xs) x → (i : ℕ) → i < length (xs ++ x ∷ []) → P i (get_or (xs ++ x ∷ []) i d)
each_more P xs x d h last i inside = ⊎_elim
    (λ (low : i < length xs). subst (P i) (sym (get_or-append xs (x ∷ []) d i low)) (h i low))
    (λ (high : length xs ≤ i).
    let end : length xs ≡ i = omega (arith, length-append xs (x ∷ []), inside, high) in
    subst (λ k. P k (get_or (xs ++ x ∷ []) k d)) end (subst (P (length xs)) (sym (get_or-append_seam xs x [] d)) last))
    (cases_lt i (length xs))

pub put_at : {A : Type 0} (P : ℕ → A → Type 0) (xs : List A) (at : ℕ) (x d : A) → at < length xs → P at x → (i : ℕ) →
    ((i ≡ at → ⊥) → P i (get_or xs i d)) → P i (get_or (set xs at x) i d)
put_at P xs at x d within here i away = ⊎_elim
    (λ (same : i ≡ at). subst (λ k. P k (get_or (set xs at x) k d)) (sym same)
    (subst (P at) (sym (get_or-set_same xs at x d within)) here))
    (λ (other : i ≡ at → ⊥). subst (P i) (sym (get_or-set_other xs at i x d other)) (away other))
    (cases_eq i at)

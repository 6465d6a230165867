-- Hits that are added to those that were found.
use Rattle.std.proofs.Common.{◌≡◌, ℕ, zero, suc, ◌≤◌, List, [], ◌∷◌, ◌++◌, length, take, Option, Some, None, refl, ap, sym, subst, ◌∙◌, arith, append_assoc, length-append}
use Rattle.std.proofs.Math.Nat.{lt_of_not-le}
use Rattle.std.proofs.lemmas.List.{append-nil, take-take}
use Rattle.hits_core.specs.declared.found.Found.{Found}
use Rattle.hits_core.specs.declared.hits.Hit.{Hit}
use Rattle.hits_core.specs.Hits.{first_of}
use Rattle.hits_core.specs.Inner.Finding.{IsFull, IsWithin, GrowsBy, AddsUpTo}

take-append-take : {A : Type 0} (n : ℕ) (xs ys : List A) → take n (take n xs ++ ys) ≡ take n (xs ++ ys)
take-append-take zero xs ys = refl
take-append-take (suc n) [] ys = refl
take-append-take (suc n) (x ∷ xs) ys = ap (λ zs. x ∷ zs) (take-append-take n xs ys)

take-full : {A : Type 0} (n : ℕ) (xs ys : List A) → n ≤ length xs → take n (xs ++ ys) ≡ take n xs
take-full zero xs ys enough = refl
take-full (suc n) [] ys enough = absurd (omega arith)
take-full (suc n) (x ∷ xs) ys enough = ap (λ zs. x ∷ zs) (take-full n xs ys (omega arith))

take-all : {A : Type 0} (n : ℕ) (xs : List A) → length xs ≤ n → take n xs ≡ xs
take-all zero [] few = refl
take-all zero (x ∷ xs) few = absurd (omega arith)
take-all (suc n) [] few = refl
take-all (suc n) (x ∷ xs) few = ap (λ zs. x ∷ zs) (take-all n xs (omega arith))

take-nil : {A : Type 0} (n : ℕ) → take {A = A} n [] ≡ []
take-nil zero = refl
take-nil (suc n) = refl

-- what is cut off before more is added is cut off afterwards
pub first-append : {A : Type 0} (most : Option ℕ) (xs ys : List A) → first_of most (first_of most xs ++ ys) ≡ first_of most (xs ++ ys)
first-append None xs ys = refl
first-append (Some n) xs ys = take-append-take n xs ys

pub first-first : {A : Type 0} (most : Option ℕ) (xs : List A) → first_of most (first_of most xs) ≡ first_of most xs
first-first None xs = refl
first-first (Some n) xs = take-take n n xs (omega arith)

pub first-nil : {A : Type 0} (most : Option ℕ) → first_of {A = A} most [] ≡ []
first-nil None = refl
first-nil (Some n) = take-nil n

-- where there are enough, more changes nothing
pub first-full : (most : Option ℕ) (xs ys : List Hit) → IsFull most xs → first_of most (xs ++ ys) ≡ first_of most xs
first-full None xs ys full = absurd full
first-full (Some n) xs ys full = take-full n xs ys full

-- what is cut off after others is cut off with them
take-after : {A : Type 0} (n m : ℕ) (xs ys : List A) → n ≤ m → take n (xs ++ take m ys) ≡ take n (xs ++ ys)
take-after zero m xs ys less = refl
take-after (suc n) m [] ys less = take-take (suc n) m ys less
take-after (suc n) m (x ∷ xs) ys less = ap (λ zs. x ∷ zs) (take-after n m xs ys (omega arith))

pub first-after : {A : Type 0} (most : Option ℕ) (xs ys : List A) → first_of most (xs ++ first_of most ys) ≡ first_of most (xs ++ ys)
first-after None xs ys = refl
first-after (Some n) xs ys = take-after n n xs ys (omega arith)

pub full-more : (most : Option ℕ) (xs ys : List Hit) → IsFull most ys → IsFull most (xs ++ ys)
full-more None xs ys full = full
full-more (Some n) xs ys full = omega (arith, full, length-append xs ys)

take-shorter : {A : Type 0} (n : ℕ) (xs : List A) → length (take n xs) ≤ length xs
take-shorter zero xs = omega arith
take-shorter (suc n) [] = omega arith
take-shorter (suc n) (x ∷ xs) = omega (arith, take-shorter n xs)

-- where the first are enough, all are
pub full-first : (most : Option ℕ) (xs : List Hit) → IsFull most (first_of most xs) → IsFull most xs
full-first None xs full = full
full-first (Some n) xs full = omega (arith, full, take-shorter n xs)

pub within-grown : (before after : Found) (hits : List Hit) → IsWithin before → GrowsBy before after hits → IsWithin after
within-grown before after hits within grown =
    ap (λ m. first_of m after.hits.items) grown.most
    ∙ ap (first_of before.most) (grown.is within)
    ∙ first-first before.most (before.hits.items ++ hits)
    ∙ sym (grown.is within)

pub grows-none : (found : Found) → GrowsBy found found []
grows-none found = record {
  most = refl;
  is = λ within. sym within ∙ ap (first_of found.most) (sym (append-nil found.hits.items));
}

pub grows-on : (a b c : Found) (xs ys : List Hit) → GrowsBy a b xs → GrowsBy b c ys → GrowsBy a c (xs ++ ys)
grows-on a b c xs ys first then = record {
  most = then.most ∙ first.most;
  is = λ within.
      then.is (within-grown a b xs within first)
      ∙ ap (λ m. first_of m (b.hits.items ++ ys)) first.most
      ∙ ap (λ hits. first_of a.most (hits ++ ys)) (first.is within)
      ∙ first-append a.most (a.hits.items ++ xs) ys
      ∙ ap (first_of a.most) (append_assoc a.hits.items xs ys);
}

-- one hit is added
pub grows-push : (before after : Found) (hit : Hit) → after.most ≡ before.most → after.hits.items ≡ before.hits.items ++ hit ∷ [] → (IsFull before.most before.hits.items → ⊥) →
    GrowsBy before after (hit ∷ [])
grows-push before after hit same is room = record {
  most = same;
  is = λ within. is ∙ sym (all-first before.most before.hits.items (hit ∷ []) refl room);
}
  where
    all-first : (most : Option ℕ) (xs ys : List Hit) → length ys ≡ 1 → (IsFull most xs → ⊥) → first_of most (xs ++ ys) ≡ xs ++ ys
    all-first None xs ys one room = refl
    all-first (Some n) xs ys one room = take-all n (xs ++ ys) (omega (arith, length-append xs ys, one, lt_of_not-le room))

-- none is, where there are as many as are asked for
pub grows-full : (found : Found) (hit : Hit) → IsFull found.most found.hits.items → GrowsBy found found (hit ∷ [])
grows-full found hit full = record {
  most = refl;
  is = λ within. sym within ∙ sym (first-full found.most found.hits.items (hit ∷ []) full);
}

pub adds-begin : (found : Found) (all : List Hit) → AddsUpTo found found all all
adds-begin found all = record { done = []; parts = refl; grown = grows-none found }

pub adds-on : (a b c : Found) (all here left : List Hit) → AddsUpTo a b all (here ++ left) → GrowsBy b c here → AddsUpTo a c all left
adds-on a b c all here left up grown = record {
  done = up.done ++ here;
  parts = append_assoc up.done here left ∙ up.parts;
  grown = grows-on a b c up.done here up.grown grown;
}

pub adds-end : (a b : Found) (all left : List Hit) → left ≡ [] → AddsUpTo a b all left → GrowsBy a b all
adds-end a b all left none up =
    subst (GrowsBy a b) (sym (append-nil up.done) ∙ ap (λ l. up.done ++ l) (sym none) ∙ up.parts) up.grown

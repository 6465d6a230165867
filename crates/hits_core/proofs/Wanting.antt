-- Which words are wanted.
use Rattle.std.proofs.Common.{◌≡◌, ℕ, ◌==◌, ◌<◌, ◌≤◌, inl, inr, Bool, true, false, cond, List, [], ◌∷◌, ◌++◌, length, filter, get_or, All, Err, refl, ap, sym, ◌∙◌, arith}
use Rattle.std.specs.List.Sorted.{IsBinarySearchResult}
use Rattle.std.specs.Ordering.{nat_cmp}
use Rattle.std.proofs.lemmas.Bool.{ne_eqb, cases_lt}
use Rattle.std.proofs.lemmas.List.Elements.{All-weaker, All-from_get_or}
use Rattle.std.proofs.lemmas.List.Folds.{list_any_none}
use Rattle.std.proofs.lemmas.List.Sorted.{searched}
use Rattle.shape_core.specs.Word.{kind_of}
use Rattle.shape_core.specs.declared.words.Kind.TheVariants as kind
use Rattle.hits_core.specs.Wanted.{is_wanted}

-- a diamond is none of words that are all squares
pub no-diamond : (words : List ℕ) → All (λ word. kind_of word ≡ kind.Square) words → (word : ℕ) → kind_of word ≡ kind.Diamond → is_wanted words word ≡ false
no-diamond words squares word diamond =
    list_any_none (λ w. w == word) words
    (All-weaker (λ w. kind_of w ≡ kind.Square) (λ w. (w == word) ≡ false)
    (λ w square. ne_eqb w word (λ same. let other : kind.Square ≡ kind.Diamond = sym square ∙ ap kind_of same ∙ diamond in absurd (cc)))
    words squares)

-- what a search doesn't find is not among the words
pub not-found : (words : List ℕ) (word at : ℕ) → IsBinarySearchResult (λ y. nat_cmp y word) words (Err at) → ((i j : ℕ) → i ≤ j → j < length words → get_or words i 0 ≤ get_or words j 0) →
    is_wanted words word ≡ false
not-found words word at h rise =
    let parted = searched words word (Err at) h rise in
    list_any_none (λ w. w == word) words
    (All-from_get_or (λ w. (w == word) ≡ false) words 0
    (λ k inside. elim (cases_lt k at) [
      | inl before ↦ (let below = parted.1 k before in ne_eqb (get_or words k 0) word (λ same. absurd (omega (arith, below, same))))
      | inr after ↦ (let above = parted.2 k after inside in ne_eqb (get_or words k 0) word (λ same. absurd (omega (arith, above, same))))
    ]))

-- both of two words are judged
pub both-judged : (p : ℕ → Bool) (x y : ℕ) → filter p (x ∷ []) ++ filter p (y ∷ []) ≡ filter p (x ∷ y ∷ [])
both-judged p x y = elim (p x) as (λ b. cond b (x ∷ []) [] ++ filter p (y ∷ []) ≡ cond b (x ∷ filter p (y ∷ [])) (filter p (y ∷ []))) [ true ↦ refl | false ↦ refl ]

-- the second of two words need not be judged where it is not wanted
pub one-judged : (p : ℕ → Bool) (x y : ℕ) → p y ≡ false → filter p (x ∷ []) ++ [] ≡ filter p (x ∷ y ∷ [])
one-judged p x y none = ap (λ b. filter p (x ∷ []) ++ cond b (y ∷ []) []) (sym none) ∙ both-judged p x y

-- Parts of a list, one after the other.
use Rattle.std.proofs.Common.{◌≡◌, ℕ, ◌+◌, ◌-◌, ◌<◌, ◌≤◌, Bool, true, IsTrue, List, [], ◌∷◌, ◌++◌, length, take, drop, sym, ap, ◌∙◌, arith}
use Rattle.std.specs.Prelude.{slice_range, slice_index, ◌&&◌}
use Rattle.std.specs.List.{list_all}
use Rattle.std.proofs.lemmas.List.{take-append-drop, drop-drop}
use Rattle.std.proofs.lemmas.List.Edits.{between_more, between_none, length-between}
use Rattle.std.proofs.lemmas.List.Folds.{list_all-append}
use Rattle.std.proofs.Math.Seq.{take-add}

-- from i on: up to j, and from j on
pub slice-drop : (xs : List ℕ) (i j : ℕ) → i ≤ j → drop i xs ≡ slice_range xs i j ++ drop j xs
slice-drop xs i j h =
    let e : i + (j - i) ≡ j = omega arith in
    sym (take-append-drop (j - i) (drop i xs)) ∙ ap (λ (ys : List ℕ). slice_range xs i j ++ ys) (drop-drop (j - i) i xs ∙ ap (λ (n : ℕ). drop n xs) e)

pub slice-join : (xs : List ℕ) (i j k : ℕ) → i ≤ j → j ≤ k → slice_range xs i k ≡ slice_range xs i j ++ slice_range xs j k
slice-join xs i j k h l =
    let e : k - i ≡ (j - i) + (k - j) = omega arith in
    let f : i + (j - i) ≡ j = omega arith in
    ap (λ (n : ℕ). take n (drop i xs)) e ∙ take-add (j - i) (k - j) (drop i xs)
    ∙ ap (λ (ys : List ℕ). slice_range xs i j ++ take (k - j) ys) (drop-drop (j - i) i xs ∙ ap (λ (n : ℕ). drop n xs) f)

-- its first, and the others
pub slice-first : (xs : List ℕ) (i j : ℕ) → i < j → i < length xs → slice_range xs i j ≡ slice_index xs i ∷ slice_range xs (i + 1) j
slice-first xs i j h k =
    slice-join xs i (i + 1) j (omega arith) (omega arith) ∙ ap (λ (ys : List ℕ). ys ++ slice_range xs (i + 1) j) (between_more xs i i 0 (omega arith) k ∙ ap (λ (ys : List ℕ). ys ++ slice_index xs i ∷ []) (between_none xs i))

pub length-slice : (xs : List ℕ) (i j : ℕ) → i ≤ j → j ≤ length xs → i + length (slice_range xs i j) ≡ j
length-slice xs i j h k = omega (arith, length-between xs i j k)

pub all-append : (p : ℕ → Bool) (xs ys : List ℕ) → IsTrue (list_all p xs) → IsTrue (list_all p ys) → IsTrue (list_all p (xs ++ ys))
all-append p xs ys a b = list_all-append p xs ys ∙ ap (λ (t : Bool). t && list_all p ys) a ∙ b

-- one more that passes
pub all-more : (p : ℕ → Bool) (xs : List ℕ) (i j : ℕ) → i ≤ j → j < length xs → IsTrue (list_all p (slice_range xs i j)) → p (slice_index xs j) ≡ true → IsTrue (list_all p (slice_range xs i (j + 1)))
all-more p xs i j h k a b =
    ap (λ (ys : List ℕ). list_all p ys) (between_more xs i j 0 h k) ∙ all-append p (slice_range xs i j) (slice_index xs j ∷ []) a (ap (λ (t : Bool). t && true) b)

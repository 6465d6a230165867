-- What a list is after a call that was lent all of it as a slice.
use Rattle.std.proofs.Common.{◌≡◌, ℕ, List, [], ◌++◌, length, take, drop, ap, ◌∙◌, sym}
use Rattle.std.proofs.lemmas.List.{append-nil}
use Rattle.std.proofs.Math.Seq.{take-length, drop-length}

-- a slice that was lent from the whole of a list
pub lent_whole : (old new : List ℕ) (n : ℕ) → length new ≡ length old → n ≡ length old → take n (new ++ drop (length new) old) ≡ new
lent_whole old new n same whole =
    let none : drop (length new) old ≡ [] = ap (λ m. drop m old) same ∙ drop-length old
    in let all : take (length new) new ≡ new = take-length new
    in ap (λ m. take m (new ++ drop (length new) old)) (whole ∙ sym same)
    ∙ ap (λ rest. take (length new) (new ++ rest)) none ∙ ap (λ l. take (length new) l) (append-nil new) ∙ all

-- Bytes that are read or written one part after another.
use Rattle.std.proofs.Common.{◌≡◌, ℕ, ◌≤◌, List, [], ◌++◌, length, take, Option, Some, None, IfSome, ap, sym, subst, ◌∙◌, append_assoc, ◌-◌, ◌+◌, drop, arith, take-add}
use Rattle.std.proofs.lemmas.List.{take_all, take_at, append-nil, length-drop}
use Rattle.std.specs.Io.KnownBytes.{Consumes, Appends, IsAtEnd}
use Rattle.engine_core.specs.Runs.{ReadInput, input_of}

pub consumed_more : (a b c : Option (List ℕ)) (xs ys : List ℕ) → Consumes a b xs → Consumes b c ys → Consumes a c (xs ++ ys)
consumed_more None b c xs ys h k = tt
consumed_more (Some all) None c xs ys h k = absurd h
consumed_more (Some all) (Some rest) None xs ys h k = absurd k
consumed_more (Some all) (Some rest) (Some left) xs ys h k = h ∙ ap (λ zs. xs ++ zs) k ∙ sym (append_assoc xs ys left)

pub appended_more : (a b c : Option (List ℕ)) (xs ys : List ℕ) → Appends a b xs → Appends b c ys → Appends a c (xs ++ ys)
appended_more None b c xs ys h k = tt
appended_more (Some before) None c xs ys h k = absurd h
appended_more (Some before) (Some between) None xs ys h k = absurd k
appended_more (Some before) (Some between) (Some after) xs ys h k = k ∙ ap (λ zs. zs ++ ys) h ∙ append_assoc before xs ys

-- all was read, and it is not too much
pub read_to_end : (a b : Option (List ℕ)) (xs : List ℕ) (n : ℕ) → Consumes a b xs → IsAtEnd b → length xs ≤ n → IfSome a (λ all. xs ≡ take n all)
read_to_end None b xs n h e l = tt
read_to_end (Some all) None xs n h e l = absurd h
read_to_end (Some all) (Some rest) xs n h e l =
    let whole : all ≡ xs = h ∙ ap (λ zs. xs ++ zs) e ∙ append-nil xs in
    sym (ap (take n) whole ∙ take_all n xs l)

-- as much was read as is wanted
pub read_enough : (a b : Option (List ℕ)) (xs : List ℕ) (n : ℕ) → Consumes a b xs → length xs ≡ n → IfSome a (λ all. xs ≡ take n all)
read_enough None b xs n h l = tt
read_enough (Some all) None xs n h l = absurd h
read_enough (Some all) (Some rest) xs n h l = sym (ap (take n) h ∙ take_at xs rest n l)

-- the last read gave nothing, at the end
pub read_last : (a b c : Option (List ℕ)) (xs room : List ℕ) (count n : ℕ) → Consumes a b xs → Consumes b c (take count room) → count ≡ 0 → IsAtEnd c → length xs ≤ n → IfSome a (λ all. xs ≡ take n all)
read_last a b c xs room count n h k none e l =
    let last : Consumes b c [] = subst (λ m. Consumes b c (take m room)) none k in
    subst (λ ys. IfSome a (λ all. ys ≡ take n all)) (append-nil xs)
    (read_to_end a c (xs ++ []) n (consumed_more a b c xs [] h last) e (rw append-nil l))

-- the input was read
pub read_all : (rest left : Option (List ℕ)) (items : List ℕ) → Consumes rest left items → IfSome rest (λ all. items ≡ input_of all) → ReadInput rest left
read_all None left items taken is = tt
read_all (Some all) left items taken is = subst (λ bytes. Consumes (Some all) left bytes) is taken

-- the given number of further bytes of a text was written
pub written_more : (a b c : Option (List ℕ)) (text : List ℕ) (at n : ℕ) → Appends a b (take at text) → Appends b c (take n (take (length text - at) (drop at text))) → Appends a c (take (at + n) text)
written_more a b c text at n h k =
    let rest : take (length text - at) (drop at text) ≡ drop at text = take_all (length text - at) (drop at text) (rw length-drop (omega arith)) in
    let next : Appends b c (take n (drop at text)) = subst (λ xs. Appends b c (take n xs)) rest k in
    subst (λ xs. Appends a c xs) (sym (take-add at n text)) (appended_more a b c (take at text) (take n (drop at text)) h next)

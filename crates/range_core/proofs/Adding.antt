-- Counts of one pattern add up in any order and any grouping, and so do lists of entries.
use Rattle.std.proofs.Common.{◌≡◌, ◌≢◌, ℕ, ◌+◌, ◌<◌, List, [], ◌∷◌, ◌++◌, length, take, get_or, Option, Some, None, refl, ap, sym, ◌∙◌, arith}
use Rattle.std.proofs.lemmas.List.{take_more}
use Rattle.std.proofs.lemmas.Bool.Decides.{nat_tests}
use Rattle.std.proofs.lemmas.List.Concat.{flat_map-append}
use Rattle.shape_dict.specs.declared.entries.Entry.{Entry}
use Rattle.range_core.specs.Totals.{Total, earlier, together, count_at, total_of, all_of, everything}

pub earlier_assoc : (a b c : Option ℕ) → earlier (earlier a b) c ≡ earlier a (earlier b c)
earlier_assoc a b c = Prim.grind (arith)

pub earlier_comm : (a b : Option ℕ) → earlier a b ≡ earlier b a
earlier_comm a b = Prim.grind (arith)

pub together_none : (a : Option Total) → together a None ≡ a
together_none None = refl
together_none (Some a) = refl

pub together_assoc : (a b c : Option Total) → together (together a b) c ≡ together a (together b c)
together_assoc None b c = refl
together_assoc (Some a) None c = refl
together_assoc (Some a) (Some b) None = refl
together_assoc (Some a) (Some b) (Some c) =
    let first = earlier_assoc a.first b.first c.first in
    Prim.grind (arith)

pub together_comm : (a b : Option Total) → together a b ≡ together b a
together_comm None None = refl
together_comm None (Some b) = refl
together_comm (Some a) None = refl
together_comm (Some a) (Some b) =
    let first = earlier_comm a.first b.first in
    Prim.grind (arith)

-- the first of three moves after the second
pub together_swap : (a b c : Option Total) → together a (together b c) ≡ together b (together a c)
together_swap a b c = sym (together_assoc a b c) ∙ ap (λ d. together d c) (together_comm a b) ∙ together_assoc b a c

-- the middle two of four change places
pub together_middle : (a b c d : Option Total) → together (together a b) (together c d) ≡ together (together a c) (together b d)
together_middle a b c d = together_assoc a b (together c d) ∙ ap (together a) (together_swap b c d) ∙ sym (together_assoc a c (together b d))

pub total_append : (shape : ℕ) (xs ys : List Entry) → total_of shape (xs ++ ys) ≡ together (total_of shape xs) (total_of shape ys)
total_append shape [] ys = refl
total_append shape (x ∷ xs) ys =
    ap (together (count_at shape x)) (total_append shape xs ys) ∙ sym (together_assoc (count_at shape x) (total_of shape xs) (total_of shape ys))

pub total_one : (shape : ℕ) (x : Entry) → total_of shape (x ∷ []) ≡ count_at shape x
total_one shape x = together_none (count_at shape x)

pub total_push : (shape : ℕ) (xs : List Entry) (x : Entry) → total_of shape (xs ++ x ∷ []) ≡ together (total_of shape xs) (count_at shape x)
total_push shape xs x = total_append shape xs (x ∷ []) ∙ ap (together (total_of shape xs)) (total_one shape x)

-- the first entries, and one more
pub total_next : (shape : ℕ) (xs : List Entry) (i : ℕ) (x : Entry) → i < length xs → x ≡ get_or xs i x →
    total_of shape (take (i + 1) xs) ≡ together (total_of shape (take i xs)) (count_at shape x)
total_next shape xs i x inside is =
    ap (total_of shape) (take_more xs i x inside ∙ ap (λ (y : Entry). take i xs ++ y ∷ []) (sym is)) ∙ total_push shape (take i xs) x

-- what was counted, and one entry more
pub counted_next : (shape : ℕ) (before : Option Total) (xs : List Entry) (i : ℕ) (x : Entry) → i < length xs → x ≡ get_or xs i x →
    together (together before (total_of shape (take i xs))) (count_at shape x) ≡ together before (total_of shape (take (i + 1) xs))
counted_next shape before xs i x inside is =
    together_assoc before (total_of shape (take i xs)) (count_at shape x) ∙ ap (together before) (sym (total_next shape xs i x inside is))

pub count_other : (shape : ℕ) (x : Entry) → x.shape ≢ shape → count_at shape x ≡ None
count_other shape x other = Prim.grind (arith, nat_tests)

-- the lists of one worker more
pub everything_push : (shape : ℕ) (workers : List (List (List Entry))) (lists : List (List Entry)) →
    total_of shape (everything (workers ++ lists ∷ [])) ≡ together (total_of shape (everything workers)) (total_of shape (all_of lists))
everything_push shape workers lists =
    ap (total_of shape) (flat_map-append all_of workers (lists ∷ []))
    ∙ total_append shape (everything workers) (everything (lists ∷ []))
    ∙ ap (together (total_of shape (everything workers))) (total_append shape (all_of lists) [] ∙ together_none (total_of shape (all_of lists)))

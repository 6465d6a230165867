-- Words of which each number has two: reading and writing one of them.
use Rattle.std.proofs.Common.{◌≡◌, ℕ, zero, suc, ◌+◌, ◌*◌, ◌≤◌, List, [], ◌∷◌, ◌++◌, append_assoc, length, replicate, slice_set, slice_index_or, refl, sym, ◌∙◌, ap, arith}
use Rattle.std.specs.List.{repeat}
use Rattle.slot_table.specs.Rule.{slot_words, mark_words}

two_on : (p : ℕ) → 2 * suc p ≡ suc (suc (2 * p))
two_on p = omega arith

one_on : (p : ℕ) → 2 * p + 1 ≡ suc (2 * p)
one_on p = omega arith

three_on : (p : ℕ) → 2 * suc p + 1 ≡ suc (suc (2 * p + 1))
three_on p = omega arith

-- the word of a slot, and that of a mark

pub slot_at : (words : List ℕ) (p : ℕ) → slice_index_or words (2 * p) 0 ≡ slice_index_or (slot_words words) p 0
slot_at [] p = refl
slot_at (x ∷ []) zero = refl
slot_at (x ∷ []) (suc p) = ap (λ (k : ℕ). slice_index_or (x ∷ []) k 0) (two_on p)
slot_at (x ∷ y ∷ words) zero = refl
slot_at (x ∷ y ∷ words) (suc p) = ap (λ (k : ℕ). slice_index_or (x ∷ y ∷ words) k 0) (two_on p) ∙ slot_at words p

pub mark_at : (words : List ℕ) (p : ℕ) → slice_index_or words (2 * p + 1) 0 ≡ slice_index_or (mark_words words) p 0
mark_at [] p = refl
mark_at (x ∷ words) p = ap (λ (k : ℕ). slice_index_or (x ∷ words) k 0) (one_on p) ∙ slot_at words p

-- a slot's word is written, and a mark's

pub set_slot : (words : List ℕ) (p w : ℕ) → slot_words (slice_set words (2 * p) w) ≡ slice_set (slot_words words) p w
set_slot [] p w = refl
set_slot (x ∷ []) zero w = refl
set_slot (x ∷ []) (suc p) w = ap (λ (k : ℕ). slot_words (slice_set (x ∷ []) k w)) (two_on p)
set_slot (x ∷ y ∷ words) zero w = refl
set_slot (x ∷ y ∷ words) (suc p) w =
    ap (λ (k : ℕ). slot_words (slice_set (x ∷ y ∷ words) k w)) (two_on p) ∙ ap (λ (ws : List ℕ). x ∷ ws) (set_slot words p w)

pub slots_stay : (words : List ℕ) (p w : ℕ) → slot_words (slice_set words (2 * p + 1) w) ≡ slot_words words
slots_stay [] p w = refl
slots_stay (x ∷ []) p w = ap (λ (k : ℕ). slot_words (slice_set (x ∷ []) k w)) (one_on p)
slots_stay (x ∷ y ∷ words) zero w = refl
slots_stay (x ∷ y ∷ words) (suc p) w =
    ap (λ (k : ℕ). slot_words (slice_set (x ∷ y ∷ words) k w)) (three_on p) ∙ ap (λ (ws : List ℕ). x ∷ ws) (slots_stay words p w)

pub set_mark : (words : List ℕ) (p w : ℕ) → mark_words (slice_set words (2 * p + 1) w) ≡ slice_set (mark_words words) p w
set_mark [] p w = refl
set_mark (x ∷ words) p w = ap (λ (k : ℕ). mark_words (slice_set (x ∷ words) k w)) (one_on p) ∙ set_slot words p w

pub marks_stay : (words : List ℕ) (p w : ℕ) → mark_words (slice_set words (2 * p) w) ≡ mark_words words
marks_stay [] p w = refl
marks_stay (x ∷ words) zero w = refl
marks_stay (x ∷ words) (suc p) w =
    ap (λ (k : ℕ). mark_words (slice_set (x ∷ words) k w)) (two_on p ∙ ap suc (sym (one_on p))) ∙ slots_stay words p w

-- how many words slots and marks have

length-slots : (words : List ℕ) (n : ℕ) → length words ≤ 2 * n → 2 * n ≤ length words + 1 → length (slot_words words) ≡ n
length-slots [] n high low = omega (arith, high, low)
length-slots (x ∷ []) n high low = omega (arith, high, low)
length-slots (x ∷ y ∷ words) zero high low = absurd (omega (arith, high))
length-slots (x ∷ y ∷ words) (suc n) high low = ap suc (length-slots words n (omega (arith, high)) (omega (arith, low)))

pub slots_are_n : (words : List ℕ) (n : ℕ) → length words ≡ 2 * n → length (slot_words words) ≡ n
slots_are_n words n whole = length-slots words n (omega (arith, whole)) (omega (arith, whole))

pub marks_are_n : (words : List ℕ) (n : ℕ) → length words ≡ 2 * n → length (mark_words words) ≡ n
marks_are_n [] n whole = omega (arith, whole)
marks_are_n (x ∷ words) n whole = length-slots words n (omega (arith, whole)) (omega (arith, whole))

-- the words of pairs that are all the same

pub slots_repeated : (n slot mark : ℕ) → slot_words (repeat n (slot ∷ mark ∷ [])) ≡ replicate n slot
slots_repeated zero slot mark = refl
slots_repeated (suc n) slot mark = ap (λ (ws : List ℕ). slot ∷ ws) (slots_repeated n slot mark)

-- the words after a first one, that of a slot
marks_behind : (n slot mark : ℕ) → slot_words (mark ∷ repeat n (slot ∷ mark ∷ [])) ≡ mark ∷ replicate n mark
marks_behind zero slot mark = refl
marks_behind (suc n) slot mark = ap (λ (ws : List ℕ). mark ∷ ws) (marks_behind n slot mark)

pub marks_repeated : (n slot mark : ℕ) → mark_words (repeat n (slot ∷ mark ∷ [])) ≡ replicate n mark
marks_repeated zero slot mark = refl
marks_repeated (suc n) slot mark = marks_behind n slot mark

-- a list repeated a number of times, and then some times more

one_more : (a b : ℕ) → suc a + b ≡ suc (a + b)
one_more a b = omega arith

repeat_more : (a b : ℕ) (xs : List ℕ) → repeat (a + b) xs ≡ repeat a xs ++ repeat b xs
repeat_more zero b xs = ap (λ (k : ℕ). repeat k xs) (omega arith)
repeat_more (suc a) b xs =
    ap (λ (k : ℕ). repeat k xs) (one_more a b)
    ∙ ap (λ (l : List ℕ). xs ++ l) (repeat_more a b xs)
    ∙ sym (append_assoc xs (repeat a xs) (repeat b xs))

pub repeat_runs : (q m r : ℕ) (xs : List ℕ) → repeat q (repeat m xs) ++ repeat r xs ≡ repeat (q * m + r) xs
repeat_runs zero m r xs = ap (λ (k : ℕ). repeat k xs) (omega arith)
repeat_runs (suc q) m r xs =
    append_assoc (repeat m xs) (repeat q (repeat m xs)) (repeat r xs)
    ∙ ap (λ (l : List ℕ). repeat m xs ++ l) (repeat_runs q m r xs)
    ∙ sym (repeat_more m (q * m + r) xs)
    ∙ ap (λ (k : ℕ). repeat k xs) (omega arith)

-- The lines of the parts of a list of lists, one part after another, are those of all lists.
use Rattle.std.proofs.Common.{◌≡◌, ℕ, zero, suc, ◌+◌, ◌*◌, ◌/◌, ◌%◌, ◌<◌, ◌≤◌, min, List, [], ◌∷◌, ◌++◌, length, get_or, take, drop, sym, refl, ap, ◌∙◌, ⊎_elim, arith, add-one, Result, Ok, Err, IfOk, IsOk}
use Rattle.std.proofs.Math.Nat.{add-mul, one-mul, zero-mul, suc-mul}
use Rattle.std.specs.List.{flat_map}
use Rattle.std.specs.Fork.{slice_chunk}
use Rattle.std.specs.Prelude.{Vec}
use Rattle.std.specs.Global.{Global}
use Rattle.std.specs.declared.alloc.AllocError.{AllocError}
use Rattle.std.proofs.lemmas.Bool.{cases_lt}
use Rattle.std.proofs.lemmas.Nat.{div-add-mod', mod_below}
use Rattle.std.proofs.lemmas.List.{append-nil, take_all, take_more, take-take, drop-take, take-append-drop}
use Rattle.std.proofs.lemmas.List.Concat.{flat_map-append}
use Rattle.std.proofs.lemmas.List.Elements.{filter-append, All-get_or}
use Rattle.shape_dict.specs.declared.entries.Entry.{Entry}
use Rattle.shape_dict.specs.declared.entries.Text.{Text}
use Rattle.shape_dict.specs.declared.entries.Text.TheVariants as text
use Rattle.shape_dict.specs.Contents.{is_square, squares_of}
use Rattle.shape_dict.specs.Text.{line_text}
use Rattle.shape_dict.specs.Inner.Parts.{lines_of, bytes_of, AreMade}
use Rattle.shape_dict.specs.Pieces.{entries_in}

-- as many chunks as there are end past the last element
chunks_cover : (count len size : ℕ) → 0 < size → count ≡ len / size + min 1 (len % size) → len ≤ count * size
chunks_cover count len size some is =
    let q = len / size in
    let r = len % size in
    let whole : q * size + r ≡ len = div-add-mod' len size in
    let below : r < size = mod_below len size some in
    ⊎_elim
    (λ h. let e : count ≡ q + 1 = omega arith in let w = ap (λ n. n * size) e ∙ add-mul q 1 size in let o = one-mul size in omega arith)
    (λ h. let e : count ≡ q = omega arith in let w = ap (λ n. n * size) e in omega arith)
    (cases_lt 0 r)

pub no_lines : (t : Text) → lines_of t [] ≡ []
no_lines text.One = refl
no_lines text.Two = refl
no_lines text.Three = refl

lines_append : (t : Text) (xs ys : List Entry) → lines_of t (xs ++ ys) ≡ lines_of t xs ++ lines_of t ys
lines_append text.One xs ys = ap (flat_map (line_text text.One)) (filter-append is_square xs ys) ∙ flat_map-append (line_text text.One) (squares_of xs) (squares_of ys)
lines_append text.Two xs ys = flat_map-append (line_text text.Two) xs ys
lines_append text.Three xs ys = flat_map-append (line_text text.Three) xs ys

-- the lines of the entries of lists
abbrev pub all_lines : Text → List (Vec Entry Global) → List ℕ
all_lines t lists = lines_of t (entries_in lists)

pub all_append : (t : Text) (xs ys : List (Vec Entry Global)) → all_lines t (xs ++ ys) ≡ all_lines t xs ++ all_lines t ys
all_append t xs ys = ap (lines_of t) (flat_map-append (λ (list : Vec Entry Global). list.items) xs ys) ∙ lines_append t (entries_in xs) (entries_in ys)

-- those of one list more
pub all_push : (t : Text) (xs : List (Vec Entry Global)) (x : Vec Entry Global) → all_lines t (xs ++ x ∷ []) ≡ all_lines t xs ++ lines_of t x.items
all_push t xs x = all_append t xs (x ∷ []) ∙ ap (λ es. all_lines t xs ++ lines_of t es) (append-nil x.items)

-- the lines up to the end of a chunk
lines_on : (t : Text) (xs : List (Vec Entry Global)) (start size : ℕ) → all_lines t (take start xs) ++ all_lines t (take size (drop start xs)) ≡ all_lines t (take (start + size) xs)
lines_on t xs start size =
    let ys = take (start + size) xs in
    let front : take start ys ≡ take start xs = take-take start (start + size) xs (omega arith) in
    ap (λ zs. all_lines t zs ++ all_lines t (take size (drop start xs))) (sym front)
    ∙ (ap (λ zs. all_lines t (take start ys) ++ all_lines t zs) (sym (drop-take start size xs))
    ∙ (sym (all_append t (take start ys) (drop start ys)) ∙ ap (all_lines t) (take-append-drop start ys)))

bytes_are : (part : Result (Vec ℕ Global) AllocError) (bytes : List ℕ) → IsOk part → IfOk part (λ p. p.items ≡ bytes) → bytes_of part ≡ bytes
bytes_are (Ok part) bytes ok h = h
bytes_are (Err fault) bytes ok h = cc

bytes_more : (made : List (Result (Vec ℕ Global) AllocError)) (n : ℕ) (d : Result (Vec ℕ Global) AllocError) → n < length made → flat_map bytes_of (take (suc n) made) ≡ flat_map bytes_of (take n made) ++ bytes_of (get_or made n d)
bytes_more made n d inside =
    ap (λ k. flat_map bytes_of (take k made)) (sym (add-one n))
    ∙ (ap (flat_map bytes_of) (take_more made n d inside)
    ∙ (flat_map-append bytes_of (take n made) (get_or made n d ∷ [])
    ∙ ap (λ bytes. flat_map bytes_of (take n made) ++ bytes) (append-nil (bytes_of (get_or made n d)))))

module _ (t : Text) (size : ℕ) (xs : List (Vec Entry Global)) (made : List (Result (Vec ℕ Global) AllocError)) (d : Result (Vec ℕ Global) AllocError) (each : (n : ℕ) → n < length made → bytes_of (get_or made n d) ≡ all_lines t (slice_chunk xs size n)) where
  so_far : (n : ℕ) → n ≤ length made → flat_map bytes_of (take n made) ≡ all_lines t (take (n * size) xs)
  so_far zero within = sym (ap (λ k. all_lines t (take k xs)) (zero-mul size) ∙ no_lines t)
  so_far (suc n) within =
      bytes_more made n d (omega arith)
      ∙ (ap (λ bytes. bytes ++ bytes_of (get_or made n d)) (so_far n (omega arith))
      ∙ (ap (λ bytes. all_lines t (take (n * size) xs) ++ bytes) (each n (omega arith))
      ∙ (lines_on t xs (n * size) size ∙ ap (λ k. all_lines t (take k xs)) (sym (suc-mul n size)))))

  all_bytes : 0 < size → length made ≡ length xs / size + min 1 (length xs % size) → flat_map bytes_of made ≡ all_lines t xs
  all_bytes some count =
      ap (flat_map bytes_of) (sym (take_all (length made) made (omega arith)))
      ∙ (so_far (length made) (omega arith) ∙ ap (all_lines t) (take_all (length made * size) xs (chunks_cover (length made) (length xs) size some count)))

-- parts that have the lines of one chunk of lists each are the lines of all
pub are_made : (t : Text) (size : ℕ) (xs : List (Vec Entry Global)) (made : List (Result (Vec ℕ Global) AllocError)) (d : Result (Vec ℕ Global) AllocError)
    → 0 < size → length made ≡ length xs / size + min 1 (length xs % size)
    → ((n : ℕ) → n < length made → IfOk (get_or made n d) (λ part. part.items ≡ all_lines t (slice_chunk xs size n)))
    → AreMade (all_lines t xs) made
are_made t size xs made d some count each =
    λ all. all_bytes t size xs made d (λ n inside. bytes_are (get_or made n d) (all_lines t (slice_chunk xs size n)) (All-get_or IsOk made n d inside all) (each n inside)) some count

-- two facts of a value, if there is one, give a third
pub if_ok_both : {T E : Type 0} (r : Result T E) (P Q S : T → Type 0) → ((x : T) → P x → Q x → S x) → IfOk r P → IfOk r Q → IfOk r S
if_ok_both (Ok x) P Q S f p q = f x p q
if_ok_both (Err e) P Q S f p q = tt

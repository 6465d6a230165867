-- Lines, one after another, and the places in them.
use Rattle.std.proofs.Common.{◌≡◌, ◌≢◌, ℕ, ◌+◌, ◌-◌, ◌<◌, ◌≤◌, ◌==◌, List, [], ◌∷◌, ◌++◌, length, take, drop, get_or, Bool, true, false, cond, ap, sym, subst, ◌∙◌, refl, arith, append_assoc, length-drop, drop_of_length-le, length-take, length-append, map}
use Rattle.std.proofs.lemmas.List.{append-nil, length-map, map-append, take_all, take-append-le, drop_more, take_more, get_or-drop}
use Rattle.std.proofs.lemmas.Bool.Decides.{nat_tests}
use Rattle.std.specs.List.{filter}
use Rattle.std.proofs.lemmas.List.Elements.{filter-append}
use Rattle.sheet_core.specs.Places.{lines_after, is_of, place_in, places_of}

at_end : (before rest : List ℕ) (byte : ℕ) → byte ≡ 10 → lines_after before (byte ∷ rest) ≡ before ∷ lines_after [] rest
unfolding lines_after
at_end before rest byte is = ap (λ (b : ℕ). lines_after before (b ∷ rest)) is

no_end : (byte : ℕ) → byte ≢ 10 → (byte == 10) ≡ false
no_end byte other = grind (arith, nat_tests)

within : (before rest : List ℕ) (byte : ℕ) → byte ≢ 10 → lines_after before (byte ∷ rest) ≡ lines_after (before ++ byte ∷ []) rest
unfolding lines_after
within before rest byte other = ap (λ (b : Bool). cond b (before ∷ lines_after [] rest) (lines_after (before ++ byte ∷ []) rest)) (no_end byte other)

last_line : (before : List ℕ) → lines_after before [] ≡ before ∷ []
unfolding lines_after
last_line before = refl

part_more : (bytes : List ℕ) (start place : ℕ) → start ≤ place → place < length bytes → take (place + 1 - start) (drop start bytes) ≡ take (place - start) (drop start bytes) ++ get_or bytes place 0 ∷ []
part_more bytes start place order few =
    let long : place - start < length (drop start bytes) = omega (arith, length-drop start bytes) in
    let one : place + 1 - start ≡ place - start + 1 = omega (arith, order) in
    let at : start + (place - start) ≡ place = omega (arith, order) in
    ap (λ (n : ℕ). take n (drop start bytes)) one ∙ (take_more (drop start bytes) (place - start) 0 long
    ∙ ap (λ (b : ℕ). take (place - start) (drop start bytes) ++ b ∷ []) (get_or-drop start bytes (place - start) 0 ∙ ap (λ (n : ℕ). get_or bytes n 0) at))

pub line_ends : (done : List (List ℕ)) (bytes : List ℕ) (all : List (List ℕ)) (start place : ℕ) → place < length bytes → get_or bytes place 0 ≡ 10 →
    done ++ lines_after (take (place - start) (drop start bytes)) (drop place bytes) ≡ all →
    (done ++ take (place - start) (drop start bytes) ∷ []) ++ lines_after (take (place + 1 - (place + 1)) (drop (place + 1) bytes)) (drop (place + 1) bytes) ≡ all
line_ends done bytes all start place few is h =
    let line = take (place - start) (drop start bytes) in
    let rest = drop (place + 1) bytes in
    let none : place + 1 - (place + 1) ≡ 0 = omega arith in
    ap (λ (n : ℕ). (done ++ line ∷ []) ++ lines_after (take n rest) rest) none
    ∙ (append_assoc done (line ∷ []) (lines_after [] rest)
    ∙ (ap (λ (xs : List (List ℕ)). done ++ xs) (sym (ap (lines_after line) (drop_more bytes place 0 few) ∙ at_end line rest (get_or bytes place 0) is)) ∙ h))

pub line_grows : (done : List (List ℕ)) (bytes : List ℕ) (all : List (List ℕ)) (start place : ℕ) → start ≤ place → place < length bytes → get_or bytes place 0 ≢ 10 →
    done ++ lines_after (take (place - start) (drop start bytes)) (drop place bytes) ≡ all →
    done ++ lines_after (take (place + 1 - start) (drop start bytes)) (drop (place + 1) bytes) ≡ all
line_grows done bytes all start place order few other h =
    let line = take (place - start) (drop start bytes) in
    let rest = drop (place + 1) bytes in
    ap (λ (xs : List ℕ). done ++ lines_after xs rest) (part_more bytes start place order few)
    ∙ (ap (λ (xs : List (List ℕ)). done ++ xs) (sym (ap (lines_after line) (drop_more bytes place 0 few) ∙ within line rest (get_or bytes place 0) other)) ∙ h)

pub lines_end : (done : List (List ℕ)) (bytes : List ℕ) (all : List (List ℕ)) (start place : ℕ) → place ≡ length bytes →
    done ++ lines_after (take (place - start) (drop start bytes)) (drop place bytes) ≡ all → done ++ take (length bytes - start) (drop start bytes) ∷ [] ≡ all
lines_end done bytes all start place end h =
    let last = take (place - start) (drop start bytes) in
    let few : length bytes ≤ place = omega (arith, end) in
    ap (λ (n : ℕ). done ++ take (n - start) (drop start bytes) ∷ []) (sym end)
    ∙ (ap (λ (xs : List (List ℕ)). done ++ xs) (sym (last_line last)) ∙ (ap (λ (xs : List ℕ). done ++ lines_after last xs) (sym (drop_of_length-le bytes few)) ∙ h))

-- a line more, which is of another pattern
pub other_place : (word : ℕ) (lines : List (List ℕ)) (x : List ℕ) → is_of word x ≡ false → places_of (lines ++ x ∷ []) word ≡ places_of lines word
other_place word lines x is =
    let ys = filter (is_of word) lines in
    ap (λ (zs : List (List ℕ)). map place_in (take 3 zs)) (filter-append (is_of word) lines (x ∷ []) ∙ (ap (λ (b : Bool). ys ++ cond b (x ∷ []) []) is ∙ append-nil ys))

places_many : (word : ℕ) (lines : List (List ℕ)) → length (places_of lines word) ≡ length (take 3 (filter (is_of word) lines))
places_many word lines = length-map (take 3 (filter (is_of word) lines)) place_in

with_line : (word : ℕ) (lines : List (List ℕ)) (x : List ℕ) → is_of word x ≡ true → places_of (lines ++ x ∷ []) word ≡ map place_in (take 3 (filter (is_of word) lines ++ x ∷ []))
with_line word lines x is =
    let ys = filter (is_of word) lines in
    ap (λ (zs : List (List ℕ)). map place_in (take 3 zs)) (filter-append (is_of word) lines (x ∷ []) ∙ ap (λ (b : Bool). ys ++ cond b (x ∷ []) []) is)

-- and one that follows three
full_by : (b : Bool) (word : ℕ) (lines : List (List ℕ)) (x : List ℕ) → is_of word x ≡ b → 3 ≤ length (places_of lines word) → places_of (lines ++ x ∷ []) word ≡ places_of lines word
full_by false word lines x is full = other_place word lines x is
full_by true word lines x is full =
    let ys = filter (is_of word) lines in
    let many : 3 ≤ length ys = omega (arith, full, places_many word lines, length-take 3 ys) in
    with_line word lines x is ∙ ap (map place_in) (take-append-le 3 ys (x ∷ []) many)

pub full_place : (word : ℕ) (lines : List (List ℕ)) (x : List ℕ) → 3 ≤ length (places_of lines word) → places_of (lines ++ x ∷ []) word ≡ places_of lines word
full_place word lines x full = full_by (is_of word x) word lines x refl full

-- one place more
pub one_place : (word : ℕ) (lines : List (List ℕ)) (x : List ℕ) → is_of word x ≡ true → length (places_of lines word) < 3 → places_of (lines ++ x ∷ []) word ≡ places_of lines word ++ place_in x ∷ []
one_place word lines x is few =
    let ys = filter (is_of word) lines in
    let small : length ys < 3 = omega (arith, few, places_many word lines, length-take 3 ys) in
    let more = length-append ys (x ∷ []) in
    with_line word lines x is ∙ (ap (map place_in) (take_all 3 (ys ++ x ∷ []) (omega (arith, small, more))) ∙ (map-append place_in ys (x ∷ [])
    ∙ ap (λ (zs : List (List ℕ)). map place_in zs ++ place_in x ∷ []) (sym (take_all 3 ys (omega (arith, small))))))

-- Images as lists of the cells that codes come from; images compose, and masks and shifts that pass a test make them.
use Rattle.std.proofs.Common.{◌≡◌, ℕ, zero, suc, false, ◌||◌, ⊎_elim, ◌+◌, ◌*◌, ◌^◌, ◌<◌, List, [], ◌∷◌, ◌++◌, map, length, get_or, Bool, true, sym, refl, ap, ap₂, ◌∙◌, arith, ltb, ltb-true, ◌&&◌}
use Rattle.std.proofs.lemmas.Bool.{and_parts, or_cases, false≢true}
use Rattle.std.proofs.lemmas.List.{length-map, get_or-map}
use Rattle.std.proofs.lemmas.List.Elements.{All-from_get_or}
use Rattle.shape_core.specs.declared.words.Kind.{Kind}
use Rattle.shape_core.specs.declared.words.Kind.TheVariants as kind
use Rattle.shape_core.specs.declared.symmetries.Symmetry.{Symmetry}
use Rattle.shape_core.specs.declared.symmetries.Symmetry.TheVariants as symmetry
use Rattle.shape_core.specs.Offset.{offsets_of}
use Rattle.shape_core.specs.Word.{word_of, kind_of, code_at, count_from}
use Rattle.shape_core.specs.Symmetry.{source_cell, image_of, all_symmetries, numbered}
use Rattle.shape_core.proofs.Digits.{code_at-lt}
use Rattle.shape_core.proofs.Codes.{AreCodes, kind_of-word_of, word_of-lt, code_at-word_of, same_words}
use Rattle.shape_core.proofs.Moves.{same_list, same_list-true, Moves, made_of, comes_from, pairs, above, made-lt, kind_of-made, code_at-made, code_bits, marked_bit}

-- the cells that the codes of an image come from
unfoldable pub sources : Kind → Symmetry → List ℕ
sources k s = map (source_cell k s) (offsets_of k)

map-map : {A B C : Type 0} (f : B → C) (g : A → B) (xs : List A) → map f (map g xs) ≡ map (λ x. f (g x)) xs
map-map f g [] = refl
map-map f g (x ∷ xs) = ap (λ ys. f (g x) ∷ ys) (map-map f g xs)

pub length-sources : (k : Kind) (s : Symmetry) → length (sources k s) ≡ 25
unfolding sources
length-sources kind.Square s = refl
length-sources kind.Diamond s = refl

-- the word with the codes of these cells
unfoldable pub rearranged : Kind → List ℕ → ℕ → ℕ
rearranged k cells w = word_of k (map (code_at w) cells)

AreCodes-map : (w : ℕ) (cells : List ℕ) → length cells ≡ 25 → AreCodes (map (code_at w) cells)
AreCodes-map w cells h =
    record {
      count = length-map cells (code_at w) ∙ h;
      small = All-from_get_or (λ c. c < 4) (map (code_at w) cells) 0
          (λ i l. rw (get_or-map (code_at w) cells i 0 0 (omega (arith, length-map cells (code_at w)))) (code_at-lt w (get_or cells i 0)));
    }

image_is : (s : Symmetry) (w : ℕ) → image_of s w ≡ rearranged (kind_of w) (sources (kind_of w) s) w
unfolding image_of sources rearranged
image_is s w = ap (word_of (kind_of w)) (sym (map-map (code_at w) (source_cell (kind_of w) s) (offsets_of (kind_of w))))

rearranged-lt : (k : Kind) (cells : List ℕ) (w : ℕ) → length cells ≡ 25 → rearranged k cells w < 2 ^ 51
unfolding rearranged
rearranged-lt k cells w h = word_of-lt k (map (code_at w) cells) (AreCodes-map w cells h)

kind_of-rearranged : (k : Kind) (cells : List ℕ) (w : ℕ) → length cells ≡ 25 → kind_of (rearranged k cells w) ≡ k
unfolding rearranged
kind_of-rearranged k cells w h = kind_of-word_of k (map (code_at w) cells) (AreCodes-map w cells h)

code_at-rearranged : (k : Kind) (cells : List ℕ) (w i : ℕ) → length cells ≡ 25 → i < 25 → code_at (rearranged k cells w) i ≡ code_at w (get_or cells i 0)
unfolding rearranged
code_at-rearranged k cells w i h l =
    code_at-word_of k (map (code_at w) cells) i (AreCodes-map w cells h) l ∙ get_or-map (code_at w) cells i 0 0 (omega arith)

pub image_of_small : (s : Symmetry) (w : ℕ) → image_of s w < 2 ^ 51
image_of_small s w = rw (image_is s w) (rearranged-lt (kind_of w) (sources (kind_of w) s) w (length-sources (kind_of w) s))

pub kind_of-image : (s : Symmetry) (w : ℕ) → kind_of (image_of s w) ≡ kind_of w
kind_of-image s w =
    ap kind_of (image_is s w) ∙ kind_of-rearranged (kind_of w) (sources (kind_of w) s) w (length-sources (kind_of w) s)

pub code_at-image : (s : Symmetry) (w i : ℕ) → i < 25 → code_at (image_of s w) i ≡ code_at w (get_or (sources (kind_of w) s) i 0)
code_at-image s w i h =
    ap (λ v. code_at v i) (image_is s w) ∙ code_at-rearranged (kind_of w) (sources (kind_of w) s) w i (length-sources (kind_of w) s) h

-- ---- masks and shifts

abbrev pub low_bit : ℕ → ℕ
low_bit c = 2 * c

abbrev pub high_bit : ℕ → ℕ
high_bit c = suc (2 * c)

-- the masks and shifts bring each bit from where the symmetry says
abbrev pub makes_image : Moves → Kind → Symmetry → Bool
makes_image e k s = comes_from e 0 (pairs low_bit high_bit (sources k s) ++ above k)

pub made_image : (e : Moves) (k : Kind) (s : Symmetry) (w : ℕ) → makes_image e k s ≡ true → w < 2 ^ 51 → kind_of w ≡ k → made_of e w ≡ image_of s w
made_image e k s w test small is =
    let count = length-sources k s in
    let mark = marked_bit k w small is in
    same_words (made_of e w) (image_of s w) (made-lt e low_bit high_bit (sources k s) k w count small mark test) (image_of_small s w)
    (kind_of-made e low_bit high_bit (sources k s) k w count small mark test ∙ sym (kind_of-image s w))
    (λ i h. code_at-made e low_bit high_bit (sources k s) k w count small mark test i h
    ∙ sym (code_bits w (get_or (sources k s) i 0))
    ∙ ap (λ t. code_at w (get_or (sources t s) i 0)) (sym is)
    ∙ sym (code_at-image s w i h))

-- ---- the eight images are a group

-- the cells of one list, looked up in another
abbrev pub looked_up : List ℕ → List ℕ → List ℕ
looked_up p q = map (λ i. get_or p i 0) q

abbrev tables : Kind → List (List ℕ)
tables k = map (sources k) all_symmetries

number_of : Symmetry → ℕ
number_of symmetry.Same = 0
number_of symmetry.RightTurn = 1
number_of symmetry.HalfTurn = 2
number_of symmetry.LeftTurn = 3
number_of symmetry.LeftRight = 4
number_of symmetry.TopBottom = 5
number_of symmetry.FallingDiagonal = 6
number_of symmetry.RisingDiagonal = 7

number_of-lt : (s : Symmetry) → number_of s < 8
unfolding number_of
number_of-lt s = elim s as (λ s. number_of s < 8) [ symmetry.Same ↦ omega arith | symmetry.RightTurn ↦ omega arith | symmetry.HalfTurn ↦ omega arith | symmetry.LeftTurn ↦ omega arith | symmetry.LeftRight ↦ omega arith | symmetry.TopBottom ↦ omega arith | symmetry.FallingDiagonal ↦ omega arith | symmetry.RisingDiagonal ↦ omega arith ]

numbered-number_of : (s : Symmetry) → numbered (number_of s) ≡ s
unfolding number_of
numbered-number_of s = elim s as (λ s. numbered (number_of s) ≡ s) [ symmetry.Same ↦ refl | symmetry.RightTurn ↦ refl | symmetry.HalfTurn ↦ refl | symmetry.LeftTurn ↦ refl | symmetry.LeftRight ↦ refl | symmetry.TopBottom ↦ refl | symmetry.FallingDiagonal ↦ refl | symmetry.RisingDiagonal ↦ refl ]

table_at : (k : Kind) (j : ℕ) → j < 8 → get_or (tables k) j [] ≡ sources k (numbered j)
table_at k j h = get_or-map (sources k) all_symmetries j symmetry.Same [] h

table_of : (k : Kind) (s : Symmetry) → get_or (tables k) (number_of s) [] ≡ sources k s
table_of k s = table_at k (number_of s) (number_of-lt s) ∙ ap (sources k) (numbered-number_of s)

every : {A : Type 0} → (A → Bool) → List A → Bool
every p [] = true
every p (x ∷ xs) = p x && every p xs

every-at : {A : Type 0} (p : A → Bool) (xs : List A) → every p xs ≡ true → (k : ℕ) (d : A) → k < length xs → p (get_or xs k d) ≡ true
unfolding every
every-at p [] h k d l = absurd (omega arith)
every-at p (x ∷ xs) h zero d l = (and_parts (p x) (every p xs) h).0
every-at p (x ∷ xs) h (suc k) d l = every-at p xs (and_parts (p x) (every p xs) h).1 k d (omega arith)

some : {A : Type 0} → (A → Bool) → List A → Bool
some p [] = false
some p (x ∷ xs) = p x || some p xs

some-at : {A : Type 0} (p : A → Bool) (xs : List A) (d : A) → some p xs ≡ true → (k : ℕ) × (k < length xs) × (p (get_or xs k d) ≡ true)
unfolding some
some-at p [] d h = absurd (false≢true h)
some-at p (x ∷ xs) d h =
    ⊎_elim
    (λ (here : p x ≡ true). (0, (omega arith), here))
    (λ (later : some p xs ≡ true). let more = some-at p xs d later in (suc more.0, (omega arith), more.2))
    (or_cases (p x) (some p xs) h)

are_closed : List (List ℕ) → Bool
are_closed ts = every (λ q. every (λ p. some (same_list (looked_up p q)) ts) ts) ts

have_inverses : List (List ℕ) → Bool
have_inverses ts = every (λ p. some (λ q. same_list (looked_up p q) (count_from 0 25)) ts) ts

are_cells : List (List ℕ) → Bool
are_cells ts = every (every (λ c. ltb c 25)) ts

closed : (k : Kind) → are_closed (tables k) ≡ true
unfolding are_closed every some sources
closed kind.Square = refl
closed kind.Diamond = refl

inverses : (k : Kind) → have_inverses (tables k) ≡ true
unfolding have_inverses every some sources
inverses kind.Square = refl
inverses kind.Diamond = refl

cells : (k : Kind) → are_cells (tables k) ≡ true
unfolding are_cells every sources
cells kind.Square = refl
cells kind.Diamond = refl

pub cell-lt : (k : Kind) (s : Symmetry) (i : ℕ) → i < 25 → get_or (sources k s) i 0 < 25
unfolding are_cells
cell-lt k s i h =
    let table = every-at (every (λ c. ltb c 25)) (tables k) (cells k) (number_of s) [] (number_of-lt s) in
    let each = ap (every (λ c. ltb c 25)) (sym (table_of k s)) ∙ table in
    ltb-true (get_or (sources k s) i 0) 25 (every-at (λ c. ltb c 25) (sources k s) each i 0 (omega (arith, length-sources k s)))

-- one symmetry after another is a symmetry
composed : (k : Kind) (s t : Symmetry) → (u : Symmetry) × (looked_up (sources k t) (sources k s) ≡ sources k u)
unfolding are_closed
composed k s t =
    let rows = every-at (λ q. every (λ p. some (same_list (looked_up p q)) (tables k)) (tables k)) (tables k) (closed k) (number_of s) [] (number_of-lt s) in
    let row = every-at (λ p. some (same_list (looked_up p (get_or (tables k) (number_of s) []))) (tables k)) (tables k) rows (number_of t) [] (number_of-lt t) in
    let found = some-at (same_list (looked_up (get_or (tables k) (number_of t) []) (get_or (tables k) (number_of s) []))) (tables k) [] row in
    let same = same_list-true (looked_up (get_or (tables k) (number_of t) []) (get_or (tables k) (number_of s) [])) (get_or (tables k) found.0 []) found.2 in
    (numbered found.0, ap₂ looked_up (sym (table_of k t)) (sym (table_of k s)) ∙ same ∙ table_at k found.0 found.1)

-- each symmetry is undone by one
undone : (k : Kind) (s : Symmetry) → (u : Symmetry) × (looked_up (sources k s) (sources k u) ≡ count_from 0 25)
unfolding have_inverses
undone k s =
    let row = every-at (λ p. some (λ q. same_list (looked_up p q) (count_from 0 25)) (tables k)) (tables k) (inverses k) (number_of s) [] (number_of-lt s) in
    let found = some-at (λ q. same_list (looked_up (get_or (tables k) (number_of s) []) q) (count_from 0 25)) (tables k) [] row in
    let same = same_list-true (looked_up (get_or (tables k) (number_of s) []) (get_or (tables k) found.0 [])) (count_from 0 25) found.2 in
    (numbered found.0, ap₂ looked_up (sym (table_of k s)) (sym (table_at k found.0 found.1)) ∙ same)

-- an image of an image has the codes of the cells that the one list looks up in the other
code_at-twice : (s t : Symmetry) (w i : ℕ) → i < 25 → code_at (image_of s (image_of t w)) i ≡ code_at w (get_or (looked_up (sources (kind_of w) t) (sources (kind_of w) s)) i 0)
code_at-twice s t w i h =
    let k = kind_of w in
    code_at-image s (image_of t w) i h
    ∙ ap (λ x. code_at (image_of t w) (get_or (sources x s) i 0)) (kind_of-image t w)
    ∙ code_at-image t w (get_or (sources k s) i 0) (cell-lt k s i h)
    ∙ ap (code_at w) (sym (get_or-map (λ j. get_or (sources k t) j 0) (sources k s) i 0 0 (omega (arith, length-sources k s))))

image_by : (s t u : Symmetry) (w : ℕ) → looked_up (sources (kind_of w) t) (sources (kind_of w) s) ≡ sources (kind_of w) u → image_of s (image_of t w) ≡ image_of u w
image_by s t u w e =
    same_words (image_of s (image_of t w)) (image_of u w) (image_of_small s (image_of t w)) (image_of_small u w)
    (kind_of-image s (image_of t w) ∙ kind_of-image t w ∙ sym (kind_of-image u w))
    (λ i h. code_at-twice s t w i h ∙ ap (λ cells. code_at w (get_or cells i 0)) e ∙ sym (code_at-image u w i h))

pub images_compose : (s t : Symmetry) (w : ℕ) → (u : Symmetry) × (image_of s (image_of t w) ≡ image_of u w)
images_compose s t w = let found = composed (kind_of w) s t in (found.0, image_by s t found.0 w found.1)

pub count_from-at : (n a i : ℕ) → i < n → get_or (count_from a n) i 0 ≡ a + i
count_from-at zero a i h = absurd (omega arith)
count_from-at (suc n) a zero h = omega arith
count_from-at (suc n) a (suc i) h = omega (arith, count_from-at n (suc a) i (omega arith))

pub images_return : (s : Symmetry) (w : ℕ) → w < 2 ^ 51 → (u : Symmetry) × (image_of u (image_of s w) ≡ w)
images_return s w small =
    let found = undone (kind_of w) s in
    let u = found.0 in (
      u,
      same_words (image_of u (image_of s w)) w (image_of_small u (image_of s w)) small
          (kind_of-image u (image_of s w) ∙ kind_of-image s w)
          (λ i h. code_at-twice u s w i h ∙ ap (λ cells. code_at w (get_or cells i 0)) found.1 ∙ ap (code_at w) (count_from-at 25 0 i h ∙ (omega arith))),
    )

same-sources : (k : Kind) → sources k symmetry.Same ≡ count_from 0 25
unfolding sources
same-sources kind.Square = refl
same-sources kind.Diamond = refl

pub image-same : (w : ℕ) → w < 2 ^ 51 → image_of symmetry.Same w ≡ w
image-same w small =
    same_words (image_of symmetry.Same w) w (image_of_small symmetry.Same w) small (kind_of-image symmetry.Same w)
    (λ i h. code_at-image symmetry.Same w i h ∙ ap (λ cells. code_at w (get_or cells i 0)) (same-sources (kind_of w)) ∙ ap (code_at w) (count_from-at 25 0 i h ∙ (omega arith)))

-- ---- the images that are made one from another

half_turn : (k : Kind) → looked_up (sources k symmetry.LeftRight) (sources k symmetry.TopBottom) ≡ sources k symmetry.HalfTurn
unfolding sources
half_turn kind.Square = refl
half_turn kind.Diamond = refl

right_turn : (k : Kind) → looked_up (sources k symmetry.FallingDiagonal) (sources k symmetry.LeftRight) ≡ sources k symmetry.RightTurn
unfolding sources
right_turn kind.Square = refl
right_turn kind.Diamond = refl

left_turn : (k : Kind) → looked_up (sources k symmetry.FallingDiagonal) (sources k symmetry.TopBottom) ≡ sources k symmetry.LeftTurn
unfolding sources
left_turn kind.Square = refl
left_turn kind.Diamond = refl

rising : (k : Kind) → looked_up (sources k symmetry.RightTurn) (sources k symmetry.TopBottom) ≡ sources k symmetry.RisingDiagonal
unfolding sources
rising kind.Square = refl
rising kind.Diamond = refl

pub image-half_turn : (w : ℕ) → image_of symmetry.TopBottom (image_of symmetry.LeftRight w) ≡ image_of symmetry.HalfTurn w
image-half_turn w = image_by symmetry.TopBottom symmetry.LeftRight symmetry.HalfTurn w (half_turn (kind_of w))

pub image-right_turn : (w : ℕ) → image_of symmetry.LeftRight (image_of symmetry.FallingDiagonal w) ≡ image_of symmetry.RightTurn w
image-right_turn w = image_by symmetry.LeftRight symmetry.FallingDiagonal symmetry.RightTurn w (right_turn (kind_of w))

pub image-left_turn : (w : ℕ) → image_of symmetry.TopBottom (image_of symmetry.FallingDiagonal w) ≡ image_of symmetry.LeftTurn w
image-left_turn w = image_by symmetry.TopBottom symmetry.FallingDiagonal symmetry.LeftTurn w (left_turn (kind_of w))

pub image-rising : (w : ℕ) → image_of symmetry.TopBottom (image_of symmetry.LeftRight (image_of symmetry.FallingDiagonal w)) ≡ image_of symmetry.RisingDiagonal w
image-rising w =
    ap (image_of symmetry.TopBottom) (image-right_turn w) ∙ image_by symmetry.TopBottom symmetry.RightTurn symmetry.RisingDiagonal w (rising (kind_of w))

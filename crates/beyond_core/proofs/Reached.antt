-- How many of a dictionary's patterns the games below a number have.
use Rattle.std.proofs.Common.{◌≡◌, ◌≢◌, ℕ, ◌+◌, ◌<◌, ◌≤◌, ◌==◌, Bool, true, false, cond, List, [], ◌∷◌, length, get_or, set, filter, drop, Option, Some, None, refl, ap, sym, ◌∙◌, add-zero, get_or-set_same, get_or-set_other, length-set, arith}
use Rattle.std.proofs.lemmas.List.{drop_more}
use Rattle.std.proofs.lemmas.Bool.Decides.{nat_tests}
use Rattle.std.proofs.lemmas.List.Sums.{length-filter, count_by-le-length}
use Rattle.shape_dict.specs.declared.entries.Entry.{Entry}
use Rattle.beyond_core.specs.Inner.TooMany.{is_below, is_game, entries_before, new_count, AreCounts}

abbrev pub one_if : Bool → ℕ
one_if b = cond b 1 0

-- a first game is below the next number where it is below this one, or this one
below_next : (game : ℕ) (first : Option ℕ) → one_if (is_below (game + 1) first) ≡ one_if (is_below game first) + one_if (is_game game first)
below_next game None = refl
below_next game (Some first) = Prim.grind (arith, nat_tests)

long-cons : (b : Bool) (e : Entry) (es : List Entry) → length (cond b (e ∷ es) es) ≡ one_if b + length es
long-cons true e es = omega arith
long-cons false e es = omega arith

-- the games below the next number have the patterns of those below this one, and the new ones of this
pub before_next : (game : ℕ) (es : List Entry) → length (entries_before (game + 1) es) ≡ length (entries_before game es) + new_count game es
before_next game [] = refl
before_next game (e ∷ es) =
    let next = long-cons (is_below (game + 1) e.first) e (entries_before (game + 1) es) in
    let here = long-cons (is_below game e.first) e (entries_before game es) in
    let new = long-cons (is_game game e.first) e (filter (λ x. is_game game x.first) es) in
    omega (arith, next, here, new, below_next game e.first, before_next game es)

pub few_new : (game : ℕ) (es : List Entry) → new_count game es ≤ length es
few_new game es =
    let p = λ (e : Entry). is_game game e.first in
    omega (arith, length-filter p es, count_by-le-length p es)

none_below : (first : Option ℕ) → is_below 0 first ≡ false
none_below None = refl
none_below (Some game) = Prim.grind (arith, nat_tests)

pub none_before : (es : List Entry) → length (entries_before 0 es) ≡ 0
none_before [] = refl
none_before (e ∷ es) =
    let rest = entries_before 0 es in
    ap (λ b. length (cond b (e ∷ rest) rest)) (none_below e.first) ∙ none_before es

-- with the count at a place come the patterns of the games below the next one
pub one_more : (before game : ℕ) (counts : List ℕ) (es : List Entry) → AreCounts counts es → game < length counts →
    before ≡ length (entries_before game es) → length (entries_before (game + 1) es) ≡ before + get_or counts game 0
one_more before game counts es are inside is = omega (arith, before_next game es, is, are game inside)

-- a pattern counts for its first game
pub new_next : (game k : ℕ) (e : Entry) (es : List Entry) → e ≡ get_or es k e → k < length es → new_count game (drop k es) ≡ one_if (is_game game e.first) + new_count game (drop (k + 1) es)
new_next game k e es is inside =
    let rest = drop (k + 1) es in
    ap (λ l. new_count game l) (drop_more es k e inside ∙ ap (λ x. x ∷ rest) (sym is))
    ∙ long-cons (is_game game e.first) e (filter (λ x. is_game game x.first) rest)

pub one_at_most : (b : Bool) → one_if b ≤ 1
one_at_most true = omega arith
one_at_most false = omega arith

-- the count of a pattern's first game was raised, if that game has one
abbrev pub IsCounted : List ℕ → List ℕ → Option ℕ → Type 0
IsCounted counts after first =
    (length after ≡ length counts) × ((i : ℕ) → i < length counts → get_or after i 0 ≡ get_or counts i 0 + one_if (is_game i first))

pub raised : (counts after : List ℕ) (game : ℕ) (first : Option ℕ) → first ≡ Some game → game < length counts → after ≡ set counts game (get_or counts game 0 + 1) → IsCounted counts after first
raised counts after game first known inside is =
    let more = get_or counts game 0 + 1 in (
      ap length is ∙ length-set counts game more,
      λ i within. ap (λ l. get_or l i 0) is ∙ at i ∙ ap (λ o. get_or counts i 0 + one_if (is_game i o)) (sym known),
    )
  where
    at : (i : ℕ) → get_or (set counts game (get_or counts game 0 + 1)) i 0 ≡ get_or counts i 0 + one_if (game == i)
    at i =
        elim (game == i) as (λ b. (game == i) ≡ b → get_or (set counts game (get_or counts game 0 + 1)) i 0 ≡ get_or counts i 0 + one_if b) [
          | true ↦ λ test. let same : i ≡ game = Prim.grind (arith, nat_tests, test) in rw same (get_or-set_same counts game (get_or counts game 0 + 1) 0 inside)
          | false ↦ λ test. let other : i ≢ game = Prim.grind (arith, nat_tests, test) in get_or-set_other counts game i (get_or counts game 0 + 1) 0 other ∙ sym (add-zero (get_or counts i 0))
        ] refl

pub passed : (counts after : List ℕ) (game : ℕ) (first : Option ℕ) → first ≡ Some game → length counts ≤ game → after ≡ counts → IsCounted counts after first
passed counts after game first known past is = (
  ap length is,
  λ i within.
      let test : (game == i) ≡ false = Prim.grind (arith, nat_tests) in
      ap (λ l. get_or l i 0) is ∙ sym (add-zero (get_or counts i 0)) ∙ ap (λ b. get_or counts i 0 + one_if b) (sym test) ∙ ap (λ o. get_or counts i 0 + one_if (is_game i o)) (sym known),
)

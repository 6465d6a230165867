-- Games that have the numbers below some number, once each: what is added up over them is the sum
-- over their numbers, where each of them is in the order of the numbers, and which is the first that
-- has a pattern.
use Rattle.std.proofs.Common.{◌≡◌, ℕ, ◌+◌, ◌<◌, ◌≤◌, ◌==◌, true, false, cond, zero, suc, List, [], ◌∷◌, length, map, Some, refl, ap, sym, ◌∙◌, arith, zero-add, add-zero, nat_lt, min, get_or, Option, None, subst, Contains}
use Rattle.gather_core.proofs.Common.{sum_by, slice_get, AllByRecursion, flat_map, nat_tests, sum_by-cons, position_or_len_is, length-map, count_from, Replayed, kinds_of, there_in, Covers, times_of, Added, replayed_of, first_in, replayed_at, replayed_games, option_map, Contains-append_left, Contains-append_right, All-contains, All-from_recursion, slice_get-map, get_or_from_slice_get, Kinds, first_game, earlier}
use Rattle.tally_core.proofs.DoubleCounting.{sum-none, sum-same}

-- ---- the numbers from some number on
length-count_from : (first n : ℕ) → length (count_from first n) ≡ n
length-count_from first zero = refl
length-count_from first (suc n) = ap suc (length-count_from (suc first) n)

pub number_at : (first n k : ℕ) → k < n → slice_get (count_from first n) k ≡ Some (first + k)
number_at first zero k low = absurd (omega arith)
number_at first (suc n) zero low = ap (λ x. Some x) (sym (add-zero first))
number_at first (suc n) (suc k) low = number_at (suc first) n k (omega arith) ∙ ap (λ x. Some x) (omega arith)

-- sums over numbers that are the same at each of them
sum_within : (first n : ℕ) (f g : ℕ → ℕ) → ((k : ℕ) → first ≤ k → k < first + n → f k ≡ g k) → sum_by f (count_from first n) ≡ sum_by g (count_from first n)
sum_within first zero f g same = refl
sum_within first (suc n) f g same =
    Prim.grind (
      arith,
      sum_by-cons f first (count_from (suc first) n),
      sum_by-cons g first (count_from (suc first) n),
      same first,
      sum_within (suc first) n f g (λ k low high. same k (omega arith) (omega arith)),
    )

-- one number adds its value once, among numbers of which it is one
sum_past : (first n k v : ℕ) → k < first → sum_by (λ g. cond (k == g) v 0) (count_from first n) ≡ 0
sum_past first zero k v low = refl
sum_past first (suc n) k v low =
    Prim.grind (arith, nat_tests, sum_by-cons (λ g. cond (k == g) v 0) first (count_from (suc first) n), sum_past (suc first) n k v)

pub sum_once : (first n k v : ℕ) → first ≤ k → k < first + n → sum_by (λ g. cond (k == g) v 0) (count_from first n) ≡ v
sum_once first zero k v low high = absurd (omega arith)
sum_once first (suc n) k v low high =
    Prim.grind (arith, nat_tests, sum_by-cons (λ g. cond (k == g) v 0) first (count_from (suc first) n), sum_past (suc first) n k v, sum_once (suc first) n k v)

-- ---- what the games of a number add
abbrev pub at_game : (Added → ℕ) → List Added → ℕ → ℕ
at_game weight added game = sum_by (λ one. cond (one.game == game) (weight one) 0) added

-- the numbers of games
abbrev pub numbers_of : List Added → List ℕ
numbers_of added = map (λ (one : Added). one.game) added

abbrev pub AreBelow : ℕ → List Added → Type 0
AreBelow games added = AllByRecursion (λ (one : Added). one.game < games) added

sum-both : {X : Type 0} (f g : X → ℕ) (xs : List X) → sum_by (λ x. f x + g x) xs ≡ sum_by f xs + sum_by g xs
sum-both f g [] = refl
sum-both f g (x ∷ xs) = Prim.grind (arith, sum-both f g xs, sum_by-cons f x xs, sum_by-cons g x xs, sum_by-cons (λ y. f y + g y) x xs)

sum-map : {X Y : Type 0} (f : Y → ℕ) (v : X → Y) (xs : List X) → sum_by f (map v xs) ≡ sum_by (λ x. f (v x)) xs
sum-map f v [] = refl
sum-map f v (x ∷ xs) = Prim.grind (arith, sum_by-cons f (v x) (map v xs), sum-map f v xs, sum_by-cons (λ y. f (v y)) x xs)

-- what all games add is what the games of each number add, number by number
by_number : (weight : Added → ℕ) (games : ℕ) (added : List Added) → AreBelow games added → sum_by (at_game weight added) (count_from 0 games) ≡ sum_by weight added
by_number weight games [] below = sum-none (at_game weight []) (count_from 0 games) (λ g. refl)
by_number weight games (one ∷ added) below =
    let all = count_from 0 games in
    let here = λ (g : ℕ). cond (one.game == g) (weight one) 0 in
    sum-same (at_game weight (one ∷ added)) (λ (g : ℕ). here g + at_game weight added g) all (λ g. sum_by-cons (λ (x : Added). cond (x.game == g) (weight x) 0) one added)
    ∙ Prim.grind (arith, below.0, sum-both here (at_game weight added) all, sum_once 0 games one.game (weight one), by_number weight games added below.1, sum_by-cons weight one added)

-- ---- the game of a number
none_at : (weight : Added → ℕ) (added : List Added) (game : ℕ) → times_of (numbers_of added) game ≡ 0 → at_game weight added game ≡ 0
none_at weight [] game none = refl
none_at weight (one ∷ added) game none =
    Prim.grind (
      arith,
      sum_by-cons (λ (x : ℕ). cond (x == game) 1 0) one.game (numbers_of added),
      sum_by-cons (λ (x : Added). cond (x.game == game) (weight x) 0) one added,
      none_at weight added game,
    )

pub once_at : (f : Replayed → ℕ) (added : List Added) (game : ℕ) → times_of (numbers_of added) game ≡ 1 →
    at_game (λ one. f (replayed_of one)) added game ≡ f (replayed_at added game)
once_at f [] game once = absurd (omega arith)
once_at f (one ∷ added) game once =
    let weight = λ (x : Added). f (replayed_of x) in
    Prim.grind (
      arith,
      sum_by-cons (λ (x : ℕ). cond (x == game) 1 0) one.game (numbers_of added),
      sum_by-cons (λ (x : Added). cond (x.game == game) (weight x) 0) one added,
      none_at weight added game,
      once_at f added game,
    )

-- a sum over games is the sum over the games of the numbers
pub sum_numbered : (f : Replayed → ℕ) (games : ℕ) (added : List Added) → AreBelow games added → Covers games (numbers_of added) →
    sum_by (λ one. f (replayed_of one)) added ≡ sum_by f (replayed_games added games)
sum_numbered f games added below covers =
    sym (by_number (λ one. f (replayed_of one)) games added below)
    ∙ sum_within 0 games (at_game (λ one. f (replayed_of one)) added) (λ g. f (replayed_at added g)) (λ k low high. once_at f added k (covers k (omega arith)))
    ∙ sym (sum-map f (replayed_at added) (count_from 0 games))

pub length-numbered : (games : ℕ) (added : List Added) → length (replayed_games added games) ≡ games
length-numbered games added = length-map (count_from 0 games) (replayed_at added) ∙ length-count_from 0 games

-- ---- the game at each place
game_at : (games : ℕ) (added : List Added) (game : ℕ) → game < games → slice_get (replayed_games added games) game ≡ Some (replayed_at added game)
game_at games added game low =
    slice_get-map (replayed_at added) (count_from 0 games) game
    ∙ ap (option_map (replayed_at added)) (number_at 0 games game low ∙ ap (λ x. Some x) (zero-add game))

some_times : (added : List Added) (place : ℕ) (one : Added) → place < length added → get_or added place one ≡ one → 1 ≤ times_of (numbers_of added) one.game
some_times [] place one low is = absurd (omega arith)
some_times (x ∷ added) zero one low is =
    Prim.grind (arith, nat_tests, ap (λ (a : Added). a.game) is, sum_by-cons (λ (n : ℕ). cond (n == one.game) 1 0) x.game (numbers_of added))
some_times (x ∷ added) (suc place) one low is =
    Prim.grind (arith, sum_by-cons (λ (n : ℕ). cond (n == one.game) 1 0) x.game (numbers_of added), some_times added place one)

replayed_it : (added : List Added) (place : ℕ) (one : Added) → place < length added → get_or added place one ≡ one → times_of (numbers_of added) one.game ≡ 1 →
    replayed_at added one.game ≡ replayed_of one
replayed_it [] place one low is once = absurd (omega arith)
replayed_it (x ∷ added) zero one low is once = Prim.grind (arith, nat_tests, ap (λ (a : Added). a.game) is, ap replayed_of is)
replayed_it (x ∷ added) (suc place) one low is once =
    Prim.grind (arith, sum_by-cons (λ (n : ℕ). cond (n == one.game) 1 0) x.game (numbers_of added), some_times added place one, replayed_it added place one)

-- each game is the one at the place of its number
pub game_found : (games : ℕ) (added : List Added) (one : Added) → Contains added one → AreBelow games added → Covers games (numbers_of added) →
    slice_get (replayed_games added games) one.game ≡ Some (replayed_of one)
game_found games added one in' below covers =
    let P = λ (x : Added). x.game < games in
    let low = All-contains P added one (All-from_recursion P added below) in' in
    game_at games added one.game low ∙ ap (λ g. Some g) (replayed_it added in'.0 one in'.1 in'.2 (covers one.game low))

-- what is in a list that one of several gives is in all of them together
pub Contains-flat_map : {X Y : Type 0} (f : X → List Y) (xs : List X) (x : X) (y : Y) → Contains xs x → Contains (f x) y → Contains (flat_map f xs) y
Contains-flat_map f [] x y (place, low, is) inner = absurd (omega arith)
Contains-flat_map f (z ∷ xs) x y (zero, low, is) inner = Contains-append_left (f z) (flat_map f xs) y (rw is inner)
Contains-flat_map f (z ∷ xs) x y (suc place, low, is) inner =
    Contains-append_right (f z) (flat_map f xs) y (Contains-flat_map f xs x y (place, omega arith, is) inner)

-- ---- the first number that has some
abbrev pub IsFirst : (ℕ → ℕ) → Option ℕ → Type 0
IsFirst amount None = (game : ℕ) → amount game ≡ 0
IsFirst amount (Some first) = (0 < amount first) × ((game : ℕ) → game < first → amount game ≡ 0)

pub first_same : (amount more : ℕ → ℕ) (first : Option ℕ) → ((g : ℕ) → more g ≡ amount g) → IsFirst amount first → IsFirst more first
first_same amount more None same h = λ game. same game ∙ h game
first_same amount more (Some first) same h = (subst (λ n. 0 < n) (sym (same first)) h.0, λ game low. same game ∙ h.1 game low)

pub first_with : (amount more : ℕ → ℕ) (one v : ℕ) (first : Option ℕ) → 0 < v → ((g : ℕ) → more g ≡ cond (one == g) v 0 + amount g) → IsFirst amount first →
    IsFirst more (earlier (Some one) first)
first_with amount more one v None some each h =
    (Prim.grind (arith, nat_tests, each one), λ game low. Prim.grind (arith, nat_tests, each game, h game))
first_with amount more one v (Some first) some each h = (
  Prim.grind (arith, nat_tests, each one, each first, h.0, λ (e : min one first ≡ one). ap more e, λ (e : min one first ≡ first). ap more e),
  λ game low. Prim.grind (arith, nat_tests, each game, h.1 game),
)

first_step : (amount more : ℕ → ℕ) (one v : ℕ) (first : Option ℕ) → ((g : ℕ) → more g ≡ cond (one == g) v 0 + amount g) → IsFirst amount first →
    IsFirst more (earlier (cond (nat_lt 0 v) (Some one) None) first)
first_step amount more one v first each h =
    elim (nat_lt 0 v) as (λ b. nat_lt 0 v ≡ b → IsFirst more (earlier (cond b (Some one) None) first)) [
      | true ↦ λ some. first_with amount more one v first (let l : 0 < v = Prim.grind (arith, nat_tests) in l) each h
      | false ↦ λ none. first_same amount more first (λ g. Prim.grind (arith, nat_tests, each g)) h
    ] refl

-- how often a pattern was there in a game
abbrev there_weight : Kinds → ℕ → Added → ℕ
there_weight kinds shape one = there_in (kinds_of kinds) (replayed_of one) shape

first_among : (kinds : Kinds) (added : List Added) (shape : ℕ) → IsFirst (at_game (there_weight kinds shape) added) (first_in kinds added shape)
first_among kinds [] shape = λ game. refl
first_among kinds (one ∷ added) shape =
    first_step (at_game (there_weight kinds shape) added) (at_game (there_weight kinds shape) (one ∷ added)) one.game (there_weight kinds shape one) (first_in kinds added shape)
    (λ g. sum_by-cons (λ (x : Added). cond (x.game == g) (there_weight kinds shape x) 0) one added)
    (first_among kinds added shape)

none_beyond : (weight : Added → ℕ) (games : ℕ) (added : List Added) (game : ℕ) → AreBelow games added → games ≤ game → at_game weight added game ≡ 0
none_beyond weight games [] game below high = refl
none_beyond weight games (one ∷ added) game below high =
    Prim.grind (arith, nat_tests, below.0, sum_by-cons (λ (x : Added). cond (x.game == game) (weight x) 0) one added, none_beyond weight games added game below.1)

-- ---- the first place
-- a pattern's amount in the game at a place
amount_at : (kinds : Kinds) (games : ℕ) (added : List Added) (shape game : ℕ) (d : Replayed) → Covers games (numbers_of added) → game < games →
    there_in (kinds_of kinds) (get_or (replayed_games added games) game d) shape ≡ at_game (there_weight kinds shape) added game
amount_at kinds games added shape game d covers low =
    let f = λ (g : Replayed). there_in (kinds_of kinds) g shape in
    ap f (get_or_from_slice_get (replayed_games added games) game (replayed_at added game) d (game_at games added game low))
    ∙ sym (once_at f added game (covers game low))

first_is : (kinds : Kinds) (games : ℕ) (added : List Added) (shape : ℕ) (first : Option ℕ) → AreBelow games added → Covers games (numbers_of added) →
    IsFirst (at_game (there_weight kinds shape) added) first → first ≡ first_game kinds (replayed_games added games) shape
first_is kinds games added shape None below covers h =
    let all = replayed_games added games in
    let d : Replayed = replayed_at [] 0 in
    let long = length-numbered games added in
    let at = position_or_len_is (λ (game : Replayed). nat_lt 0 (there_in (kinds_of kinds) game shape)) all (length all) d (omega arith)
    (λ k low. Prim.grind (arith, nat_tests, amount_at kinds games added shape k d covers, h k)) (λ low. absurd (omega arith)) in
    Prim.grind (arith, nat_tests, at)
first_is kinds games added shape (Some first) below covers h =
    let all = replayed_games added games in
    let d : Replayed = replayed_at [] 0 in
    let long = length-numbered games added in
    let inside : first < games = Prim.grind (arith, h.0, none_beyond (there_weight kinds shape) games added first below) in
    let at = position_or_len_is (λ (game : Replayed). nat_lt 0 (there_in (kinds_of kinds) game shape)) all first d (omega arith)
    (λ k low. Prim.grind (arith, nat_tests, amount_at kinds games added shape k d covers, h.1 k))
    (λ low. Prim.grind (arith, nat_tests, amount_at kinds games added shape first d covers, h.0)) in
    Prim.grind (arith, nat_tests, at)

-- the least game that has a pattern is the first place at which a game has it
pub first_numbered : (kinds : Kinds) (games : ℕ) (added : List Added) (shape : ℕ) → AreBelow games added → Covers games (numbers_of added) →
    first_in kinds added shape ≡ first_game kinds (replayed_games added games) shape
first_numbered kinds games added shape below covers = first_is kinds games added shape (first_in kinds added shape) below covers (first_among kinds added shape)

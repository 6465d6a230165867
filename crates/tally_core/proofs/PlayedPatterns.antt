-- The kinds of the patterns of games: each occasion plays one square, and one diamond where diamonds are counted; where they
-- are not, none is there.
use Rattle.std.proofs.Common.{◌≡◌, ℕ, ◌+◌, ◌^◌, ◌==◌, nat_lt, Bool, true, false, not, cond, List, [], ◌∷◌, filter, length, refl, ap, sym, ◌∙◌, arith}
use Rattle.std.specs.Prelude.{sum_by, count_by}
use Rattle.std.specs.List.{flat_map}
use Rattle.std.proofs.lemmas.Bool.Decides.{nat_tests}
use Rattle.go_board.specs.Extent.{Extent}
use Rattle.go_board.specs.Position.{Position}
use Rattle.go_board.specs.declared.points.Point.{Point}
use Rattle.go_board.specs.declared.points.Colour.{Colour}
use Rattle.shape_core.specs.declared.words.Kind.{Kind}
use Rattle.shape_core.specs.declared.words.Kind.TheVariants as kind
use Rattle.shape_core.specs.declared.words.Kinds.{Kinds}
use Rattle.shape_core.specs.declared.words.Kinds.TheVariants as which
use Rattle.shape_core.specs.Word.{kind_of}
use Rattle.shape_core.specs.Symmetry.{canonical_of}
use Rattle.shape_core.specs.Around.{word_around}
use Rattle.tally_core.specs.Occasions.{Occasion, is_empty}
use Rattle.tally_core.specs.Counts.{Replayed, kinds_of, points_of, patterns_at, patterns_there, patterns_played}
use Rattle.tally_core.specs.Games.{there_sum, played_sum}
use Rattle.tally_core.proofs.DoubleCounting.{sum-none, sum-same, sum-ones, count-cons, count-flat_map}

-- a canonical word is of its word's kind
abbrev pub CanonicalStays : Type 0
CanonicalStays = (word : ℕ) → (mover : Colour) → kind_of (canonical_of word mover) ≡ kind_of word

-- the word of a point is of the kind that was looked at
abbrev pub AroundStays : Type 0
AroundStays = (kind : Kind) → (size : Extent) → (position : Position) → (point : Point) → kind_of (word_around kind size position point) ≡ kind

-- the words of squares
abbrev pub is_low : ℕ → Bool
is_low word = nat_lt word (2 ^ 50)

low_square : (word : ℕ) → kind_of word ≡ kind.Square → is_low word ≡ true
low_square word h =
    elim (is_low word) as (λ b. cond b kind.Square kind.Diamond ≡ kind.Square → b ≡ true) [ true ↦ λ is. refl | false ↦ λ is. absurd cc ] h

high_diamond : (word : ℕ) → kind_of word ≡ kind.Diamond → is_low word ≡ false
high_diamond word h =
    elim (is_low word) as (λ b. cond b kind.Square kind.Diamond ≡ kind.Diamond → b ≡ false) [ true ↦ λ is. absurd cc | false ↦ λ is. refl ] h

count_one : (p : ℕ → Bool) (word : ℕ) → count_by p (word ∷ []) ≡ cond (p word) 1 0
count_one p word = count-cons p word [] ∙ omega arith

count_two : (p : ℕ → Bool) (first second : ℕ) → count_by p (first ∷ second ∷ []) ≡ cond (p first) 1 0 + cond (p second) 1 0
count_two p first second = count-cons p first (second ∷ []) ∙ ap (λ n. cond (p first) 1 0 + n) (count_one p second)

module _ (canonical : CanonicalStays) (around : AroundStays) where
  square_is_low : (size : Extent) (position : Position) (mover : Colour) (point : Point) → is_low (canonical_of (word_around kind.Square size position point) mover) ≡ true
  square_is_low size position mover point =
      low_square (canonical_of (word_around kind.Square size position point) mover)
      (canonical (word_around kind.Square size position point) mover ∙ around kind.Square size position point)

  diamond_is_high : (size : Extent) (position : Position) (mover : Colour) (point : Point) → is_low (canonical_of (word_around kind.Diamond size position point) mover) ≡ false
  diamond_is_high size position mover point =
      high_diamond (canonical_of (word_around kind.Diamond size position point) mover)
      (canonical (word_around kind.Diamond size position point) mover ∙ around kind.Diamond size position point)

  -- an occasion plays one square
  pub one_square : (kinds : Kinds) (size : Extent) (occasion : Occasion) → count_by is_low (patterns_played (kinds_of kinds) size occasion) ≡ 1
  one_square which.Squares size o =
      let square = canonical_of (word_around kind.Square size o.position o.at) o.mover in
      count_one is_low square ∙ ap (λ b. cond b 1 0) (square_is_low size o.position o.mover o.at)
  one_square which.Both size o =
      let square = canonical_of (word_around kind.Square size o.position o.at) o.mover in
      let diamond = canonical_of (word_around kind.Diamond size o.position o.at) o.mover in
      count_two is_low square diamond ∙ ap (λ b. cond b 1 0 + cond (is_low diamond) 1 0) (square_is_low size o.position o.mover o.at)
      ∙ ap (λ b. 1 + cond b 1 0) (diamond_is_high size o.position o.mover o.at)

  -- and one diamond, where both kinds are counted
  pub one_diamond : (size : Extent) (occasion : Occasion) → count_by (λ word. not (is_low word)) (patterns_played (kinds_of which.Both) size occasion) ≡ 1
  one_diamond size o =
      let square = canonical_of (word_around kind.Square size o.position o.at) o.mover in
      let diamond = canonical_of (word_around kind.Diamond size o.position o.at) o.mover in
      count_two (λ word. not (is_low word)) square diamond ∙ ap (λ b. cond (not b) 1 0 + cond (not (is_low diamond)) 1 0) (square_is_low size o.position o.mover o.at)
      ∙ ap (λ b. 0 + cond (not b) 1 0) (diamond_is_high size o.position o.mover o.at)

  no_diamond_at : (shape : ℕ) → is_low shape ≡ false → (size : Extent) (position : Position) (mover : Colour) (point : Point) →
      count_by (λ c. c == shape) (patterns_at (kinds_of which.Squares) size position mover point) ≡ 0
  no_diamond_at shape high size position mover point =
      let square = canonical_of (word_around kind.Square size position point) mover in
      let low = square_is_low size position mover point in
      let differs : (square == shape) ≡ false = elim (square == shape) as (λ b. (square == shape) ≡ b → b ≡ false)
      [ true ↦ λ same. (let equal : square ≡ shape = Prim.grind (arith, nat_tests) in absurd (let other : true ≡ false = sym low ∙ ap is_low equal ∙ high in cc)) | false ↦ λ other. refl ] refl in
      count_one (λ c. c == shape) square ∙ ap (λ b. cond b 1 0) differs

  no_diamond : (shape : ℕ) → is_low shape ≡ false → (size : Extent) (occasion : Occasion) → count_by (λ c. c == shape) (patterns_there (kinds_of which.Squares) size occasion) ≡ 0
  no_diamond shape high size o =
      let empty = filter (λ point. is_empty (o.position point)) (points_of size) in
      count-flat_map (λ c. c == shape) (patterns_at (kinds_of which.Squares) size o.position o.mover) empty
      ∙ sum-none (λ point. count_by (λ c. c == shape) (patterns_at (kinds_of which.Squares) size o.position o.mover point)) empty
      (no_diamond_at shape high size o.position o.mover)

  -- where squares alone are counted, no diamond was there
  pub no_diamonds : (games : List Replayed) (shape : ℕ) → is_low shape ≡ false → there_sum which.Squares games shape ≡ 0
  no_diamonds games shape high =
      sum-none (λ game. count_by (λ c. c == shape) (flat_map (patterns_there (kinds_of which.Squares) game.size) game.occasions)) games
      (λ game. count-flat_map (λ c. c == shape) (patterns_there (kinds_of which.Squares) game.size) game.occasions
      ∙ sum-none (λ o. count_by (λ c. c == shape) (patterns_there (kinds_of which.Squares) game.size o)) game.occasions (no_diamond shape high game.size))

  -- nor was one played
  pub no_diamonds_played : (games : List Replayed) (shape : ℕ) → is_low shape ≡ false → played_sum which.Squares games shape ≡ 0
  no_diamonds_played games shape high =
      sum-none (λ game. count_by (λ c. c == shape) (flat_map (patterns_played (kinds_of which.Squares) game.size) game.occasions)) games
      (λ game. count-flat_map (λ c. c == shape) (patterns_played (kinds_of which.Squares) game.size) game.occasions
      ∙ sum-none (λ o. count_by (λ c. c == shape) (patterns_played (kinds_of which.Squares) game.size o)) game.occasions
      (λ o. no_diamond_at shape high game.size o.position o.mover o.at))

-- all patterns that the games play
abbrev pub all_played : Kinds → List Replayed → List ℕ
all_played kinds games = flat_map (λ game. flat_map (patterns_played (kinds_of kinds) game.size) game.occasions) games

pub played_among_all : (kinds : Kinds) (games : List Replayed) (shape : ℕ) → played_sum kinds games shape ≡ count_by (λ c. c == shape) (all_played kinds games)
played_among_all kinds games shape = sym (count-flat_map (λ c. c == shape) (λ (game : Replayed). flat_map (patterns_played (kinds_of kinds) game.size) game.occasions) games)

-- where each occasion plays one pattern that passes, as many pass as there are occasions
pub one_each : (kinds : Kinds) (p : ℕ → Bool) → ((size : Extent) (occasion : Occasion) → count_by p (patterns_played (kinds_of kinds) size occasion) ≡ 1) → (games : List Replayed) →
    count_by p (all_played kinds games) ≡ sum_by (λ game. length game.occasions) games
one_each kinds p one games =
    count-flat_map p (λ (game : Replayed). flat_map (patterns_played (kinds_of kinds) game.size) game.occasions) games
    ∙ sum-same (λ (game : Replayed). count_by p (flat_map (patterns_played (kinds_of kinds) game.size) game.occasions)) (λ (game : Replayed). length game.occasions) games
    (λ game. count-flat_map p (patterns_played (kinds_of kinds) game.size) game.occasions
    ∙ sum-ones (λ o. count_by p (patterns_played (kinds_of kinds) game.size o)) game.occasions (one game.size))

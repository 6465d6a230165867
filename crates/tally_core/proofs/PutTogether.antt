-- The dictionary of two lists of games put together, and the join of their dictionaries.
use Rattle.std.proofs.Common.{◌≡◌, ℕ, zero, suc, ◌+◌, ◌<◌, ◌≤◌, ◌==◌, nat_lt, true, false, not, cond, List, ◌++◌, length, Option, Some, None, refl, ap, sym, ◌∙◌, arith, inl, inr, length-append}
use Rattle.std.specs.Prelude.{sum_by, position}
use Rattle.std.specs.Option.{option_map}
use Rattle.std.proofs.lemmas.Bool.{cases_lt}
use Rattle.std.proofs.lemmas.Bool.Decides.{nat_tests}
use Rattle.std.proofs.lemmas.List.Sums.{sum_by-append}
use Rattle.std.proofs.lemmas.List.Folds.{prefix_len-append}
use Rattle.shape_core.specs.declared.words.Kinds.{Kinds}
use Rattle.shape_dict.specs.declared.entries.Entry.{Entry}
use Rattle.shape_dict.specs.Contents.{Contents, entry_of}
use Rattle.shape_dict.specs.Join.{joined_entry, IsJoin}
use Rattle.tally_core.specs.Counts.{Replayed, kinds_of, there_in, played_in}
use Rattle.tally_core.specs.Games.{there_sum, played_sum, first_game, counted_entry, IsDictionaryOf}
use Rattle.tally_core.proofs.Games.{first_of, first-none, first-some}
use Rattle.tally_core.proofs.PlayedPatterns.{CanonicalStays, AroundStays}
use Rattle.tally_core.proofs.PlayedThere.{played_there}

-- ---- the first game of two lists
-- a place among n, if it is one
abbrev place_among : ℕ → ℕ → Option ℕ
place_among n m = cond (nat_lt n m) (Some n) None

inside : (n m : ℕ) → n < m → place_among n m ≡ Some n
inside n m h = let test : nat_lt n m ≡ true = Prim.grind (arith, nat_tests) in ap (λ b. cond b (Some n) None) test

outside : (n m : ℕ) → m ≤ n → place_among n m ≡ None
outside n m h = let test : nat_lt n m ≡ false = Prim.grind (arith, nat_tests) in ap (λ b. cond b (Some n) None) test

moved_place : (k n m : ℕ) → place_among (k + n) (k + m) ≡ option_map (λ game. game + k) (place_among n m)
moved_place k n m = elim (cases_lt n m) [
  | inl low ↦ inside (k + n) (k + m) (omega arith) ∙ ap Some (let same : k + n ≡ n + k = omega arith in same) ∙ sym (ap (option_map (λ game. game + k)) (inside n m low))
  | inr high ↦ outside (k + n) (k + m) (omega arith) ∙ sym (ap (option_map (λ game. game + k)) (outside n m high))
]

module _ {X : Type 0} (amount : X → ℕ) where
  first_place : List X → Option ℕ
  first_place xs = position (λ x. nat_lt 0 (amount x)) xs

  first_in_left : (left right : List X) → 0 < sum_by amount left → first_place (left ++ right) ≡ first_place left
  unfolding first_place first_of
  first_in_left left right some =
      let within : first_of amount left < length left = first-some amount left some in
      let test : (first_of amount left == length left) ≡ false = Prim.grind (arith, nat_tests, within) in
      let same : first_of amount (left ++ right) ≡ first_of amount left =
      prefix_len-append (λ x. not (nat_lt 0 (amount x))) left right
      ∙ ap (λ b. cond b (length left + first_of amount right) (first_of amount left)) test in
      let more = length-append left right in
      ap (λ n. place_among n (length (left ++ right))) same
      ∙ inside (first_of amount left) (length (left ++ right)) (omega (arith, within, more))
      ∙ sym (inside (first_of amount left) (length left) within)

  first_in_right : (left right : List X) → sum_by amount left ≡ 0 → first_place (left ++ right) ≡ option_map (λ game. game + length left) (first_place right)
  unfolding first_place first_of
  first_in_right left right none =
      let all : first_of amount left ≡ length left = first-none amount left none in
      let test : (first_of amount left == length left) ≡ true = Prim.grind (arith, nat_tests, all) in
      let same : first_of amount (left ++ right) ≡ length left + first_of amount right =
      prefix_len-append (λ x. not (nat_lt 0 (amount x))) left right
      ∙ ap (λ b. cond b (length left + first_of amount right) (first_of amount left)) test in
      ap (λ n. place_among n (length (left ++ right))) same
      ∙ ap (place_among (length left + first_of amount right)) (length-append left right)
      ∙ moved_place (length left) (first_of amount right) (length right)

-- ---- the entry of a pattern
abbrev entry_with : ℕ → ℕ → ℕ → Option ℕ → Option Entry
entry_with shape there played first = cond (nat_lt 0 there) (Some (record { shape = shape; there = there; played = played; first = first })) None

with_some : (shape there played : ℕ) (first : Option ℕ) → 0 < there → entry_with shape there played first ≡ Some (record { shape = shape; there = there; played = played; first = first })
with_some shape there played first h =
    let test : nat_lt 0 there ≡ true = Prim.grind (arith, nat_tests) in
    ap (λ b. cond b (Some (record { shape = shape; there = there; played = played; first = first })) None) test

with_none : (shape there played : ℕ) (first : Option ℕ) → there ≡ 0 → entry_with shape there played first ≡ None
with_none shape there played first h =
    let test : nat_lt 0 there ≡ false = Prim.grind (arith, nat_tests) in
    ap (λ b. cond b (Some (record { shape = shape; there = there; played = played; first = first })) None) test

module _ (shape games : ℕ) (first first_left first_right : Option ℕ) where
  together : (there played more_there more_played : ℕ) → (there ≡ 0 → played ≡ 0) → (more_there ≡ 0 → more_played ≡ 0) →
      (0 < there → first ≡ first_left) → (there ≡ 0 → first ≡ option_map (λ game. game + games) first_right) →
      entry_with shape (there + more_there) (played + more_played) first
      ≡ joined_entry games (entry_with shape there played first_left) (entry_with shape more_there more_played first_right)
  together zero played zero more_played none more_none in_left in_right =
      with_none shape (0 + 0) (played + more_played) first (omega arith)
      ∙ sym (ap (λ x. joined_entry games x (entry_with shape 0 more_played first_right)) (with_none shape 0 played first_left refl)
      ∙ ap (joined_entry games None) (with_none shape 0 more_played first_right refl))
  together zero played (suc more) more_played none more_none in_left in_right =
      let no = none refl in
      let there : 0 + suc more ≡ suc more = omega arith in
      let plays : played + more_played ≡ more_played = omega arith in
      with_some shape (0 + suc more) (played + more_played) first (omega arith)
      ∙ ap (λ n. Some (record { shape = shape; there = n; played = played + more_played; first = first })) there
      ∙ ap (λ n. Some (record { shape = shape; there = suc more; played = n; first = first })) plays
      ∙ ap (λ f. Some (record { shape = shape; there = suc more; played = more_played; first = f })) (in_right refl)
      ∙ sym (ap (λ x. joined_entry games x (entry_with shape (suc more) more_played first_right)) (with_none shape 0 played first_left refl)
      ∙ ap (joined_entry games None) (with_some shape (suc more) more_played first_right (omega arith)))
  together (suc n) played zero more_played none more_none in_left in_right =
      let no = more_none refl in
      let there : suc n + 0 ≡ suc n = omega arith in
      let plays : played + more_played ≡ played = omega arith in
      with_some shape (suc n + 0) (played + more_played) first (omega arith)
      ∙ ap (λ m. Some (record { shape = shape; there = m; played = played + more_played; first = first })) there
      ∙ ap (λ m. Some (record { shape = shape; there = suc n; played = m; first = first })) plays
      ∙ ap (λ f. Some (record { shape = shape; there = suc n; played = played; first = f })) (in_left (omega arith))
      ∙ sym (ap (λ x. joined_entry games x (entry_with shape 0 more_played first_right)) (with_some shape (suc n) played first_left (omega arith))
      ∙ ap (joined_entry games (Some (record { shape = shape; there = suc n; played = played; first = first_left }))) (with_none shape 0 more_played first_right refl))
  together (suc n) played (suc more) more_played none more_none in_left in_right =
      with_some shape (suc n + suc more) (played + more_played) first (omega arith)
      ∙ ap (λ f. Some (record { shape = shape; there = suc n + suc more; played = played + more_played; first = f })) (in_left (omega arith))
      ∙ sym (ap (λ x. joined_entry games x (entry_with shape (suc more) more_played first_right)) (with_some shape (suc n) played first_left (omega arith))
      ∙ ap (joined_entry games (Some (record { shape = shape; there = suc n; played = played; first = first_left }))) (with_some shape (suc more) more_played first_right (omega arith)))

module _ (canonical : CanonicalStays) (around : AroundStays) (kinds : Kinds) (left right : List Replayed) (of_left of_right : Contents) (h : IsDictionaryOf kinds left of_left) (k : IsDictionaryOf kinds right of_right) where
  counted_together : (shape : ℕ) → counted_entry kinds (left ++ right) shape ≡ joined_entry (length left) (counted_entry kinds left shape) (counted_entry kinds right shape)
  unfolding first_place
  counted_together shape =
      let there = λ (game : Replayed). there_in (kinds_of kinds) game shape in
      let played = λ (game : Replayed). played_in (kinds_of kinds) game shape in
      let first = first_game kinds (left ++ right) shape in
      ap (λ n. entry_with shape n (played_sum kinds (left ++ right) shape) first) (sum_by-append there left right)
      ∙ ap (λ n. entry_with shape (there_sum kinds left shape + there_sum kinds right shape) n first) (sum_by-append played left right)
      ∙ together shape (length left) first (first_game kinds left shape) (first_game kinds right shape)
      (there_sum kinds left shape) (played_sum kinds left shape) (there_sum kinds right shape) (played_sum kinds right shape)
      (played_there canonical around kinds left of_left h shape) (played_there canonical around kinds right of_right k shape)
      (first_in_left there left right) (first_in_right there left right)

  joined_together : (shape : ℕ) → counted_entry kinds (left ++ right) shape ≡ joined_entry of_left.games (entry_of shape of_left.entries) (entry_of shape of_right.entries)
  joined_together shape =
      counted_together shape
      ∙ ap (λ n. joined_entry n (counted_entry kinds left shape) (counted_entry kinds right shape)) (sym h.games_counted)
      ∙ ap (λ x. joined_entry of_left.games x (counted_entry kinds right shape)) (sym (h.entries shape))
      ∙ ap (joined_entry of_left.games (entry_of shape of_left.entries)) (sym (k.entries shape))

  games_together : length (left ++ right) ≡ of_left.games + of_right.games
  games_together = let a = h.games_counted in let b = k.games_counted in length-append left right ∙ omega arith

  moves_together : sum_by (λ (game : Replayed). length game.occasions) (left ++ right) ≡ of_left.moves + of_right.moves
  moves_together = let a = h.moves in let b = k.moves in sum_by-append (λ (game : Replayed). length game.occasions) left right ∙ omega arith

  pub is_join : (both : Contents) → IsDictionaryOf kinds (left ++ right) both → IsJoin of_left of_right both
  is_join both d = record {
    dictionary = d.dictionary;
    games = d.games_counted ∙ games_together;
    moves = d.moves ∙ moves_together;
    same_kinds = h.diamonds ∙ sym k.diamonds;
    kinds = d.diamonds ∙ sym h.diamonds;
    entries = λ shape. d.entries shape ∙ joined_together shape;
  }

  pub is_dictionary : (both : Contents) → IsJoin of_left of_right both → IsDictionaryOf kinds (left ++ right) both
  is_dictionary both j = record {
    dictionary = j.dictionary;
    games_counted = j.games ∙ sym games_together;
    moves = j.moves ∙ sym moves_together;
    diamonds = j.kinds ∙ h.diamonds;
    entries = λ shape. j.entries shape ∙ sym (joined_together shape);
  }

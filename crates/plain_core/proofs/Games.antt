-- Games that are counted one after another.
use Rattle.std.proofs.Common.{◌≡◌, ℕ, zero, suc, ◌+◌, ◌≤◌, ◌<◌, ◌==◌, nat_lt, true, false, not, cond, List, [], ◌∷◌, ◌++◌, length, Option, Some, None, refl, ap, sym, subst, ◌∙◌, arith, zero-add, add-zero, inl, inr}
use Rattle.std.specs.Prelude.{sum_by}
use Rattle.std.specs.List.{position_or_len}
use Rattle.std.proofs.lemmas.List.Sums.{sum_by-append, sum_by-cons}
use Rattle.std.proofs.lemmas.List.Folds.{position_or_len_push}
use Rattle.std.proofs.lemmas.Bool.{cases_lt}
use Rattle.std.proofs.Math.Numerals.{one-add}
use Rattle.std.proofs.lemmas.Bool.Decides.{nat_tests}
use Rattle.plain_core.specs.Inner.Count.{Count}
use Rattle.go_record.specs.Actions.{Actions}
use Rattle.shape_core.specs.declared.words.Kinds.{Kinds}
use Rattle.tally_core.specs.Counts.{Replayed, kinds_of, there_in, played_in}
use Rattle.plain_core.specs.Inner.Counter.{first_used, used_again, CountsGame, CountsGames}
use Rattle.tally_core.proofs.Games.{first_of, first-none, first-some}

-- what a pattern's count is after these sums, first seen in this game
pub counted : ℕ → ℕ → ℕ → Option Count
counted there played first = cond (nat_lt 0 there) (Some (record { there = there; played = played; first = Some first })) None

counted-some : (there played first : ℕ) → 0 < there → counted there played first ≡ Some (record { there = there; played = played; first = Some first })
unfolding counted
counted-some there played first h =
    let test : nat_lt 0 there ≡ true = Prim.grind (arith, nat_tests) in
    ap (λ b. cond b (Some (record { there = there; played = played; first = Some first })) None) test

counted-none : (there played first : ℕ) → there ≡ 0 → counted there played first ≡ None
unfolding counted
counted-none there played first h =
    let test : nat_lt 0 there ≡ false = Prim.grind (arith, nat_tests) in
    ap (λ b. cond b (Some (record { there = there; played = played; first = Some first })) None) test

-- one game more
pub counted-more : (number there played first n m : ℕ) → played ≤ there → m ≤ n → (there ≡ 0 → 0 < n → first ≡ number) →
    used_again (Some number) n m (counted there played first) ≡ counted (there + n) (played + m) first
unfolding counted
counted-more number zero played first zero m among more_among none =
    let no : m ≡ 0 = omega arith in
    ap (λ k. first_used (Some number) zero k) no ∙ sym (counted-none (zero + zero) (played + m) first (omega arith))
counted-more number zero played first (suc n) m among more_among none =
    let no : played ≡ 0 = omega arith in
    ap (λ p. Some (record { there = suc n; played = p; first = Some number })) (sym (zero-add m) ∙ ap (λ p. p + m) (sym no))
    ∙ ap (λ f. Some (record { there = suc n; played = played + m; first = Some f })) (sym (none refl (omega arith)))
    ∙ sym (counted-some (suc n) (played + m) first (omega arith))
    ∙ ap (λ t. counted t (played + m) first) (sym (zero-add (suc n)))
counted-more number (suc there) played first n m among more_among none =
    ap (used_again (Some number) n m) (counted-some (suc there) played first (omega arith))
    ∙ sym (counted-some (suc there + n) (played + m) first (omega arith))

-- one more game after games of which some had the pattern
first-kept : {X : Type 0} (amount : X → ℕ) (xs : List X) (x : X) → 0 < sum_by amount xs → first_of amount (xs ++ x ∷ []) ≡ first_of amount xs
unfolding first_of
first-kept amount xs x h =
    let inside = first-some amount xs h in
    let test : (first_of amount xs == length xs) ≡ false = Prim.grind (arith, nat_tests, inside) in
    position_or_len_push (λ y. nat_lt 0 (amount y)) xs x
    ∙ ap (λ b. cond b (length xs + cond (nat_lt 0 (amount x)) 0 1) (first_of amount xs)) test

-- and after games of which none had it
pub first-new : {X : Type 0} (amount : X → ℕ) (xs : List X) (x : X) → sum_by amount xs ≡ 0 → 0 < amount x → first_of amount (xs ++ x ∷ []) ≡ length xs
unfolding first_of
first-new amount xs x h some =
    let all = first-none amount xs h in
    let test : (first_of amount xs == length xs) ≡ true = Prim.grind (arith, nat_tests, all) in
    let here : nat_lt 0 (amount x) ≡ true = Prim.grind (arith, nat_tests) in
    position_or_len_push (λ y. nat_lt 0 (amount y)) xs x
    ∙ ap (λ b. cond b (length xs + cond (nat_lt 0 (amount x)) 0 1) (first_of amount xs)) test
    ∙ ap (λ b. length xs + cond b 0 1) here ∙ add-zero (length xs)

sum-push : {X : Type 0} (amount : X → ℕ) (xs : List X) (x : X) → sum_by amount (xs ++ x ∷ []) ≡ sum_by amount xs + amount x
sum-push amount xs x = sum_by-append amount xs (x ∷ []) ∙ ap (λ n. sum_by amount xs + n) (zero-add (amount x))

-- a count is that whichever first game it names, where there is none
counted-first : (there played first other : ℕ) → (0 < there → first ≡ other) → counted there played first ≡ counted there played other
unfolding counted
counted-first zero played first other same = refl
counted-first (suc there) played first other same = ap (λ f. counted (suc there) played f) (same (omega arith))

-- one game more was counted
pub games_more : (kinds : Kinds) (games : List Replayed) (game : Actions) (number moves more : ℕ) (a b : ℕ → Option Count) →
    number ≡ length games → CountsGames kinds games a moves → (new : CountsGame kinds game (Some number) a b more) →
    CountsGames kinds (games ++ record { size = game.size; occasions = new.occasions } ∷ []) b (moves + more)
unfolding counted first_of
games_more kinds games game number moves more a b is before new =
    let next : Replayed = record { size = game.size; occasions = new.occasions } in
    let there = λ (shape : ℕ) (g : Replayed). there_in (kinds_of kinds) g shape in
    let played = λ (shape : ℕ) (g : Replayed). played_in (kinds_of kinds) g shape in
    record {
      counted = λ shape.
          let s = sum_by (there shape) games in
          let p = sum_by (played shape) games in
          let f = first_of (there shape) (games ++ next ∷ []) in
          new.counted shape
          ∙ ap (used_again (Some number) (there shape next) (played shape next))
          (before.counted shape ∙ counted-first s p (first_of (there shape) games) f (λ some. sym (first-kept (there shape) games next some)))
          ∙ counted-more number s p f (there shape next) (played shape next) (before.among shape) (new.among shape)
          (λ none some. first-new (there shape) games next none some ∙ sym is)
          ∙ ap (λ t. counted t (p + played shape next) f) (sym (sum-push (there shape) games next))
          ∙ ap (λ q. counted (sum_by (there shape) (games ++ next ∷ [])) q f) (sym (sum-push (played shape) games next));
      among = λ shape. rw (sum-push (played shape) games next, sum-push (there shape) games next) (omega (arith, before.among shape, new.among shape));
      moves_counted = ap (λ n. n + more) before.moves_counted ∙ ap (λ n. sum_by (λ g. length g.occasions) games + n) new.moves_counted
          ∙ sym (sum-push (λ (g : Replayed). length g.occasions) games next);
    }

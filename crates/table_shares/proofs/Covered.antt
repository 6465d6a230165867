-- Games that are noted as seen, one after another.
use Rattle.std.proofs.Common.{◌≡◌, ℕ, ◌+◌, ◌<◌, ◌≤◌, ◌==◌, min, Bool, true, false, cond, List, [], ◌∷◌, ◌++◌, length, get_or, Option, Some, None, ap, sym, subst, ◌∙◌, arith, ⊎_elim}
use Rattle.table_shares.proofs.Common.{cases_lt, nat_tests, get_or-set_same, get_or-set_other, length-set, sum_by_push, times_of, IsLeastDouble, AreNoted, earlier}
use Rattle.std.proofs.Math.ListN.{set}
use Rattle.table_shares.specs.declared.covering.Seen.{Seen}

-- how often a game is in a list with one more
times_more : (list : List ℕ) (game other : ℕ) → times_of (list ++ game ∷ []) other ≡ times_of list other + cond (game == other) 1 0
times_more list game other = sum_by_push (λ (x : ℕ). cond (x == other) 1 0) list game

-- a game that was not seen
still_least : (list : List ℕ) (game : ℕ) (twice : Option ℕ) → times_of list game ≡ 0 → IsLeastDouble list twice → IsLeastDouble (list ++ game ∷ []) twice
still_least list game None none h = λ other. Prim.grind (arith, nat_tests, times_more list game other, h other)
still_least list game (Some least) none h =
    (Prim.grind (arith, h.0, times_more list game least), λ other low. Prim.grind (arith, nat_tests, times_more list game other, h.1 other low))

-- a game that was seen
again_least : (list : List ℕ) (game : ℕ) (twice : Option ℕ) → 1 ≤ times_of list game → IsLeastDouble list twice → IsLeastDouble (list ++ game ∷ []) (earlier twice (Some game))
again_least list game None some h =
    (Prim.grind (arith, nat_tests, times_more list game game), λ other low. Prim.grind (arith, nat_tests, times_more list game other, h other))
again_least list game (Some least) some h = (
  ⊎_elim
      (λ (low : least < game). let e : min least game ≡ least = omega arith in rw e (Prim.grind (arith, h.0, times_more list game least)))
      (λ (high : game ≤ least). let e : min least game ≡ game = omega arith in rw e (Prim.grind (arith, nat_tests, times_more list game game)))
      (cases_lt least game),
  λ other low. Prim.grind (arith, nat_tests, times_more list game other, h.1 other),
)

-- ---- what is noted
pub noted_new : (list : List ℕ) (game : ℕ) (seen : Seen) (games : List Bool) (new : Seen) → game < length seen.games.items → get_or seen.games.items game false ≡ false →
    new.games.items ≡ set seen.games.items game true → new.twice ≡ seen.twice → AreNoted list seen → AreNoted (list ++ game ∷ []) new
noted_new list game seen games new inside unseen written twice h =
    let none : times_of list game ≡ 0 = Prim.grind (arith, nat_tests, h.each game inside) in
    let long = ap length written ∙ length-set seen.games.items game true in
    record {
      each = λ other low. ap (λ (bs : List Bool). get_or bs other false) written
          ∙ Prim.grind (
            arith,
            nat_tests,
            h.each other (omega arith),
            get_or-set_same seen.games.items game true false inside,
            get_or-set_other seen.games.items game other true false,
            times_more list game other,
          );
      least = subst (IsLeastDouble (list ++ game ∷ [])) (sym twice) (still_least list game seen.twice none h.least);
    }

pub noted_again : (list : List ℕ) (game : ℕ) (seen new : Seen) → game < length seen.games.items → get_or seen.games.items game false ≡ true →
    new.games.items ≡ seen.games.items → new.twice ≡ earlier seen.twice (Some game) → AreNoted list seen → AreNoted (list ++ game ∷ []) new
noted_again list game seen new inside was same twice h = record {
  each = λ other low.
      let long = ap length same in
      ap (λ (bs : List Bool). get_or bs other false) same
      ∙ Prim.grind (arith, nat_tests, h.each game inside, h.each other (omega arith), times_more list game other);
  least = rw twice (again_least list game seen.twice (Prim.grind (arith, nat_tests, h.each game inside)) h.least);
}

-- ---- the answers
pub once_each : (list : List ℕ) (seen : Seen) (game : ℕ) → game < length seen.games.items → AreNoted list seen → seen.twice ≡ None → get_or seen.games.items game false ≡ true → times_of list game ≡ 1
once_each list seen game inside h none was =
    let few = subst (IsLeastDouble list) none h.least game in
    Prim.grind (arith, nat_tests, h.each game inside)

-- A table and the rows of shares, number by number.
use Rattle.std.proofs.Common.{◌≡◌, ℕ, ◌+◌, ◌<◌, ◌≤◌, IfSome, Contains, arith, false, List, [], ◌∷◌, ◌++◌, Option, Some, None, refl, ap, sym, subst, ◌∙◌, add-one, append-nil}
use Rattle.table_shares.proofs.Common.{is_some, Contains-append_left, Happened, Known, IsLater, Keeps, TellsAt, least_at, IsAtMost, later_through, Row, Differs, first_at, stranger_in, shape_at, IsStranger, StandBelow, AgreeBelow, AreVisited, IfSome_then, AsksOnly, calls_through, calls_seen}
use Rattle.slot_table.specs.declared.entries.Happened.TheVariants as call
use Rattle.slot_table.proofs.Leasts.{marked_games}
use Rattle.table_shares.specs.Agreeing.{agreeing_firsts}
use Rattle.table_shares.proofs.Stood.{stand_more}

-- ---- one number
-- what asks for least games alone, and then again, and what asks nothing
pub asks_through : {O : Type 0} {n : ℕ} {one other third : Known O} → AsksOnly n one other → AsksOnly n other third → AsksOnly n one third
asks_through {n = n} {one = one} {other = other} {third = third} h k = calls_through n (λ _ _. ⊥) (λ _ _. ⊥) one other third h k

pub asks_seen : {O : Type 0} {n : ℕ} {old new : Known O} → IsLater n old [] new → AsksOnly n old new
asks_seen {n = n} {old = old} {new = new} later = calls_seen n (λ _ _. ⊥) (λ _ _. ⊥) old new later

-- ---- least games
-- what was asked up to this number and at it
asked_next : {O : Type 0} (n : ℕ) (rows : List Row) (number : ℕ) (first old new : Known O) (before : Option Differs) (of_table : Option ℕ) → is_some before ≡ false →
    IsLater n old (call.First number of_table ∷ []) new → AgreeBelow n rows number first old before → IsLater n first (agreeing_firsts rows number ++ call.First number of_table ∷ []) new
asked_next n rows number first old new None of_table none later h = later_through n first old new (agreeing_firsts rows number) (call.First number of_table ∷ []) h later
asked_next n rows number first old new (Some differs) of_table none later h = absurd cc

-- the answer agrees
pub agree_more : {O : Type 0} (n : ℕ) (rows : List Row) (number : ℕ) (first old new : Known O) (before : Option Differs) (of_table : Option ℕ) → is_some before ≡ false →
    IsLater n old (call.First number of_table ∷ []) new → of_table ≡ first_at rows number → AgreeBelow n rows number first old before → AgreeBelow n rows (number + 1) first new before
agree_more n rows number first old new None of_table none later same h =
    subst (λ k. IsLater n first (agreeing_firsts rows k) new) (sym (add-one number))
    (subst (λ o. IsLater n first (agreeing_firsts rows number ++ call.First number o ∷ []) new) same
    (asked_next n rows number first old new None of_table none later h))
agree_more n rows number first old new (Some differs) of_table none later same h = absurd cc

-- what a least game is, some call marked
least_marked : (number : ℕ) (seen : List Happened) (of_table : Option ℕ) → of_table ≡ least_at number seen → IfSome of_table (λ game. Contains seen (call.Marked number game))
least_marked number seen None is = tt
least_marked number seen (Some game) is =
    let was = (marked_games number game seen).0 (subst (λ o. IsAtMost o game) is (omega arith)) in
    let least : game ≤ was.0 = subst (λ o. IsAtMost o was.0) (sym is) ((marked_games number was.0 seen).1 (was.0, (let low : was.0 ≤ was.0 = omega arith in low), was.2)) in
    let same : was.0 ≡ game = omega arith in
    subst (λ g. Contains seen (call.Marked number g)) same was.2

-- and what was marked is so in what is seen later
still_marked : {O : Type 0} (n number : ℕ) (made : List Happened) (old new : Known O) (of_table : Option ℕ) → IsLater n old made new →
    IfSome of_table (λ game. Contains old.seen (call.Marked number game)) → IfSome of_table (λ game. Contains new.seen (call.Marked number game))
still_marked n number made old new of_table later h =
    IfSome_then of_table h (λ game was. subst (λ (seen : List Happened). Contains seen (call.Marked number game)) (sym later.begins.1) (Contains-append_left old.seen later.begins.0 (call.Marked number game) was))

-- and where it does not
pub differs_here : {O : Type 0} (n : ℕ) (rows : List Row) (number high : ℕ) (first old new : Known O) (before : Option Differs) (of_shares of_table : Option ℕ) → is_some before ≡ false →
    IsLater n old (call.First number of_table ∷ []) new → of_table ≡ least_at number new.seen → number < n → of_shares ≡ first_at rows number → (of_shares ≡ of_table → ⊥) → AgreeBelow n rows number first old before →
    AgreeBelow n rows high first new (Some (record { number = number; of_shares = of_shares; of_table = of_table }))
differs_here n rows number high first old new before of_shares of_table none later is inside shares differ h =
    let all = asked_next n rows number first old new before of_table none later h in
    (inside, shares, differ, all, (λ game at_most. subst (λ o. IsAtMost o game) (sym is) (all.keeps.marks number game at_most)), least_marked number new.seen of_table is)

-- a look asks nothing
looked : {O : Type 0} (n : ℕ) (rows : List Row) (high : ℕ) (first old new : Known O) (differs : Option Differs) → IsLater n old [] new →
    AgreeBelow n rows high first old differs → AgreeBelow n rows high first new differs
looked n rows high first old new None later h =
    let made = agreeing_firsts rows high in
    subst (λ (m : List Happened). IsLater n first m new) (append-nil made) (later_through n first old new made [] h later)
looked n rows high first old new (Some differs) later h =
    let made = agreeing_firsts rows differs.number ++ call.First differs.number differs.of_table ∷ [] in (
      h.0,
      h.1,
      h.2,
      subst (λ (m : List Happened). IsLater n first m new) (append-nil made) (later_through n first old new made [] h.3 later),
      h.4,
      still_marked n differs.number [] old new differs.of_table later h.5,
    )

-- ---- one number
pub stranger_found : {O : Type 0} {n : ℕ} {rows : List Row} {number : ℕ} {old look : Known O} →
    StandBelow n old.seen rows number → IsLater n old [] look → (held : ℕ) (found of_table stranger : Option ℕ) →
    found ≡ shape_at n look.seen number → of_table ≡ found → stranger ≡ Some held → stranger ≡ stranger_in rows number found →
    IsStranger n look.seen rows number (Some held) of_table
stranger_found {rows = rows} {number = number} h later held found of_table stranger told same some is = record {
  first = sym some ∙ is ∙ ap (stranger_in rows number) (sym same);
  some = (held, refl);
  table = same ∙ told;
  least = λ row among low. later.keeps.numbers row.shape row.number (h row among low);
}

-- a number without a stranger. The look at it changes nothing of what is known of lesser numbers
pub visited_more : {O : Type 0} {n : ℕ} {rows : List Row} {number : ℕ} {first old look new : Known O} {before after : Option Differs} →
    AreVisited n rows number first old before → IsLater n old [] look → (found : Option ℕ) → TellsAt n look.seen number found →
    stranger_in rows number found ≡ None → Keeps n look.seen new.seen →
    (AgreeBelow n rows number first look before → AgreeBelow n rows (number + 1) first new after) → AreVisited n rows (number + 1) first new after
visited_more {n = n} {rows = rows} {number = number} {first = first} {old = old} {look = look} {before = before} h later found told none keeps agree =
    let before_it = λ (row : Row) (among : Contains rows row) (low : row.number < number). later.keeps.numbers row.shape row.number (h.stand row among low) in
    let here = stand_more n look.seen rows number found told none before_it in
    record {
      stand = λ row among low. keeps.numbers row.shape row.number (here row among low);
      agree = agree (looked n rows number first old look before later h.agree);
    }

-- Two seats that are joined keep the rule, and the next load tells what both had seen and own.
use Rattle.std.proofs.Common.{◌≡◌, ◌≢◌, ℕ, ◌+◌, ◌^◌, ◌<◌, ◌≤◌, ◌⊎◌, nat_lt, if◌then◌else◌, Bool, true, false, List, [], ◌++◌, length, slice_set, Some, refl, sym, ◌∙◌, ap, subst, inl, inr, arith, length-append}
use Rattle.std.proofs.lemmas.Bool.{cases_eq, ltb-true, ltb-false}
use Rattle.std.proofs.lemmas.List.{append-nil, nil_from_length}
use mathlib.Core.Option.{some, some-injective}
use lib.ListN.{get_elem?}
use Rattle.atomic_table.proofs.Lists.{at_set, set_here, set_else}
use Rattle.atomic_table.specs.Table.{State, Joins}
use Rattle.slot_table.specs.declared.entries.Happened.{Happened}
use Rattle.slot_table.specs.declared.views.View.{View}
use Rattle.slot_table.specs.History.{Begins}
use Rattle.slot_table.specs.Places.{times, IsRising}
use Rattle.slot_table.specs.Places.{below, merged}
use Rattle.slot_table.specs.Stakes.{AreUpTo, weight, IsWhole}
use Rattle.slot_table.specs.Rule.{Kept, IsSpent, IsView, longer, shorter, joined, spent, times_owned, pieces_of}
use Rattle.slot_table.specs.Telling.{Loaded, Joined}
use Rattle.slot_table.proofs.Histories.{kept_since}
use Rattle.slot_table.proofs.Seating.{at_below}
use Rattle.slot_table.proofs.Owning.{times-merged, rising_higher, rising_once, rising-merged, owned_set, owned_apart, below_one}
use Rattle.slot_table.proofs.Staking.{up_to_parts, weight-append, joined_is_some, has_stake, weigh_set, up_to_at, up_to_set}

-- the longer and the shorter of two histories

either_by : (P : List Happened → Type 0) (a b : List Happened) (test : Bool) → P a → P b → P (if test then b else a)
either_by P a b true first second = second
either_by P a b false first second = first

longer_either : (P : List Happened → Type 0) (a b : List Happened) → P a → P b → P (longer a b)
longer_either P a b first second = either_by P a b (nat_lt (length a) (length b)) first second

shorter_either : (P : List Happened → Type 0) (a b : List Happened) → P a → P b → P (shorter a b)
shorter_either P a b first second = either_by P b a (nat_lt (length a) (length b)) second first

whole_is : (a log : List Happened) → Begins a log → length log ≤ length a → a ≡ log
whole_is a log b short =
    let l : length log ≡ length a + length b.0 = ap (λ (t : List Happened). length t) b.1 ∙ length-append a b.0
    in let none_more : b.0 ≡ [] = nil_from_length b.0 (omega (arith, l, short))
    in sym (b.1 ∙ ap (λ (t : List Happened). a ++ t) none_more ∙ append-nil a)

begins_shorter : (a log : List Happened) → Begins a log → length a ≤ length log
begins_shorter a log b =
    let l : length log ≡ length a + length b.0 = ap (λ (t : List Happened). length t) b.1 ∙ length-append a b.0 in omega (arith, l)

longest_by : (a b log : List Happened) → Begins a log → Begins b log → (a ≡ log) ⊎ (b ≡ log) → (test : Bool) → nat_lt (length a) (length b) ≡ test
    → (if test then b else a) ≡ log
longest_by a b log first second (inl e) true is =
    let short : length a < length b = ltb-true (length a) (length b) is
    in let le : length b ≤ length log = begins_shorter b log second
    in let same : length a ≡ length log = ap (λ (t : List Happened). length t) e
    in absurd (omega (arith, short, le, same))
longest_by a b log first second (inr e) true is = e
longest_by a b log first second (inl e) false is = e
longest_by a b log first second (inr e) false is =
    let le : length b ≤ length a = ltb-false (length a) (length b) is
    in let same : length b ≡ length log = ap (λ (t : List Happened). length t) e
    in whole_is a log first (omega (arith, le, same))

longest_of_both : (a b log : List Happened) → Begins a log → Begins b log → (a ≡ log) ⊎ (b ≡ log) → longer a b ≡ log
longest_of_both a b log first second one = longest_by a b log first second one (nat_lt (length a) (length b)) refl

begin_by : (a b log : List Happened) (test : Bool) → Begins (if test then b else a) log → Begins (if test then a else b) log → Begins a log × Begins b log
begin_by a b log true long short = (short, long)
begin_by a b log false long short = (long, short)

both_begin : (a b log : List Happened) → Begins (longer a b) log → Begins (shorter a b) log → Begins a log × Begins b log
both_begin a b log long short = begin_by a b log (nat_lt (length a) (length b)) long short

longer_by : (a b : List Happened) (test : Bool) → nat_lt (length a) (length b) ≡ test
    → (length a ≤ length (if test then b else a)) × (length b ≤ length (if test then b else a))
longer_by a b true is = let short : length a < length b = ltb-true (length a) (length b) is in (omega (arith, short), omega arith)
longer_by a b false is = let le : length b ≤ length a = ltb-false (length a) (length b) is in (omega arith, omega (arith, le))

longer_than : (a b : List Happened) → (length a ≤ length (longer a b)) × (length b ≤ length (longer a b))
longer_than a b = longer_by a b (nat_lt (length a) (length b)) refl

spent_is_spent : {O : Type 0} → IsSpent {O = O} spent
spent_is_spent = record { order = refl; seen = refl; mine = refl; stake = refl }

module _ {O : Type 0} (n : ℕ) (place : ℕ → ℕ → ℕ) (key : O) (words : List ℕ) (views : List (View O)) (kept : Kept n place key words views)
    (id other : ℕ) (v w : View O) (apart : other ≢ id) (at : get_elem? views id ≡ some v) (there : get_elem? views other ≡ some w) where
  -- all views afterwards
  abbrev after : List (View O)
  after = slice_set (slice_set views id (joined v w)) other spent

  joined_there : get_elem? after id ≡ some (joined v w)
  joined_there =
      set_else (slice_set views id (joined v w)) other id spent (λ e. apart (sym e)) ∙ set_here views id (joined v w) (at_below views id v at)

  others_stay : (seat : ℕ) → seat ≢ id → seat ≢ other → get_elem? after seat ≡ get_elem? views seat
  others_stay seat one two = set_else (slice_set views id (joined v w)) other seat spent two ∙ set_else views id seat (joined v w) one

  -- whoever has a view afterwards
  cases_after : (P : View O → Type 0) → P spent → P (joined v w) → ((seat : ℕ) (u : View O) → get_elem? views seat ≡ some u → P u)
      → (seat : ℕ) (u : View O) → get_elem? after seat ≡ some u → P u
  cases_after P of_spent of_joined of_others seat u e =
      elim (at_set (slice_set views id (joined v w)) other seat spent u e) [
        | inl t ↦ subst P t.1 of_spent
        | inr t ↦ elim (at_set views id seat (joined v w) u t.1) [
          | inl s ↦ subst P s.1 of_joined
          | inr s ↦ of_others seat u s.1
        ]
      ]

  first : Begins v.seen kept.log
  first = (kept.longest.begun id v at).0

  second : Begins w.seen kept.log
  second = (kept.longest.begun other w there).0

  apart_owned : (k : ℕ) → times k v.mine + times k w.mine ≤ 1
  apart_owned k =
      let le : times k v.mine + times k w.mine ≤ times_owned k views = owned_apart k views id other v w (λ e. apart (sym e)) at there
      in let is : times_owned k views ≡ below k (length kept.log) = kept.owned k
      in let one : below k (length kept.log) ≤ 1 = below_one k (length kept.log)
      in omega (arith, le, is, one)

  owned_after : (k : ℕ) → times_owned k after ≡ below k (length kept.log)
  owned_after k =
      let both : View O = joined v w
      in let one : times_owned k (slice_set views id both) + times k v.mine ≡ times_owned k views + times k both.mine = owned_set k views id v both at
      in let still : get_elem? (slice_set views id both) other ≡ some w = set_else views id other both apart ∙ there
      in let two : times_owned k (slice_set (slice_set views id both) other spent) + times k w.mine ≡ times_owned k (slice_set views id both) + 0 =
      owned_set k (slice_set views id both) other w spent still
      in let sum : times k both.mine ≡ times k v.mine + times k w.mine = times-merged k v.mine w.mine
      in let is : times_owned k views ≡ below k (length kept.log) = kept.owned k
      in omega (arith, one, two, sum, is)

  rises_after : IsRising 0 (merged v.mine w.mine) (length (longer v.seen w.seen))
  rises_after =
      rising-merged 0 v.mine w.mine (length (longer v.seen w.seen))
      (rising_higher 0 v.mine (length v.seen) (length (longer v.seen w.seen)) (longer_than v.seen w.seen).0 (kept.rises id v at))
      (rising_higher 0 w.mine (length w.seen) (length (longer v.seen w.seen)) (longer_than v.seen w.seen).1 (kept.rises other w there))
      apart_owned

  still_seen : (u : View O) × IsView after u × (u.seen ≡ kept.log)
  still_seen =
      let q : (u : View O) × IsView views u × (u.seen ≡ kept.log) = kept.longest.is_seen
      in let P : View O → Type 0 = λ u. u.seen ≡ kept.log
      in elim (cases_eq q.1.0 id) [
        | inl same ↦
            let is : q.0 ≡ v = some-injective q.0 v (sym q.1.1 ∙ ap (λ (s : ℕ). get_elem? views s) same ∙ at)
            in (joined v w, (id, joined_there), longest_of_both v.seen w.seen kept.log first second (inl (subst P is q.2)))
        | inr one ↦ elim (cases_eq q.1.0 other) [
          | inl same ↦
              let is : q.0 ≡ w = some-injective q.0 w (sym q.1.1 ∙ ap (λ (s : ℕ). get_elem? views s) same ∙ there)
              in (joined v w, (id, joined_there), longest_of_both v.seen w.seen kept.log first second (inr (subst P is q.2)))
          | inr two ↦ (q.0, (q.1.0, others_stay q.1.0 one two ∙ q.1.1), q.2)
        ]
      ]

  stakes_after : IsWhole (pieces_of after)
  stakes_after fine up =
      let both : View O = joined v w
      in let ups : AreUpTo fine v.stake × AreUpTo fine w.stake = up_to_parts fine v.stake w.stake (up_to_at fine after id both joined_there up)
      in let still : get_elem? (slice_set views id both) other ≡ some w = set_else views id other both apart ∙ there
      in let before : AreUpTo fine (pieces_of views) =
      up_to_set fine views id v both at ups.0 (up_to_set fine (slice_set views id both) other w spent still ups.1 up)
      in let one : weight fine (pieces_of (slice_set views id both)) + weight fine v.stake ≡ weight fine (pieces_of views) + weight fine (v.stake ++ w.stake) =
      weigh_set fine views id v both at
      in let two : weight fine (pieces_of after) + weight fine w.stake ≡ weight fine (pieces_of (slice_set views id both)) + 0 =
      weigh_set fine (slice_set views id both) other w spent still
      in let sum : weight fine (v.stake ++ w.stake) ≡ weight fine v.stake + weight fine w.stake = weight-append fine v.stake w.stake
      in let whole : weight fine (pieces_of views) ≡ 2 ^ fine = kept.stakes fine before
      in omega (arith, one, two, sum, whole)

  kept_by_join : v.order ≡ Some key → Kept n place key words after
  kept_by_join of = record {
    log = kept.log;
    longest = record {
      is_seen = still_seen;
      begun = cases_after (λ u. Begins u.seen kept.log × Begins u.met kept.log)
          ((kept.log, refl), (kept.log, refl))
          (longer_either (λ t. Begins t kept.log) v.seen w.seen first second, shorter_either (λ t. Begins t kept.log) v.seen w.seen first second)
          kept.longest.begun;
    };
    legal = kept.legal;
    whole = kept.whole;
    slots = kept.slots;
    small = kept.small;
    marks = kept.marks;
    placed = kept.placed;
    owned = owned_after;
    rises = cases_after (λ u. IsRising 0 u.mine (length u.seen)) (let le : 0 ≤ 0 = omega arith in le) rises_after kept.rises;
    orders = cases_after (λ u. (u.order ≡ Some key) ⊎ IsSpent u) (inr spent_is_spent) (inl of) kept.orders;
    stakes = stakes_after;
    staked = cases_after (λ u. (u.stake ≢ []) ⊎ IsSpent u) (inr spent_is_spent)
        (inl (joined_is_some v.stake w.stake (has_stake v key of (kept.staked id v at)))) kept.staked;
  }

pub join_allowed : {O : Type 0} (n : ℕ) (place : ℕ → ℕ → ℕ) (key : O) (id : ℕ) (v : View O) (other : ℕ) (w : View O) → v.order ≡ Some key
    → Joins (λ (s : State (Unit {0}) (View O)). Kept n place key s.words s.views) id v other w (joined v w) spent
join_allowed n place key id v other w of s kept at apart there =
    kept_by_join n place key s.words s.views kept id other v w apart at (sym (set_else s.views id other (joined v w) apart) ∙ there) of

-- the load that follows
pub joined_shows : {O : Type 0} (n p found : ℕ) (v w new : View O) → Loaded n p found (joined v w) new → Joined n v w new
joined_shows n p found v w new loaded =
    let seen_is : new.seen ≡ loaded.longest = loaded.grown.seen ∙ append-nil loaded.longest
    in let begun : Begins v.seen loaded.longest × Begins w.seen loaded.longest = both_begin v.seen w.seen loaded.longest loaded.grown.later loaded.grown.after_met
    in let sum : (k : ℕ) → times k new.mine ≡ times k v.mine + times k w.mine =
    λ k. ap (λ (t : List ℕ). times k t) (loaded.grown.mine ∙ append-nil (merged v.mine w.mine)) ∙ times-merged k v.mine w.mine
    in record {
      after_old = subst (λ (t : List Happened). Begins v.seen t) (sym seen_is) begun.0;
      after_other = subst (λ (t : List Happened). Begins w.seen t) (sym seen_is) begun.1;
      legal = loaded.grown.legal;
      keeps_old = kept_since n v.seen new.seen loaded.grown.legal (subst (λ (t : List Happened). Begins v.seen t) (sym seen_is) begun.0);
      keeps_other = kept_since n w.seen new.seen loaded.grown.legal (subst (λ (t : List Happened). Begins w.seen t) (sym seen_is) begun.1);
      mine = sum;
      apart = λ k. let once : times k new.mine ≤ 1 = rising_once k 0 new.mine (length new.seen) loaded.grown.rises in omega (arith, sum k, once);
      rises = loaded.grown.rises;
      stake = loaded.grown.stake;
      lone = loaded.grown.lone;
    }

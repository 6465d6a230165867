-- The steps of one call in a row: what the seat knows between two of them, and after the last one.
use Rattle.std.proofs.Common.{◌≡◌, ◌≢◌, ℕ, ◌+◌, ◌<◌, ◌⊎◌, ◌==◌, Bool, true, false, List, [], ◌∷◌, ◌++◌, length, refl, sym, ◌∙◌, ap, subst, inl, inr, arith}
use Rattle.std.proofs.lemmas.Bool.{eqb-false}
use Rattle.std.proofs.lemmas.List.{append-nil}
use Rattle.probe_core.specs.declared.calls.Call.{Call}
use Rattle.probe_core.specs.declared.calls.Call.TheVariants as call
use Rattle.probe_core.specs.declared.calls.Answer.{Answer}
use Rattle.probe_core.specs.declared.probes.Turn.TheVariants as turn
use Rattle.probe_core.specs.Probing.{Probing}
use Rattle.probe_core.specs.Turn.{turn_of}
use Rattle.probe_core.specs.Order.{IsOrder}
use Rattle.probe_core.specs.Machine.{Machine, Followed, Runs, Answers, code_of, follows, key_of, place_in}
use Rattle.slot_table.specs.declared.entries.Happened.{Happened}
use Rattle.slot_table.specs.declared.entries.Happened.TheVariants as entry
use Rattle.slot_table.specs.declared.views.View.{View}
use Rattle.slot_table.specs.History.{content_of, IsLegal, Begins, Tells}
use Rattle.slot_table.specs.Telling.{entries_of, places_from, PassedOthers, IsSearch, MaySwap, Grown, Called, Stepped}
use Rattle.slot_table.proofs.Histories.{begins_longer, begins_through, kept_since, last_answer_tells}
use Rattle.slot_table.proofs.Deciding.{passed_stays, passes_one}

-- what a turn says of what followed

pub turn_on : {O : Type 0} (order : O) (f : Followed) (probe : Probing O) → turn_of order f ≡ turn.On probe → (f ≡ Runs probe.machine) × (probe.order ≡ order)
turn_on {O = O} order (Runs machine) probe e =
    let same : ◌≡◌ {A = Probing O} (record { order = order; machine = machine }) probe = cc
    in (ap (λ (q : Probing O). Runs q.machine) same, sym (ap (λ (q : Probing O). q.order) same))
turn_on order (Answers a) probe e = cc

pub turn_done : {O : Type 0} (order : O) (f : Followed) (a : Answer) → turn_of order f ≡ turn.Done a → f ≡ Answers a
turn_done order (Runs machine) a e = cc
turn_done order (Answers b) a e = let same : b ≡ a = cc in ap Answers same

-- where a call goes on

abbrev Next : ℕ → Call → ℕ → ℕ → Machine → Type 0
Next n c i x next =
    ((record { call = c; index = i; swaps = true } ≡ next) × MaySwap c)
    ⊎ ((record { call = c; index = i + 1; swaps = false } ≡ next) × (x ≢ 0) × (x ≢ code_of (key_of c)) × (i + 1 ≢ n))

module _ (n i p x : ℕ) (next : Machine) where
  enter_loads_on : (key : ℕ) (b c d : Bool) → (x == 0) ≡ b → (x == code_of key) ≡ c → (i + 1 == n) ≡ d
      → follows n (record { call = call.Enter key; index = i; swaps = false }) p x ≡ Runs next → Next n (call.Enter key) i x next
  enter_loads_on key true c d e0 e1 e2 f = let g = rw e0 at f in inl (cc, tt)
  enter_loads_on key false true d e0 e1 e2 f = let g = rw (e0, e1) at f in cc
  enter_loads_on key false false true e0 e1 e2 f = let g = rw (e0, e1, e2) at f in cc
  enter_loads_on key false false false e0 e1 e2 f = let g = rw (e0, e1, e2) at f in inr (cc, eqb-false _ _ e0, eqb-false _ _ e1, eqb-false _ _ e2)

  swaps_on : (c : Call) (b c' d : Bool) → (x == 0) ≡ b → (x == code_of (key_of c)) ≡ c' → (i + 1 == n) ≡ d
      → follows n (record { call = c; index = i; swaps = true }) p x ≡ Runs next → Next n c i x next
  swaps_on c true c' d e0 e1 e2 f = let g = rw e0 at f in cc
  swaps_on c false true d e0 e1 e2 f = let g = rw (e0, e1) at f in cc
  swaps_on c false false true e0 e1 e2 f = let g = rw (e0, e1, e2) at f in cc
  swaps_on c false false false e0 e1 e2 f = let g = rw (e0, e1, e2) at f in inr (cc, eqb-false _ _ e0, eqb-false _ _ e1, eqb-false _ _ e2)

  look_up_on : (key : ℕ) (b c d : Bool) → (x == 0) ≡ b → (x == code_of key) ≡ c → (i + 1 == n) ≡ d
      → follows n (record { call = call.LookUp key; index = i; swaps = false }) p x ≡ Runs next → Next n (call.LookUp key) i x next
  look_up_on key true c d e0 e1 e2 f = let g = rw e0 at f in cc
  look_up_on key false true d e0 e1 e2 f = let g = rw (e0, e1) at f in cc
  look_up_on key false false true e0 e1 e2 f = let g = rw (e0, e1, e2) at f in cc
  look_up_on key false false false e0 e1 e2 f = let g = rw (e0, e1, e2) at f in inr (cc, eqb-false _ _ e0, eqb-false _ _ e1, eqb-false _ _ e2)

  call_on : (c : Call) (swaps : Bool) → follows n (record { call = c; index = i; swaps = swaps }) p x ≡ Runs next → Next n c i x next
  call_on c true f = swaps_on c _ _ _ refl refl refl f
  call_on (call.Enter key) false f = enter_loads_on key _ _ _ refl refl refl f
  call_on (call.LookUp key) false f = look_up_on key _ _ _ refl refl refl f

-- a seat has seen more, has made no call, and has the same stake
pub record Went {O : Type 0} (old new : View O) : Type 0 where
  pub later : Begins old.seen new.seen
  pub mine : new.mine ≡ old.mine
  pub stake : new.stake ≡ old.stake

pub went_through : {O : Type 0} (a b c : View O) → Went a b → Went b c → Went a c
went_through a b c first then = record { later = begins_through a.seen b.seen c.seen first.later then.later; mine = then.mine ∙ first.mine; stake = then.stake ∙ first.stake }

module _ {O : Type 0} (n : ℕ) (place : ℕ → ℕ → ℕ) (machine : Machine) (found : ℕ) (old new : View O)
    (stepped : Stepped n machine (place_in place machine) found old new) where
  -- a step that does not end its call
  module _ (next : Machine) (f : follows n machine (place_in place machine) found ≡ Runs next) where
    seen_is : new.seen ≡ stepped.longest
    seen_is = stepped.grown.seen ∙ ap (λ (t : Followed). stepped.longest ++ entries_of machine.call t) f ∙ append-nil stepped.longest

    pub went_on : Went old new
    went_on = record {
      later = subst (λ (t : List Happened). Begins old.seen t) (sym seen_is) stepped.grown.later;
      mine = stepped.grown.mine ∙ ap (λ (t : Followed). old.mine ++ places_from (length stepped.longest) (entries_of machine.call t)) f ∙ append-nil old.mine;
      stake = stepped.grown.stake;
    }

    pub search_goes_on : IsOrder n (place (key_of machine.call)) → IsSearch n place machine old.seen → IsSearch n place next new.seen × (next.call ≡ machine.call)
    search_goes_on order search =
        let key : ℕ = key_of machine.call
        in let legal : IsLegal n stepped.longest = subst (λ (t : List Happened). IsLegal n t) seen_is stepped.grown.legal
        in let passed : PassedOthers (place key) (content_of n stepped.longest) key machine.index =
        passed_stays n (place key) old.seen stepped.longest key machine.index legal stepped.grown.later search.passed
        in let P : Machine → Type 0 = λ m. IsSearch n place m new.seen × (m.call ≡ machine.call)
        in elim (call_on n machine.index (place_in place machine) found next machine.call machine.swaps f) [
          | inl q ↦ subst P q.0 (
            record {
              within = search.within;
              small = search.small;
              enters = λ e. q.1;
              passed = subst (λ (t : List Happened). PassedOthers (place key) (content_of n t) key machine.index) (sym seen_is) passed;
            },
            refl,
          )
          | inr q ↦
              let on : PassedOthers (place key) (content_of n stepped.longest) key (machine.index + 1) =
              passes_one n (place key) stepped.longest key machine.index (order.within machine.index search.within)
              (λ e. q.1 (stepped.shows ∙ e)) (λ e. q.2 (stepped.shows ∙ e)) passed
              in subst P q.0 (
                record {
                  within = let h : machine.index < n = search.within in let apart : machine.index + 1 ≢ n = q.3 in omega (arith, h, apart);
                  small = search.small;
                  enters = λ e. cc;
                  passed = subst (λ (t : List Happened). PassedOthers (place key) (content_of n t) key (machine.index + 1)) (sym seen_is) on;
                },
                refl,
              )
        ]

  -- a step that ends it
  pub ended : (a : Answer) → follows n machine (place_in place machine) found ≡ Answers a → Grown n old stepped.longest (entry.Asked machine.call a ∷ []) new
  ended a f = subst (λ (t : Followed). Grown n old stepped.longest (entries_of machine.call t) new) f stepped.grown

-- from the first step to the last
pub grown_through : {O : Type 0} (n : ℕ) (first old new : View O) (longest added : List Happened) → first.met ≡ [] → first.order ≡ old.order → Went first old
    → Grown n old longest added new → Grown n first longest added new
grown_through n first old new longest added met order went grown = record {
  later = begins_through first.seen old.seen longest went.later grown.later;
  after_met = (longest, ap (λ (t : List Happened). t ++ longest) (sym met));
  seen = grown.seen;
  legal = grown.legal;
  keeps = kept_since n first.seen new.seen grown.legal
      (subst (λ (t : List Happened). Begins first.seen t) (sym grown.seen) (begins_longer first.seen longest added (begins_through first.seen old.seen longest went.later grown.later)));
  mine = grown.mine ∙ ap (λ (t : List ℕ). t ++ places_from (length longest) added) went.mine;
  met = grown.met;
  order = grown.order ∙ sym order;
  rises = grown.rises;
  stake = grown.stake ∙ went.stake;
  lone = grown.lone;
}

-- what the answer of a call tells
pub called_tells : {O : Type 0} (n : ℕ) (old new : View O) (c : Call) (a : Answer) → Called n old (entry.Asked c a) new → Tells n new.seen c a
called_tells n old new c a called =
    subst (λ (t : List Happened). Tells n t c a) (sym called.1.seen)
    (last_answer_tells n called.0 c a (subst (λ (t : List Happened). IsLegal n t) called.1.seen called.1.legal))

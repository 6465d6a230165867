-- Each kind of step on a slot word keeps the rule, and tells what it is said to tell.
use Rattle.std.proofs.Common.{ap, ◌≡◌, ℕ, ◌*◌, ◌/◌, ◌^◌, ◌<◌, ◌≤◌, ◌==◌, Bool, true, false, List, [], ◌++◌, slice_set, slice_index, slice_index_or, Option, Some, refl, sym, ◌∙◌, subst, arith}
use Rattle.std.proofs.lemmas.List.{append-nil}
use mathlib.Core.Option.{none}
use prog.Atomic.{either}
use Rattle.atomic_table.specs.Table.{State, Me, keeps, Allows, step}
use Rattle.probe_core.specs.Order.{IsOrder}
use Rattle.probe_core.specs.declared.calls.Want.{Want}
use Rattle.probe_core.specs.declared.calls.Want.TheVariants as want
use Rattle.probe_core.specs.Machine.{Machine, code_of, follows, key_of, place_in, next_step}
use Rattle.slot_table.specs.declared.entries.Happened.{Happened}
use Rattle.slot_table.specs.declared.views.View.{View}
use Rattle.slot_table.specs.History.{content_of}
use Rattle.slot_table.specs.Rule.{slot_words, mark_words, Kept}
use Rattle.slot_table.specs.Telling.{entries_of, PassedOthers, IsSearch, Stepped, Loaded, told, looked}
use Rattle.slot_table.proofs.Deciding.{Sound, loaded, swapped, passed_stays}
use Rattle.slot_table.proofs.Seating.{grown_view, sound_of, kept_by_load, kept_by_slot, grown_by_step}
use Rattle.slot_table.proofs.Pairs.{slot_at}

same_order : {O : Type 0} (a b : O) (o : Option O) → o ≡ Some a → o ≡ Some b → a ≡ b
same_order a b o e f = let g : Some a ≡ Some b = sym e ∙ f in cc

-- what holds of an order and a number holds of the order of the same view, and of the same number
pub at_number : {O : Type 0} (P : O → ℕ → Type 0) (key other : O) (order : Option O) (p r : ℕ) → order ≡ Some key → order ≡ Some other → p ≡ r → P key p → P other r
at_number {O = O} P key other order p r of is same given =
    subst (λ (k : O). P k r) (same_order key other order of is) (subst (λ (i : ℕ). P key i) same given)

-- what a machine wants says whether it swaps, and where

loads_by : (machine : Machine) (p q : ℕ) (b : Bool) → machine.swaps ≡ b → next_step machine p ≡ want.Load q → (machine.swaps ≡ false) × (q ≡ p)
loads_by machine p q true is wants = let clash : want.Swap p (code_of (key_of machine.call)) ≡ want.Load q = rw is at wants in cc
loads_by machine p q false is wants = let same : want.Load p ≡ want.Load q = rw is at wants in (is, cc)

swaps_by : (machine : Machine) (p q v : ℕ) (b : Bool) → machine.swaps ≡ b → next_step machine p ≡ want.Swap q v
    → (machine.swaps ≡ true) × (q ≡ p) × (v ≡ code_of (key_of machine.call))
swaps_by machine p q v true is wants = let same : want.Swap p (code_of (key_of machine.call)) ≡ want.Swap q v = rw is at wants in (is, cc, cc)
swaps_by machine p q v false is wants = let clash : want.Load p ≡ want.Swap q v = rw is at wants in cc

-- what a probe wants is what its machine wants in the table's order
pub wanted : {O : Type 0} (place : O → ℕ → ℕ → ℕ) (order key : O) (machine m : Machine) (found given : Want) → found ≡ next_step machine (place_in (place order) machine)
    → order ≡ key → machine ≡ m → found ≡ given → next_step m (place_in (place key) m) ≡ given
wanted {O = O} place order key machine m found given wants same_key same_machine is =
    sym (wants ∙ ap (λ (o : O). next_step machine (place_in (place o) machine)) same_key ∙ ap (λ (k : Machine). next_step k (place_in (place key) k)) same_machine) ∙ is

module _ {O : Type 0} (exponent : O → ℕ) (place : ℕ → ℕ → ℕ) (key : O) (slots id : ℕ) (me : Me (Unit {0}) (View O)) (of : me.0.order ≡ Some key) where
  -- a load of a machine that loads
  load_allowed : (machine : Machine) → machine.swaps ≡ false → IsOrder (2 ^ exponent key) (place (key_of machine.call))
      → IsSearch (2 ^ exponent key) place machine me.0.seen
      → Allows (λ (s : State (Unit {0}) (View O)). Kept (2 ^ exponent key) place key s.words s.views) slots id me (2 * place_in place machine) (λ n. n)
      (told exponent machine (step slots (2 * place_in place machine) 0 0 none) me)
  load_allowed machine loads order search s kept homes at range =
      let n : ℕ = 2 ^ exponent key
      in let p : ℕ = place_in place machine
      in let words : List ℕ = slot_words s.words
      in let games : List ℕ = mark_words s.words
      in let x : ℕ = slice_index s.words (2 * p)
      in let same : x ≡ slice_index_or words p 0 = slot_at s.words p
      in let added : List Happened = entries_of machine.call (follows n machine p x)
      in let before : Sound n place words games kept.log = sound_of n place key s.words s.views kept id me.0 at
      in let passed : PassedOthers (place (key_of machine.call)) (content_of n kept.log) (key_of machine.call) machine.index =
      passed_stays n (place (key_of machine.call)) me.0.seen kept.log (key_of machine.call) machine.index kept.legal (kept.longest.begun id me.0 at).0 search.passed
      in let after : Sound n place words games (kept.log ++ added) =
      subst (λ (v : ℕ). Sound n place words games (kept.log ++ entries_of machine.call (follows n machine p v))) (sym same)
      (loaded n place words games kept.log before machine order search.within search.small search.enters passed loads)
      in let w : View O = grown_view me.0 kept.log added
      in let stepped : Stepped n machine p x me.0 w = record {
        longest = kept.log;
        grown = grown_by_step n place key s.words s.views kept id me.0 at added after.legal;
        shows = same ∙ kept.slots p (order.within machine.index search.within);
      }
      in (
        w,
        keeps,
        tt,
        kept_by_load n place key s.words s.views kept id me.0 at of (2 * p) added after,
        (refl, λ o e. at_number (λ k i. Stepped (2 ^ exponent k) machine i x me.0 w) key o me.0.order p (2 * p / 2) of e (omega arith) stepped),
      )

  -- a compare-exchange of a machine that swaps
  swap_allowed : (machine : Machine) (value : ℕ) → value ≡ code_of (key_of machine.call) → machine.swaps ≡ true → IsOrder (2 ^ exponent key) (place (key_of machine.call))
      → IsSearch (2 ^ exponent key) place machine me.0.seen
      → Allows (λ (s : State (Unit {0}) (View O)). Kept (2 ^ exponent key) place key s.words s.views) slots id me (2 * place_in place machine) (λ n. either (n == 0) value n)
      (told exponent machine (step slots (2 * place_in place machine) 0 value none) me)
  swap_allowed machine value is swaps order search s kept homes at range =
      let n : ℕ = 2 ^ exponent key
      in let p : ℕ = place_in place machine
      in let words : List ℕ = slot_words s.words
      in let games : List ℕ = mark_words s.words
      in let x : ℕ = slice_index s.words (2 * p)
      in let same : x ≡ slice_index_or words p 0 = slot_at s.words p
      in let added : List Happened = entries_of machine.call (follows n machine p x)
      in let before : Sound n place words games kept.log = sound_of n place key s.words s.views kept id me.0 at
      in let passed : PassedOthers (place (key_of machine.call)) (content_of n kept.log) (key_of machine.call) machine.index =
      passed_stays n (place (key_of machine.call)) me.0.seen kept.log (key_of machine.call) machine.index kept.legal (kept.longest.begun id me.0 at).0 search.passed
      in let after : Sound n place (slice_set words p (either (x == 0) value x)) games (kept.log ++ added) =
      subst (λ (v : ℕ). Sound n place (slice_set words p (either (v == 0) value v)) games (kept.log ++ entries_of machine.call (follows n machine p v))) (sym same)
      (rw is (swapped n place words games kept.log before machine order search.within search.small search.enters passed swaps))
      in let w : View O = grown_view me.0 kept.log added
      in let stepped : Stepped n machine p x me.0 w = record {
        longest = kept.log;
        grown = grown_by_step n place key s.words s.views kept id me.0 at added after.legal;
        shows = same ∙ kept.slots p (order.within machine.index search.within);
      }
      in (
        w,
        keeps,
        tt,
        kept_by_slot n place key s.words s.views kept id me.0 at of p (either (x == 0) value x) added after,
        (refl, λ o e. at_number (λ k i. Stepped (2 ^ exponent k) machine i x me.0 w) key o me.0.order p (2 * p / 2) of e (omega arith) stepped),
      )

  -- a load of a slot word that belongs to no call
  pub look_allowed : (p : ℕ) → p < 2 ^ exponent key
      → Allows (λ (s : State (Unit {0}) (View O)). Kept (2 ^ exponent key) place key s.words s.views) slots id me (2 * p) (λ n. n)
      (looked exponent (step slots (2 * p) 0 0 none) me)
  look_allowed p inside s kept homes at range =
      let n : ℕ = 2 ^ exponent key
      in let words : List ℕ = slot_words s.words
      in let games : List ℕ = mark_words s.words
      in let x : ℕ = slice_index s.words (2 * p)
      in let same : x ≡ slice_index_or words p 0 = slot_at s.words p
      in let before : Sound n place words games kept.log = sound_of n place key s.words s.views kept id me.0 at
      in let after : Sound n place words games (kept.log ++ []) = subst (λ (t : List Happened). Sound n place words games t) (sym (append-nil kept.log)) before
      in let w : View O = grown_view me.0 kept.log []
      in let loaded_is : Loaded n p x me.0 w = record {
        longest = kept.log;
        grown = grown_by_step n place key s.words s.views kept id me.0 at [] after.legal;
        shows = same ∙ kept.slots p inside;
        small = let le : slice_index_or words p 0 ≤ 2 ^ 51 = kept.small p inside in omega (arith, same, le);
      }
      in (
        w,
        keeps,
        tt,
        kept_by_load n place key s.words s.views kept id me.0 at of (2 * p) [] after,
        (refl, λ o e. at_number (λ k i. Loaded (2 ^ exponent k) i x me.0 w) key o me.0.order p (2 * p / 2) of e (omega arith) loaded_is),
      )

  -- the load that a machine wants
  pub wanted_load : (machine : Machine) (q : ℕ) → next_step machine (place_in place machine) ≡ want.Load q → IsOrder (2 ^ exponent key) (place (key_of machine.call))
      → IsSearch (2 ^ exponent key) place machine me.0.seen
      → (q < 2 ^ exponent key) × Allows (λ (s : State (Unit {0}) (View O)). Kept (2 ^ exponent key) place key s.words s.views) slots id me (2 * q) (λ n. n)
      (told exponent machine (step slots (2 * q) 0 0 none) me)
  wanted_load machine q wants order search =
      let w : (machine.swaps ≡ false) × (q ≡ place_in place machine) = loads_by machine (place_in place machine) q machine.swaps refl wants
      in let P : ℕ → Type 0 = λ r. (r < 2 ^ exponent key) × Allows (λ (s : State (Unit {0}) (View O)). Kept (2 ^ exponent key) place key s.words s.views) slots id me (2 * r) (λ n. n)
      (told exponent machine (step slots (2 * r) 0 0 none) me)
      in subst P (sym w.1) (order.within machine.index search.within, load_allowed machine w.0 order search)

  -- the compare-exchange that it wants
  pub wanted_swap : (machine : Machine) (q value : ℕ) → next_step machine (place_in place machine) ≡ want.Swap q value → IsOrder (2 ^ exponent key) (place (key_of machine.call))
      → IsSearch (2 ^ exponent key) place machine me.0.seen
      → (q < 2 ^ exponent key) × Allows (λ (s : State (Unit {0}) (View O)). Kept (2 ^ exponent key) place key s.words s.views) slots id me (2 * q) (λ n. either (n == 0) value n)
      (told exponent machine (step slots (2 * q) 0 value none) me)
  wanted_swap machine q value wants order search =
      let w : (machine.swaps ≡ true) × (q ≡ place_in place machine) × (value ≡ code_of (key_of machine.call)) = swaps_by machine (place_in place machine) q value machine.swaps refl wants
      in let P : ℕ → Type 0 = λ r. (r < 2 ^ exponent key) × Allows (λ (s : State (Unit {0}) (View O)). Kept (2 ^ exponent key) place key s.words s.views) slots id me (2 * r) (λ n. either (n == 0) value n)
      (told exponent machine (step slots (2 * r) 0 value none) me)
      in subst P (sym w.1) (order.within machine.index search.within, swap_allowed machine value w.2 w.0 order search)

-- What a step of a probe does to the words, and what the probe is told by it.
use Rattle.std.proofs.Common.{◌≡◌, ℕ, ◌^◌, List, slice_index_or, Bool, true, false, refl, ap, ◌∙◌, sym, subst}
use Rattle.probe_core.specs.declared.calls.Call.{Call}
use Rattle.probe_core.specs.declared.calls.Call.TheVariants as call
use Rattle.probe_core.specs.declared.calls.Answer.{Answer}
use Rattle.probe_core.specs.declared.probes.Turn.TheVariants as turn
use Rattle.probe_core.specs.Order.{IsOrder}
use Rattle.probe_core.specs.Machine.{Machine, Followed, Runs, Answers, key_of, follows, place_in, next_step, place_wanted}
use Rattle.probe_core.specs.Inner.Machine.{words_wanted}
use Rattle.probe_core.specs.Probing.{Probing}
use Rattle.probe_core.specs.Turn.{turn_of}
use Rattle.probe_core.specs.Sequential.{Table, Step}
use Rattle.probe_core.specs.Placing.{IsOrderly}
use Rattle.probe_core.specs.Showing.{table_of}
use Rattle.probe_core.specs.Way.{MaySwap, IsOnWay, GoesOnWay, Tells}
use Rattle.probe_core.specs.World.{words_after}
use Rattle.probe_core.proofs.Telling.{machine_at, step_tells, step_keeps_order}

-- what a wanted step does is what the machine's next step does
pub wanted_place : (asked : Call) (i : ℕ) (swaps : Bool) (p : ℕ) → place_wanted (next_step (machine_at asked i swaps) p) ≡ p
wanted_place asked i true p = refl
wanted_place asked i false p = refl

pub wanted_words : (words : List ℕ) (asked : Call) (i : ℕ) (swaps : Bool) (p : ℕ)
    → words_wanted words (next_step (machine_at asked i swaps) p) ≡ words_after words (machine_at asked i swaps) p
wanted_words words asked i true p = refl
wanted_words words asked i false p = refl

-- what a turn says of what follows
pub on_is : {O : Type 0} (order : O) (followed : Followed) (probe : Probing O) → turn.On probe ≡ turn_of order followed
    → (followed ≡ Runs probe.machine) × (probe.order ≡ order)
on_is order (Runs machine) probe e = let same : probe ≡ record { order = order; machine = machine } = cc in (ap (λ p. Runs p.machine) (sym same), ap (λ p. p.order) same)
on_is order (Answers found) probe e = absurd (cc)

pub done_is : {O : Type 0} (order : O) (followed : Followed) (found : Answer) → turn.Done found ≡ turn_of order followed → followed ≡ Answers found
done_is order (Runs machine) found e = absurd (cc)
done_is order (Answers other) found e = let same : found ≡ other = cc in ap Answers (sym same)

-- a table's words, and a probe that goes on its way over them in the table's order
pub record HasProbe {O : Type 0} (exponent : O → ℕ) (place_of : O → ℕ → ℕ → ℕ) (order : O) (words : List ℕ) (probe : Probing O) : Type 0 where
  pub is_order : (o : O) (key : ℕ) → IsOrder (2 ^ exponent o) (place_of o key)
  pub same : probe.order ≡ order
  pub orderly : IsOrderly (2 ^ exponent order) (place_of order) words
  pub way : IsOnWay (2 ^ exponent order) (place_of order) words probe.machine

-- the words after the probe's next step
abbrev pub words_past : {O : Type 0} → (O → ℕ → ℕ → ℕ) → List ℕ → Probing O → List ℕ
words_past place_of words probe = words_after words probe.machine (place_in (place_of probe.order) probe.machine)

-- what follows the probe's next step
abbrev pub followed_past : {O : Type 0} → (O → ℕ) → (O → ℕ → ℕ → ℕ) → List ℕ → Probing O → Followed
followed_past exponent place_of words probe =
    follows (2 ^ exponent probe.order) probe.machine (place_in (place_of probe.order) probe.machine)
    (slice_index_or words (place_in (place_of probe.order) probe.machine) 0)

-- the same at the probe's own order
at_own : {O : Type 0} (exponent : O → ℕ) (place_of : O → ℕ → ℕ → ℕ) (order : O) (words : List ℕ) (probe : Probing O)
    → HasProbe exponent place_of order words probe → HasProbe exponent place_of probe.order words probe
at_own {O} exponent place_of order words probe has =
    let P : O → Type 0 = λ o. IsOrderly (2 ^ exponent o) (place_of o) words
    in let Q : O → Type 0 = λ o. IsOnWay (2 ^ exponent o) (place_of o) words probe.machine
    in record {
      is_order = has.is_order;
      same = refl;
      orderly = subst P (sym has.same) has.orderly;
      way = subst Q (sym has.same) has.way;
    }

tells_own : {O : Type 0} (exponent : O → ℕ) (place_of : O → ℕ → ℕ → ℕ) (words : List ℕ) (probe : Probing O)
    → HasProbe exponent place_of probe.order words probe
    → Tells (2 ^ exponent probe.order) (place_of probe.order) words probe.machine (followed_past exponent place_of words probe)
tells_own exponent place_of words probe has =
    step_tells (2 ^ exponent probe.order) (place_of probe.order) words probe.machine
    (has.is_order probe.order (key_of probe.machine.call)) has.orderly has.way

-- a probe that goes on: it is on its way in the table's order, and the words are as they were
pub record HasGoneOn {O : Type 0} (exponent : O → ℕ) (place_of : O → ℕ → ℕ → ℕ) (order : O) (words after : List ℕ) (probe next : Probing O) : Type 0 where
  pub same_order : next.order ≡ order
  pub same_call : next.machine.call ≡ probe.machine.call
  pub way : IsOnWay (2 ^ exponent order) (place_of order) words next.machine
  pub still : after ≡ words

pub gone_on : {O : Type 0} (exponent : O → ℕ) (place_of : O → ℕ → ℕ → ℕ) (order : O) (words after : List ℕ) (probe next : Probing O)
    → HasProbe exponent place_of order words probe → after ≡ words_past place_of words probe
    → turn.On next ≡ turn_of probe.order (followed_past exponent place_of words probe)
    → HasGoneOn exponent place_of order words after probe next
gone_on {O} exponent place_of order words after probe next has writes turns =
    let m : Machine = probe.machine
    in let is : (followed_past exponent place_of words probe ≡ Runs next.machine) × (next.order ≡ probe.order) =
    on_is probe.order (followed_past exponent place_of words probe) next turns
    in let P : Followed → Type 0 = Tells (2 ^ exponent probe.order) (place_of probe.order) words m
    in let Q : O → Type 0 = λ o. IsOnWay (2 ^ exponent o) (place_of o) words next.machine
    in let goes : GoesOnWay (2 ^ exponent probe.order) (place_of probe.order) words m next.machine =
    subst P is.0 (tells_own exponent place_of words probe (at_own exponent place_of order words probe has))
    in record {
      same_order = is.1 ∙ has.same;
      same_call = goes.same;
      way = subst Q has.same goes.on_way;
      still = writes ∙ goes.still;
    }

-- a probe that ends: its answer is a step of the sequential table, and the words are orderly again
pub record HasEnded {O : Type 0} (exponent : O → ℕ) (place_of : O → ℕ → ℕ → ℕ) (order : O) (words after : List ℕ) (asked : Call) (found : Answer) : Type 0 where
  pub orderly : IsOrderly (2 ^ exponent order) (place_of order) after
  pub step : Step (table_of words) asked found (table_of after)

pub has_ended : {O : Type 0} (exponent : O → ℕ) (place_of : O → ℕ → ℕ → ℕ) (order : O) (words after : List ℕ) (probe : Probing O) (found : Answer)
    → HasProbe exponent place_of order words probe → after ≡ words_past place_of words probe
    → turn.Done found ≡ turn_of probe.order (followed_past exponent place_of words probe)
    → HasEnded exponent place_of order words after probe.machine.call found
has_ended {O} exponent place_of order words after probe found has writes turns =
    let m : Machine = probe.machine
    in let own : HasProbe exponent place_of probe.order words probe = at_own exponent place_of order words probe has
    in let is : followed_past exponent place_of words probe ≡ Answers found =
    done_is probe.order (followed_past exponent place_of words probe) found turns
    in let P : Followed → Type 0 = Tells (2 ^ exponent probe.order) (place_of probe.order) words m
    in let Q : O → Type 0 = λ o. IsOrderly (2 ^ exponent o) (place_of o) (words_past place_of words probe)
    in let R : List ℕ → Type 0 = λ l. IsOrderly (2 ^ exponent order) (place_of order) l
    in let S : List ℕ → Type 0 = λ l. Step (table_of words) m.call found (table_of l)
    in let kept : IsOrderly (2 ^ exponent probe.order) (place_of probe.order) (words_past place_of words probe) =
    step_keeps_order (2 ^ exponent probe.order) (place_of probe.order) words m
    (has.is_order probe.order (key_of m.call)) own.orderly own.way
    in record {
      orderly = subst R (sym writes) (subst Q has.same kept);
      step = subst S (sym writes) (subst P is (tells_own exponent place_of words probe own));
    }

-- a step of the sequential table under other names
pub step_as : (old older : Table) (asked again : Call) (found : Answer) (new newer : Table) → old ≡ older → asked ≡ again → new ≡ newer
    → Step old asked found new → Step older again found newer
step_as old older asked again found new newer o a n step =
    let P : Table → Type 0 = λ t. Step t asked found new
    in let Q : Call → Type 0 = λ c. Step older c found new
    in let R : Table → Type 0 = λ t. Step older again found t
    in subst R n (subst Q a (subst P o step))

-- a probe over words that are another name for these
pub has_probe : {O : Type 0} (exponent : O → ℕ) (place_of : O → ℕ → ℕ → ℕ) (order : O) (words now : List ℕ) (probe : Probing O)
    → ((o : O) (key : ℕ) → IsOrder (2 ^ exponent o) (place_of o key)) → now ≡ words → probe.order ≡ order
    → IsOrderly (2 ^ exponent order) (place_of order) words → IsOnWay (2 ^ exponent order) (place_of order) words probe.machine
    → HasProbe exponent place_of order now probe
has_probe exponent place_of order words now probe is_order lent same orderly way =
    let P : List ℕ → Type 0 = λ l. HasProbe exponent place_of order l probe
    in subst P (sym lent) (record { is_order = is_order; same = same; orderly = orderly; way = way })

-- a look-up leaves the words as they are
pub still_at : (words : List ℕ) (asked : Call) (i : ℕ) (swaps : Bool) (p key : ℕ) → asked ≡ call.LookUp key → MaySwap asked swaps
    → words_after words (machine_at asked i swaps) p ≡ words
still_at words (call.LookUp x) i false p key same may = refl
still_at words (call.LookUp x) i true p key same may = absurd may
still_at words (call.Enter x) i swaps p key same may = absurd (cc)

-- what a step of a probe did, said in the order of its table
pub past_words : {O : Type 0} (place_of : O → ℕ → ℕ → ℕ) (order : O) (words now after : List ℕ) (probe : Probing O) → now ≡ words → probe.order ≡ order
    → after ≡ words_past place_of now probe → after ≡ words_after words probe.machine (place_in (place_of order) probe.machine)
past_words place_of order words now after probe lent same writes =
    writes ∙ ap (λ l. words_past place_of l probe) lent
    ∙ ap (λ o. words_after words probe.machine (place_in (place_of o) probe.machine)) same

pub past_followed : {O : Type 0} (exponent : O → ℕ) (place_of : O → ℕ → ℕ → ℕ) (order : O) (words now : List ℕ) (probe : Probing O) → now ≡ words
    → probe.order ≡ order
    → follows (2 ^ exponent order) probe.machine (place_in (place_of order) probe.machine) (slice_index_or words (place_in (place_of order) probe.machine) 0)
    ≡ followed_past exponent place_of now probe
past_followed exponent place_of order words now probe lent same =
    ap (λ o. follows (2 ^ exponent o) probe.machine (place_in (place_of o) probe.machine) (slice_index_or words (place_in (place_of o) probe.machine) 0)) (sym same)
    ∙ ap (λ l. followed_past exponent place_of l probe) (sym lent)

-- Which calls a pass made, one after another.
use Rattle.std.proofs.Common.{ℕ, List, [], ◌∷◌, ◌++◌}
use Rattle.gather_core.proofs.Common.{All-from_recursion, All-weaker, recursion_from_All, AllByRecursion, Answer, Happened, Known, IsLater, IsCall, CallsOnly}
use Rattle.probe_core.specs.declared.calls.Call.TheVariants as asked
use Rattle.slot_table.specs.declared.entries.Happened.TheVariants as call
use Rattle.slot_table.proofs.Later.{later_self, later_through}

-- ---- which calls a pass made
pub both_all : {A : Type 0} (P : A → Type 0) (made more : List A) → AllByRecursion P made → AllByRecursion P more →
    AllByRecursion P (made ++ more)
both_all P [] more h k = k
both_all P (e ∷ made) more h k = (h.0, both_all P made more h.1 k)

weaker_call : (enters more : ℕ → Answer → Type 0) (marks others : ℕ → ℕ → Type 0) →
    ((key : ℕ) (found : Answer) → enters key found → more key found) →
    ((number game : ℕ) → marks number game → others number game) → (e : Happened) → IsCall enters marks e → IsCall more others e
weaker_call enters more marks others keys games (call.Asked (asked.Enter key) found) h = keys key found h
weaker_call enters more marks others keys games (call.Marked number game) h = games number game h
weaker_call enters more marks others keys games _ h = tt

-- what is seen without a call of one's own
pub calls_seen : {O : Type 0} (n : ℕ) (enters : ℕ → Answer → Type 0) (marks : ℕ → ℕ → Type 0) (old new : Known O) →
    IsLater n old [] new → CallsOnly n enters marks old new
calls_seen n enters marks old new later = record { made = []; later = later; only = tt }

pub calls_self : {O : Type 0} (n : ℕ) (enters : ℕ → Answer → Type 0) (marks : ℕ → ℕ → Type 0) (pass : Known O) →
    CallsOnly n enters marks pass pass
calls_self n enters marks pass = calls_seen n enters marks pass pass (later_self n pass)

pub calls_through : {O : Type 0} (n : ℕ) (enters : ℕ → Answer → Type 0) (marks : ℕ → ℕ → Type 0) (first old new : Known O) →
    CallsOnly n enters marks first old → CallsOnly n enters marks old new → CallsOnly n enters marks first new
calls_through n enters marks first old new before after = record {
  made = before.made ++ after.made;
  later = later_through n first old new before.made after.made before.later after.later;
  only = both_all (IsCall enters marks) before.made after.made before.only after.only;
}

pub calls_weaker : {O : Type 0} (n : ℕ) (enters more : ℕ → Answer → Type 0) (marks others : ℕ → ℕ → Type 0) (old new : Known O) →
    ((key : ℕ) (found : Answer) → enters key found → more key found) →
    ((number game : ℕ) → marks number game → others number game) → CallsOnly n enters marks old new →
    CallsOnly n more others old new
calls_weaker n enters more marks others old new keys games h =
    let P : Happened → Type 0 = IsCall enters marks in
    let each = All-weaker P (IsCall more others) (weaker_call enters more marks others keys games) h.made
    (All-from_recursion P h.made h.only) in
    record { made = h.made; later = h.later; only = recursion_from_All (IsCall more others) h.made each }

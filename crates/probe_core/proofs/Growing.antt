-- A history that grows keeps every pair of a number and its key.
use Rattle.std.proofs.Common.{◌≡◌, ◌≢◌, ℕ, List, [], ◌∷◌, length, slice_set, Some, None, ◌∙◌, sym, subst, inl, inr, arith}
use Rattle.std.proofs.lemmas.Bool.{cases_eq}
use Rattle.std.proofs.lemmas.List.{get_or-set_same, get_or-set_other, length-set}
use Rattle.probe_core.specs.declared.calls.Call.{Call}
use Rattle.probe_core.specs.declared.calls.Call.TheVariants as call
use Rattle.probe_core.specs.declared.calls.Answer.{Answer}
use Rattle.probe_core.specs.declared.calls.Answer.TheVariants as answer
use Rattle.probe_core.specs.Sequential.{Table, Step, IsNumber, IsFree}
use Rattle.probe_core.specs.History.{Answered, changed, content_from, IsRunFrom}

set_elsewhere : (table : Table) (x q key p : ℕ) → p ≢ q → IsNumber table key p → IsNumber (slice_set table q (Some x)) key p
set_elsewhere table x q key p apart number = record {
  within = let e : length (slice_set table q (Some x)) ≡ length table = length-set table q (Some x) in omega (arith, e, number.within);
  stands = get_or-set_other table q p (Some x) None apart ∙ number.stands;
}

set_again : (table : Table) (x key p : ℕ) → IsNumber table x p → IsNumber table key p → IsNumber (slice_set table p (Some x)) key p
set_again table x key p same number = record {
  within = let e : length (slice_set table p (Some x)) ≡ length table = length-set table p (Some x) in omega (arith, e, number.within);
  stands = get_or-set_same table p (Some x) None number.within ∙ sym same.stands ∙ number.stands;
}

not_free : (table : Table) (key p : ℕ) → IsFree table p → IsNumber table key p → ⊥
not_free table key p free number = let e : None ≡ Some key = sym free.free ∙ number.stands in cc

entered_keeps : (table : Table) (x q key p : ℕ) → Step table (call.Enter x) (answer.Number q) (slice_set table q (Some x))
    → IsNumber table key p → IsNumber (slice_set table q (Some x)) key p
entered_keeps table x q key p step number =
    elim (cases_eq p q) [
      | inl same ↦
          let P : ℕ → Type 0 = λ r. IsNumber table key r
          in let Q : ℕ → Type 0 = λ r. IsNumber (slice_set table q (Some x)) key r
          in let there : IsNumber table key q = subst P same number
          in elim step [
            | inl found ↦ subst Q (sym same) (set_again table x key q found.0 there)
            | inr added ↦ absurd (not_free table key q added.1 there)
          ]
      | inr apart ↦ set_elsewhere table x q key p apart number
    ]

step_keeps : (table : Table) (asked : Call) (found : Answer) (key p : ℕ) → Step table asked found (changed table asked found)
    → IsNumber table key p → IsNumber (changed table asked found) key p
step_keeps table (call.Enter x) (answer.Number q) key p step number = entered_keeps table x q key p step number
step_keeps table (call.Enter x) answer.Absent key p step number = number
step_keeps table (call.Enter x) answer.Full key p step number = number
step_keeps table (call.LookUp x) (answer.Number q) key p step number = number
step_keeps table (call.LookUp x) answer.Absent key p step number = number
step_keeps table (call.LookUp x) answer.Full key p step number = number

-- a number that a key has in a table is the key's after any run from that table
pub run_keeps : (table : Table) (history : List Answered) (key p : ℕ) → IsRunFrom table history → IsNumber table key p
    → IsNumber (content_from table history) key p
run_keeps table [] key p run number = number
run_keeps table (entry ∷ history) key p run number =
    run_keeps (changed table entry.call entry.answer) history key p run.1 (step_keeps table entry.call entry.answer key p run.0 number)

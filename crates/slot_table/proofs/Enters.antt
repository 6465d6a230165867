-- A key that the content shows at a number was entered, and the number was the answer.
use Rattle.std.proofs.Common.{◌≡◌, ◌⊎◌, ℕ, List, [], ◌∷◌, length, slice_set, slice_index_or, Contains, Some, None, sym, ◌∙◌, ap, subst, inl, inr, arith}
use Rattle.std.proofs.Math.ListN.{get_or-eq_default}
use Rattle.std.proofs.lemmas.Bool.{cases_eq, cases_lt}
use Rattle.std.proofs.lemmas.List.{get_or-set_same, get_or-set_other, length-set, get_or-replicate, length-replicate}
use Rattle.std.proofs.lemmas.List.Elements.{Contains-append_left, Contains-append_right, Contains-push}
use Rattle.probe_core.specs.declared.calls.Call.{Call}
use Rattle.probe_core.specs.declared.calls.Call.TheVariants as call
use Rattle.probe_core.specs.declared.calls.Answer.{Answer}
use Rattle.probe_core.specs.declared.calls.Answer.TheVariants as answer
use Rattle.probe_core.specs.Sequential.{Table, IsNumber}
use Rattle.probe_core.specs.History.{changed, content_from, empty_table}
use Rattle.slot_table.specs.declared.entries.Happened.{Happened}
use Rattle.slot_table.specs.declared.entries.Happened.TheVariants as entry
use Rattle.slot_table.specs.History.{asked_of, content_of}

-- the table shows this key at this number
abbrev Shows : Table → ℕ → ℕ → Type 0
Shows table key q = slice_index_or table q None ≡ Some key

set_shows : (table : Table) (p q x key : ℕ) → Shows (slice_set table p (Some x)) key q → Shows table key q ⊎ ((x ≡ key) × (p ≡ q))
set_shows table p q x key shown =
    elim (cases_eq q p) [
      | inl same ↦ elim (cases_lt p (length table)) [
        | inl inside ↦
            let here : slice_index_or (slice_set table p (Some x)) q None ≡ Some x = ap (λ (k : ℕ). slice_index_or (slice_set table p (Some x)) k None) same ∙ get_or-set_same table p (Some x) None inside
            in let one : Some x ≡ Some key = sym here ∙ shown
            in inr ((let is : x ≡ key = cc in is), sym same)
        | inr outside ↦
            let long : length (slice_set table p (Some x)) ≡ length table = length-set table p (Some x)
            in let none : slice_index_or (slice_set table p (Some x)) q None ≡ None = get_or-eq_default (slice_set table p (Some x)) None (omega (arith, long, outside, same))
            in let clash : None ≡ Some key = sym none ∙ shown in absurd cc
      ]
      | inr apart ↦ inl (sym (get_or-set_other table p q (Some x) None apart) ∙ shown)
    ]

changed_shows : (table : Table) (c : Call) (a : Answer) (key q : ℕ) → Shows (changed table c a) key q → Shows table key q ⊎ ((c ≡ call.Enter key) × (a ≡ answer.Number q))
changed_shows table (call.Enter x) (answer.Number p) key q shown =
    elim (set_shows table p q x key shown) [
      | inl before ↦ inl before
      | inr now ↦ inr (ap call.Enter now.0, ap answer.Number now.1)
    ]
changed_shows table (call.Enter x) answer.Absent key q shown = inl shown
changed_shows table (call.Enter x) answer.Full key q shown = inl shown
changed_shows table (call.LookUp x) (answer.Number p) key q shown = inl shown
changed_shows table (call.LookUp x) answer.Absent key q shown = inl shown
changed_shows table (call.LookUp x) answer.Full key q shown = inl shown

abbrev WasEntered : List Happened → ℕ → ℕ → Type 0
WasEntered history key q = Contains history (entry.Asked (call.Enter key) (answer.Number q))

first_there : (e : Happened) (history : List Happened) → Contains (e ∷ history) e
first_there e history = Contains-append_left (e ∷ []) history e (Contains-push [] e)

later_too : (e : Happened) (history : List Happened) (key q : ℕ) (table : Table) → Shows table key q ⊎ WasEntered history key q → Shows table key q ⊎ WasEntered (e ∷ history) key q
later_too e history key q table (inl before) = inl before
later_too e history key q table (inr was) = inr (Contains-append_right (e ∷ []) history (entry.Asked (call.Enter key) (answer.Number q)) was)

entered_from : (table : Table) (history : List Happened) (key q : ℕ) → Shows (content_from table (asked_of history)) key q → Shows table key q ⊎ WasEntered history key q
entered_from table [] key q shown = inl shown
entered_from table (entry.Asked c a ∷ history) key q shown =
    elim (entered_from (changed table c a) history key q shown) [
      | inl here ↦ elim (changed_shows table c a key q here) [
        | inl before ↦ inl before
        | inr now ↦ inr (subst (λ (x : Call). Contains (entry.Asked c a ∷ history) (entry.Asked x (answer.Number q))) now.0
            (subst (λ (x : Answer). Contains (entry.Asked c a ∷ history) (entry.Asked c x)) now.1 (first_there (entry.Asked c a) history)))
      ]
      | inr was ↦ inr (Contains-append_right (entry.Asked c a ∷ []) history (entry.Asked (call.Enter key) (answer.Number q)) was)
    ]
entered_from table (entry.Marked p g ∷ history) key q shown = later_too (entry.Marked p g) history key q table (entered_from table history key q shown)
entered_from table (entry.First p g ∷ history) key q shown = later_too (entry.First p g) history key q table (entered_from table history key q shown)

pub was_entered : (n : ℕ) (history : List Happened) (key number : ℕ) → IsNumber (content_of n history) key number → WasEntered history key number
was_entered n history key number is =
    elim (entered_from (empty_table n) history key number is.stands) [
      | inl shown ↦ elim (cases_lt number n) [
        | inl inside ↦ let clash : None ≡ Some key = sym (get_or-replicate n number None None inside) ∙ shown in absurd cc
        | inr outside ↦
            let long : length (empty_table n) ≡ n = length-replicate n None
            in let none : slice_index_or (empty_table n) number None ≡ None = get_or-eq_default (empty_table n) None (omega (arith, long, outside))
            in let clash : None ≡ Some key = sym none ∙ shown in absurd cc
      ]
      | inr was ↦ was
    ]

-- Legal histories put together, and what they keep.
use Rattle.std.proofs.Common.{◌≡◌, ◌≢◌, ℕ, zero, suc, ◌<◌, List, [], ◌∷◌, ◌++◌, length, Some, None, slice_index_or, slice_set, refl, ap, ◌∙◌, sym, subst, inl, inr, arith, add-one}
use Rattle.std.proofs.lemmas.Bool.{cases_eq, cases_lt}
use Rattle.std.proofs.lemmas.List.{get_or-set_same, get_or-set_other, length-set, length-replicate, length-map, get_or-replicate, get_or_past}
use Rattle.probe_core.specs.declared.calls.Call.{Call}
use Rattle.probe_core.specs.declared.calls.Call.TheVariants as call
use Rattle.probe_core.specs.declared.calls.Answer.{Answer}
use Rattle.probe_core.specs.declared.calls.Answer.TheVariants as answer
use Rattle.probe_core.specs.Machine.{code_of}
use Rattle.probe_core.specs.Sequential.{Table, Step, IsNumber, IsAbsent}
use Rattle.probe_core.specs.History.{Answered, changed, content, content_from, empty_table, IsRunFrom, IsLegal}
use Rattle.probe_core.specs.Placing.{HaveGrown}
use Rattle.probe_core.specs.Showing.{key_in, table_of}
use Rattle.probe_core.proofs.Telling.{shown, shows_some, step_is_change}
use Rattle.probe_core.proofs.Growing.{run_keeps}
use Rattle.probe_core.proofs.Soundness.{content_more, run_more}

-- a legal history and one more step
pub goes_on_legal : (n : ℕ) (history : List Answered) (entry : Answered) (new : Table) → IsLegal n history
    → Step (content n history) entry.call entry.answer new → IsLegal n (history ++ entry ∷ [])
goes_on_legal n history entry new legal step =
    let old : Table = content n history
    in let P : Table → Type 0 = λ t. Step old entry.call entry.answer t
    in run_more (empty_table n) history entry legal (subst P (step_is_change old entry.call entry.answer new step) step)

pub goes_on_content : (n : ℕ) (history : List Answered) (entry : Answered) (new : Table) → Step (content n history) entry.call entry.answer new
    → content n (history ++ entry ∷ []) ≡ new
goes_on_content n history entry new step =
    content_more (empty_table n) history entry ∙ sym (step_is_change (content n history) entry.call entry.answer new step)

-- the parts of a run
pub front_runs : (table : Table) (front rest : List Answered) → IsRunFrom table (front ++ rest) → IsRunFrom table front
front_runs table [] rest run = tt
front_runs table (entry ∷ front) rest run = (run.0, front_runs (changed table entry.call entry.answer) front rest run.1)

pub rest_runs : (table : Table) (front rest : List Answered) → IsRunFrom table (front ++ rest) → IsRunFrom (content_from table front) rest
rest_runs table [] rest run = run
rest_runs table (entry ∷ front) rest run = rest_runs (changed table entry.call entry.answer) front rest run.1

content_parts : (table : Table) (front rest : List Answered) → content_from table (front ++ rest) ≡ content_from (content_from table front) rest
content_parts table [] rest = refl
content_parts table (entry ∷ front) rest = content_parts (changed table entry.call entry.answer) front rest

pub numbers_kept : (n : ℕ) (front rest : List Answered) (key p : ℕ) → IsLegal n (front ++ rest) → IsNumber (content n front) key p
    → IsNumber (content n (front ++ rest)) key p
numbers_kept n front rest key p legal number =
    let P : Table → Type 0 = λ t. IsNumber t key p
    in subst P (sym (content_parts (empty_table n) front rest))
    (run_keeps (content n front) rest key p (rest_runs (empty_table n) front rest legal) number)

-- a word that is not free is that of a key
taken_word : (word : ℕ) → word ≢ 0 → (key : ℕ) × (word ≡ code_of key)
taken_word zero taken = absurd (taken refl)
taken_word (suc key) taken = (key, sym (add-one key))

-- words that show a history, and those that show a longer one
pub words_grew : (n : ℕ) (front rest : List Answered) (words later : List ℕ) → IsLegal n (front ++ rest) → content n front ≡ table_of words
    → content n (front ++ rest) ≡ table_of later → HaveGrown words later
words_grew n front rest words later legal before after p taken =
    let some : (key : ℕ) × (slice_index_or words p 0 ≡ code_of key) = taken_word (slice_index_or words p 0) taken
    in let key : ℕ = some.0
    in let inside : p < length words =
    elim (cases_lt p (length words)) [
      | inl within ↦ within
      | inr past ↦ absurd (taken (get_or_past words p 0 past))
    ]
    in let P : Table → Type 0 = λ t. IsNumber t key p
    in let number : IsNumber (table_of words) key p = record {
      within = omega (arith, length-map words key_in, inside);
      stands = shown words p ∙ ap key_in some.1 ∙ ap key_in (add-one key);
    }
    in let kept : IsNumber (table_of later) key p =
    subst P after (numbers_kept n front rest key p legal (subst P (sym before) number))
    in shows_some (slice_index_or later p 0) key (sym (shown later p) ∙ kept.stands) ∙ sym some.1

-- no key has two numbers
abbrev pub HasOneEach : Table → Type 0
HasOneEach table = (key p q : ℕ) → IsNumber table key p → IsNumber table key q → p ≡ q

number_before : (old : Table) (x r key p : ℕ) → p ≢ r → IsNumber (slice_set old r (Some x)) key p → IsNumber old key p
number_before old x r key p apart number = record {
  within = let e : length (slice_set old r (Some x)) ≡ length old = length-set old r (Some x) in omega (arith, e, number.within);
  stands = sym (get_or-set_other old r p (Some x) None apart) ∙ number.stands;
}

key_written : (old : Table) (x r key : ℕ) → IsNumber (slice_set old r (Some x)) key r → x ≡ key
key_written old x r key number =
    let e : length (slice_set old r (Some x)) ≡ length old = length-set old r (Some x)
    in let same : Some x ≡ Some key = sym (get_or-set_same old r (Some x) None (omega (arith, e, number.within))) ∙ number.stands
    in cc

one_each_added : (old : Table) (x r : ℕ) → IsAbsent old x → HasOneEach old → HasOneEach (slice_set old r (Some x))
one_each_added old x r absent one key p q at_p at_q =
    let P : ℕ → Type 0 = λ i. IsNumber (slice_set old r (Some x)) key i
    in let Q : ℕ → Type 0 = λ k. IsNumber old k p
    in let R : ℕ → Type 0 = λ k. IsNumber old k q
    in elim (cases_eq p r) [
      | inl same_p ↦
          elim (cases_eq q r) [
            | inl same_q ↦ same_p ∙ sym same_q
            | inr apart_q ↦
                absurd (absent q (subst R (sym (key_written old x r key (subst P same_p at_p))) (number_before old x r key q apart_q at_q)))
          ]
      | inr apart_p ↦
          elim (cases_eq q r) [
            | inl same_q ↦
                absurd (absent p (subst Q (sym (key_written old x r key (subst P same_q at_q))) (number_before old x r key p apart_p at_p)))
            | inr apart_q ↦ one key p q (number_before old x r key p apart_p at_p) (number_before old x r key q apart_q at_q)
          ]
    ]

one_each_after : (old : Table) (asked : Call) (found : Answer) (new : Table) → HasOneEach old → Step old asked found new → HasOneEach new
one_each_after old (call.Enter x) (answer.Number r) new one step =
    elim step [
      | inl known ↦ let P : Table → Type 0 = HasOneEach in subst P (sym known.1) one
      | inr added ↦ let P : Table → Type 0 = HasOneEach in subst P (sym added.2) (one_each_added old x r added.0 one)
    ]
one_each_after old (call.Enter x) answer.Absent new one step = absurd step
one_each_after old (call.Enter x) answer.Full new one step = let P : Table → Type 0 = HasOneEach in subst P (sym step.2) one
one_each_after old (call.LookUp x) (answer.Number r) new one step = let P : Table → Type 0 = HasOneEach in subst P (sym step.1) one
one_each_after old (call.LookUp x) answer.Absent new one step = let P : Table → Type 0 = HasOneEach in subst P (sym step.2) one
one_each_after old (call.LookUp x) answer.Full new one step = let P : Table → Type 0 = HasOneEach in subst P (sym step.2) one

one_each_run : (table : Table) (history : List Answered) → HasOneEach table → IsRunFrom table history → HasOneEach (content_from table history)
one_each_run table [] one run = one
one_each_run table (entry ∷ history) one run =
    one_each_run (changed table entry.call entry.answer) history
    (one_each_after table entry.call entry.answer (changed table entry.call entry.answer) one run.0) run.1

none_in_empty : (n key p : ℕ) → IsNumber (empty_table n) key p → ⊥
none_in_empty n key p number =
    let l : length (empty_table n) ≡ n = length-replicate n None
    in let none : None ≡ Some key = sym (get_or-replicate n p None None (omega (arith, l, number.within))) ∙ number.stands
    in cc

pub one_each_legal : (n : ℕ) (history : List Answered) → IsLegal n history → HasOneEach (content n history)
one_each_legal n history legal =
    one_each_run (empty_table n) history (λ key p q at_p at_q. absurd (none_in_empty n key p at_p)) legal

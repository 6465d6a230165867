-- Histories that grow: what becomes of their calls, their content and what makes them legal.
use Rattle.std.proofs.Common.{◌≡◌, ℕ, ◌^◌, ◌<◌, ◌≤◌, min, Bool, true, false, List, [], ◌∷◌, ◌++◌, ◌==◌, if◌then◌else◌, length, slice_set, Option, Some, None, refl, sym, ◌∙◌, ap, subst, inl, inr, append_assoc, arith}
use Rattle.std.proofs.lemmas.List.{get_or-set_same, length-set, length-replicate, append-nil}
use Rattle.probe_core.specs.declared.calls.Call.{Call}
use Rattle.probe_core.specs.declared.calls.Call.TheVariants as call
use Rattle.probe_core.specs.declared.calls.Answer.{Answer}
use Rattle.probe_core.specs.declared.calls.Answer.TheVariants as answer
use Rattle.probe_core.specs.Machine.{key_of}
use Rattle.probe_core.specs.Sequential.{Table, Step, IsNumber, IsAbsent, HasFree, IsFull}
use Rattle.probe_core.specs.History.{Answered, changed, content, content_from, empty_table, IsRunFrom}
use Rattle.probe_core.specs.History as keyed
use Rattle.probe_core.proofs.Histories.{goes_on_legal, rest_runs, numbers_kept}
use Rattle.probe_core.proofs.Soundness.{content_more}
use Rattle.slot_table.specs.declared.entries.Happened.{Happened}
use Rattle.slot_table.specs.declared.entries.Happened.TheVariants as entry
use Rattle.slot_table.specs.History.{asked_of, content_of, IsFirstAfter, AreFirstsAfter, IsWithin, AreWithin, IsLegal, Begins, lowered, least_from, least_at, Tells, IsAtMost, Keeps}

-- calls of two histories in a row

asked_of-append : (h k : List Happened) → asked_of (h ++ k) ≡ asked_of h ++ asked_of k
asked_of-append [] k = refl
asked_of-append (entry.Asked c a ∷ h) k = ap (λ (t : List Answered). record { call = c; answer = a } ∷ t) (asked_of-append h k)
asked_of-append (entry.Marked p g ∷ h) k = asked_of-append h k
asked_of-append (entry.First p g ∷ h) k = asked_of-append h k

firsts_snoc : (before h : List Happened) (e : Happened) → AreFirstsAfter before h → IsFirstAfter (before ++ h) e → AreFirstsAfter before (h ++ e ∷ [])
firsts_snoc before [] e firsts last = (subst (λ (t : List Happened). IsFirstAfter t e) (append-nil before) last, tt)
firsts_snoc before (x ∷ h) e firsts last =
    (firsts.0, firsts_snoc (before ++ x ∷ []) h e firsts.1 (subst (λ (t : List Happened). IsFirstAfter t e) (sym (append_assoc before (x ∷ []) h)) last))

pub last_first : (before h : List Happened) (e : Happened) → AreFirstsAfter before (h ++ e ∷ []) → IsFirstAfter (before ++ h) e
last_first before [] e firsts = subst (λ (t : List Happened). IsFirstAfter t e) (sym (append-nil before)) firsts.0
last_first before (x ∷ h) e firsts =
    subst (λ (t : List Happened). IsFirstAfter t e) (append_assoc before (x ∷ []) h) (last_first (before ++ x ∷ []) h e firsts.1)

within_snoc : (n : ℕ) (h : List Happened) (e : Happened) → AreWithin n h → IsWithin n e → AreWithin n (h ++ e ∷ [])
within_snoc n [] e within last = (last, tt)
within_snoc n (x ∷ h) e within last = (within.0, within_snoc n h e within.1 last)

-- the content has a place for each number

length-changed : (table : Table) (c : Call) (a : Answer) → length (changed table c a) ≡ length table
length-changed table (call.Enter key) (answer.Number p) = length-set table p (Some key)
length-changed table (call.Enter key) answer.Absent = refl
length-changed table (call.Enter key) answer.Full = refl
length-changed table (call.LookUp key) (answer.Number p) = refl
length-changed table (call.LookUp key) answer.Absent = refl
length-changed table (call.LookUp key) answer.Full = refl

length-content_from : (table : Table) (h : List Answered) → length (content_from table h) ≡ length table
length-content_from table [] = refl
length-content_from table (e ∷ h) = length-content_from (changed table e.call e.answer) h ∙ length-changed table e.call e.answer

pub length-content : (n : ℕ) (h : List Happened) → length (content_of n h) ≡ n
length-content n h = length-content_from (empty_table n) (asked_of h) ∙ length-replicate n None

-- a history with one more call on a key

pub content_snoc : (n : ℕ) (h : List Happened) (c : Call) (a : Answer) → content_of n (h ++ entry.Asked c a ∷ []) ≡ changed (content_of n h) c a
content_snoc n h c a =
    ap (content_from (empty_table n)) (asked_of-append h (entry.Asked c a ∷ []))
    ∙ content_more (empty_table n) (asked_of h) (record { call = c; answer = a })

pub legal_snoc : (n : ℕ) (h : List Happened) (c : Call) (a : Answer) → key_of c < 2 ^ 51 → IsLegal n h → Step (content_of n h) c a (changed (content_of n h) c a)
    → IsLegal n (h ++ entry.Asked c a ∷ [])
legal_snoc n h c a small legal step = record {
  run = subst (λ (t : List Answered). IsRunFrom (empty_table n) t) (sym (asked_of-append h (entry.Asked c a ∷ [])))
      (goes_on_legal n (asked_of h) (record { call = c; answer = a }) _ legal.run step);
  firsts = firsts_snoc [] h (entry.Asked c a) legal.firsts tt;
  within = within_snoc n h (entry.Asked c a) legal.within small;
}

-- a history with one more call that leaves the keys as they are

pub legal_more : (n : ℕ) (h : List Happened) (e : Happened) → asked_of (e ∷ []) ≡ [] → IsFirstAfter h e → IsWithin n e → IsLegal n h → IsLegal n (h ++ e ∷ [])
legal_more n h e none_asked last within legal = record {
  run = subst (λ (t : List Answered). IsRunFrom (empty_table n) t) (sym (asked_of-append h (e ∷ []) ∙ ap (λ (t : List Answered). asked_of h ++ t) none_asked ∙ append-nil (asked_of h))) legal.run;
  firsts = firsts_snoc [] h e legal.firsts last;
  within = within_snoc n h e legal.within within;
}

pub content_same : (n : ℕ) (h : List Happened) (e : Happened) → asked_of (e ∷ []) ≡ [] → content_of n (h ++ e ∷ []) ≡ content_of n h
content_same n h e none_asked =
    ap (λ (t : List Answered). content_from (empty_table n) t) (asked_of-append h (e ∷ []) ∙ ap (λ (t : List Answered). asked_of h ++ t) none_asked ∙ append-nil (asked_of h))

-- the least games of a history with one more call

pub least_from-append : (least : Option ℕ) (p : ℕ) (h k : List Happened) → least_from least p (h ++ k) ≡ least_from (least_from least p h) p k
least_from-append least p [] k = refl
least_from-append least p (entry.Asked c a ∷ h) k = least_from-append least p h k
least_from-append least p (entry.Marked q g ∷ h) k = least_from-append (if q == p then lowered least g else least) p h k
least_from-append least p (entry.First q g ∷ h) k = least_from-append least p h k

-- a number that a beginning of a legal history has is a number of it
pub number_stays : (n : ℕ) (seen log : List Happened) (key p : ℕ) → IsLegal n log → Begins seen log → IsNumber (content_of n seen) key p
    → IsNumber (content_of n log) key p
number_stays n seen log key p legal begins number =
    let calls : asked_of log ≡ asked_of seen ++ asked_of begins.0 = ap asked_of begins.1 ∙ asked_of-append seen begins.0
    in subst (λ (t : List Answered). IsNumber (content n t) key p) (sym calls)
    (numbers_kept n (asked_of seen) (asked_of begins.0) key p (subst (keyed.IsLegal n) calls legal.run) number)

-- beginnings

pub begins_itself : (h : List Happened) → Begins h h
begins_itself h = ([], sym (append-nil h))

pub begins_longer : (seen log more : List Happened) → Begins seen log → Begins seen (log ++ more)
begins_longer seen log more b = (b.0 ++ more, ap (λ (t : List Happened). t ++ more) b.1 ∙ append_assoc seen b.0 more)

pub begins_through : (a b c : List Happened) → Begins a b → Begins b c → Begins a c
begins_through a b c first next =
    (first.0 ++ next.0, next.1 ∙ ap (λ (t : List Happened). t ++ next.0) first.1 ∙ append_assoc a first.0 next.0)

-- least games only fall

lowered_stays : (least : Option ℕ) (game g : ℕ) → IsAtMost least game → IsAtMost (lowered least g) game
lowered_stays None game g at_most = absurd at_most
lowered_stays (Some h) game g at_most = let le : h ≤ game = at_most in let le' : min h g ≤ game = omega (arith, le) in le'

mark_stays : (least : Option ℕ) (game g : ℕ) (b : Bool) → IsAtMost least game → IsAtMost (if b then lowered least g else least) game
mark_stays least game g true at_most = lowered_stays least game g at_most
mark_stays least game g false at_most = at_most

pub marks_stay : (least : Option ℕ) (p game : ℕ) (h : List Happened) → IsAtMost least game → IsAtMost (least_from least p h) game
marks_stay least p game [] at_most = at_most
marks_stay least p game (entry.Asked c a ∷ h) at_most = marks_stay least p game h at_most
marks_stay least p game (entry.Marked q g ∷ h) at_most =
    marks_stay (if q == p then lowered least g else least) p game h (mark_stays least game g (q == p) at_most)
marks_stay least p game (entry.First q g ∷ h) at_most = marks_stay least p game h at_most

-- what stays of a beginning of a legal history
pub kept_since : (n : ℕ) (seen log : List Happened) → IsLegal n log → Begins seen log → Keeps n seen log
kept_since n seen log legal begins = record {
  numbers = λ key p number. number_stays n seen log key p legal begins number;
  marks = λ p game at_most. subst (λ (o : Option ℕ). IsAtMost o game)
      (sym (ap (λ (t : List Happened). least_at p t) begins.1 ∙ least_from-append None p seen begins.0))
      (marks_stay (least_at p seen) p game begins.0 at_most);
}

-- the last answer of a legal history tells of the table that it leaves

entered_number : (table : Table) (key p : ℕ) → Step table (call.Enter key) (answer.Number p) (slice_set table p (Some key)) → IsNumber (slice_set table p (Some key)) key p
entered_number table key p step =
    elim step [
      | inl found ↦ subst (λ (t : Table). IsNumber t key p) (sym found.1) found.0
      | inr added ↦ record {
        within = let e : length (slice_set table p (Some key)) ≡ length table = length-set table p (Some key) in omega (arith, e, added.1.within);
        stands = get_or-set_same table p (Some key) None added.1.within;
      }
    ]

numbered : (n : ℕ) (log : List Happened) (table : Table) (key p : ℕ) → content_of n log ≡ table → IsNumber table key p → (p < n) × IsNumber (content_of n log) key p
numbered n log table key p same number =
    let l : length (content_of n log) ≡ n = length-content n log
    in let here : IsNumber (content_of n log) key p = subst (λ (t : Table). IsNumber t key p) (sym same) number
    in (omega (arith, l, here.within), here)

tells_by_step : (n : ℕ) (log : List Happened) (table : Table) (c : Call) (a : Answer) → content_of n log ≡ changed table c a → Step table c a (changed table c a) → Tells n log c a
tells_by_step n log table (call.Enter key) (answer.Number p) same step = numbered n log (slice_set table p (Some key)) key p same (entered_number table key p step)
tells_by_step n log table (call.Enter key) answer.Absent same step = step
tells_by_step n log table (call.Enter key) answer.Full same step =
    subst (λ (t : Table). IsAbsent t key × IsFull t) (sym same) (step.0, step.1)
tells_by_step n log table (call.LookUp key) (answer.Number p) same step = numbered n log table key p same step.0
tells_by_step n log table (call.LookUp key) answer.Absent same step =
    subst (λ (t : Table). IsAbsent t key × HasFree t) (sym same) (step.0, step.1)
tells_by_step n log table (call.LookUp key) answer.Full same step =
    subst (λ (t : Table). IsAbsent t key × IsFull t) (sym same) (step.0, step.1)

pub last_answer_tells : (n : ℕ) (h : List Happened) (c : Call) (a : Answer) → IsLegal n (h ++ entry.Asked c a ∷ []) → Tells n (h ++ entry.Asked c a ∷ []) c a
last_answer_tells n h c a legal =
    let last : List Answered = record { call = c; answer = a } ∷ []
    in let run : IsRunFrom (empty_table n) (asked_of h ++ last) = subst (λ (t : List Answered). IsRunFrom (empty_table n) t) (asked_of-append h (entry.Asked c a ∷ [])) legal.run
    in tells_by_step n (h ++ entry.Asked c a ∷ []) (content_of n h) c a (content_snoc n h c a) (rest_runs (empty_table n) (asked_of h) last run).0

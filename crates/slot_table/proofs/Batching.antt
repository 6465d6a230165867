-- The calls of a batch on their way: what is known of each lasts while others go on, and the calls that were made add up.
use Rattle.std.proofs.Common.{◌≡◌, ◌≢◌, ℕ, zero, suc, ◌+◌, ◌-◌, ◌^◌, ◌<◌, ◌≤◌, ◌==◌, false, List, [], ◌∷◌, ◌++◌, length, slice_set, slice_index, take, length-take, drop, refl, sym, ◌∙◌, ap, subst, inl, inr, append_assoc, ne_eqb, arith}
use Rattle.std.proofs.lemmas.List.{append-nil, get_or-set_same, get_or-set_other, get_or-append-add, get_or_append_left, get_or-take, drop_all, take_all}
use Rattle.std.proofs.lemmas.Bool.{cases_eq, cases_lt}
use Rattle.std.specs.Prelude.{IsPermutation}
use Rattle.std.proofs.lemmas.List.Sorted.{IsPermutation-refl, IsPermutation-trans, IsPermutation-append, IsPermutation-append_left, IsPermutation-append_right, IsPermutation-append_comm}
use Rattle.probe_core.specs.declared.calls.Call.{Call}
use Rattle.probe_core.specs.declared.calls.Call.TheVariants as call
use Rattle.probe_core.specs.declared.calls.Answer.{Answer}
use Rattle.probe_core.specs.declared.calls.Answer.TheVariants as answer
use Rattle.probe_core.specs.declared.probes.Turn.TheVariants as turn
use Rattle.probe_core.specs.Order.{IsOrder}
use Rattle.probe_core.specs.Probing.{Probing}
use Rattle.probe_core.specs.Turn.{turn_of}
use Rattle.probe_core.specs.Machine.{Machine, Followed, Runs, Answers, code_of, follows, key_of, place_in}
use Rattle.slot_table.specs.declared.batches.Look.{Look}
use Rattle.slot_table.specs.declared.entries.Happened.{Happened}
use Rattle.slot_table.specs.declared.entries.Happened.TheVariants as entry
use Rattle.slot_table.specs.declared.views.View.{View}
use Rattle.slot_table.specs.History.{content_of, IsLegal, Begins, Tells}
use Rattle.slot_table.specs.Passes.{Known, IsLater}
use Rattle.slot_table.specs.Telling.{IsSearch, PassedOthers, Stepped, entries_of}
use Rattle.slot_table.specs.Batches.{entered, entered_as, answer_at, IsTold, AreMade, AreTold, IsFullBefore, AreEnteredUntil}
use Rattle.slot_table.specs.Inner.Batches.{loads_at, followed, HasFollowed, IsLooked, look_at, AreLooked, ended, rest_of, IsAnswerOf, IsPassed, AreChosen, ArePassed}
use Rattle.slot_table.proofs.Deciding.{passed_stays}
use Rattle.slot_table.proofs.Lasting.{tells_stay, told_stays}
use Rattle.slot_table.proofs.Later.{later_self, later_through}
use Rattle.slot_table.proofs.Searching.{turn_on, search_goes_on, ended as ended_by, called_tells}

-- how many slots a table has, by the order that contracts see
pub same_slots : {O : Type 0} (exponent : O → ℕ) (order of : O) (slots : ℕ) → order ≡ of → 2 ^ exponent order ≡ slots → 2 ^ exponent of ≡ slots
same_slots exponent order of slots same is = sym (ap (λ o. 2 ^ exponent o) same) ∙ is

-- what is known of a look lasts

followed_stays : (n : ℕ) (place : ℕ → ℕ → ℕ) (seen log : List Happened) (key : ℕ) (f : Followed) → IsLegal n log → Begins seen log
    → HasFollowed n place seen key f → HasFollowed n place log key f
followed_stays n place seen log key (Runs machine) legal begins known = (
  record {
    within = known.0.within;
    small = known.0.small;
    enters = known.0.enters;
    passed = passed_stays n (place (key_of machine.call)) seen log (key_of machine.call) machine.index legal begins known.0.passed;
  },
  known.1,
)
followed_stays n place seen log key (Answers a) legal begins known = tells_stay n seen log key a legal begins known

pub looked_stays : (n : ℕ) (place : ℕ → ℕ → ℕ) (seen log : List Happened) (key : ℕ) (look : Look) → IsLegal n log → Begins seen log
    → IsLooked n place seen key look → IsLooked n place log key look
looked_stays n place seen log key look legal begins looked = record {
  within = looked.within;
  next = followed_stays n place seen log key (followed n place key look) legal begins looked.next;
}

-- a look

looked_by : {O : Type 0} (n : ℕ) (place : ℕ → ℕ → ℕ) (key index found : ℕ) (old new : View O) (f : Followed) → IsOrder n (place key)
    → IsSearch n place (loads_at key index) old.seen → Stepped n (loads_at key index) (place key index) found old new
    → follows n (loads_at key index) (place key index) found ≡ f → HasFollowed n place new.seen key f
looked_by n place key index found old new (Runs machine) order search stepped is =
    search_goes_on n place (loads_at key index) found old new stepped machine is order search
looked_by n place key index found old new (Answers a) order search stepped is =
    called_tells n old new (call.Enter key) a (stepped.longest, ended_by n place (loads_at key index) found old new stepped a is)

pub look_tells : {O : Type 0} (n : ℕ) (place : ℕ → ℕ → ℕ) (key index found : ℕ) (old new : View O) → IsOrder n (place key)
    → IsSearch n place (loads_at key index) old.seen → Stepped n (loads_at key index) (place key index) found old new
    → IsLooked n place new.seen key (record { index = index; word = found })
look_tells n place key index found old new order search stepped = record {
  within = search.within;
  next = looked_by n place key index found old new (follows n (loads_at key index) (place key index) found) order search stepped refl;
}

-- a load of a key's Enter at a place after those that other keys hold
pub search_at : (n : ℕ) (place : ℕ → ℕ → ℕ) (key index : ℕ) (seen : List Happened) → index < n → key < 2 ^ 51
    → PassedOthers (place key) (content_of n seen) key index → IsSearch n place (loads_at key index) seen
search_at n place key index seen within small passed = record { within = within; small = small; enters = λ e. cc; passed = passed }

-- after a look that met another key the next place is loaded
passed_runs : (n : ℕ) (place : ℕ → ℕ → ℕ) (key : ℕ) (look : Look) → IsPassed n key look → followed n place key look ≡ Runs (loads_at key (look.index + 1))
passed_runs n place key look passed =
    let apart : look.index + 1 ≢ n = (let h : look.index + 1 < n = passed.more in λ e. omega (arith, h, e))
    in let e0 : (look.word == 0) ≡ false = ne_eqb look.word 0 passed.taken
    in let e1 : (look.word == code_of key) ≡ false = ne_eqb look.word (code_of key) passed.other
    in let e2 : (look.index + 1 == n) ≡ false = ne_eqb (look.index + 1) n apart
    in rw (e0, e1, e2) refl

pub next_search : (n : ℕ) (place : ℕ → ℕ → ℕ) (seen : List Happened) (key : ℕ) (look : Look) → IsPassed n key look → IsLooked n place seen key look
    → IsSearch n place (loads_at key (look.index + 1)) seen
next_search n place seen key look passed looked =
    (subst (λ (f : Followed). HasFollowed n place seen key f) (passed_runs n place key look passed) looked.next).0

-- what is known of the looks lasts, also where one is replaced
pub looks_stay : (n : ℕ) (place : ℕ → ℕ → ℕ) (seen log : List Happened) (keys : List ℕ) (looks : List Look) (count : ℕ) → IsLegal n log → Begins seen log
    → AreLooked n place seen keys looks count → AreLooked n place log keys looks count
looks_stay n place seen log keys looks count legal begins looked i h =
    looked_stays n place seen log (slice_index keys i) (look_at looks i) legal begins (looked i h)

pub looks_set : (n : ℕ) (place : ℕ → ℕ → ℕ) (seen : List Happened) (keys : List ℕ) (looks : List Look) (j : ℕ) (look : Look) (count : ℕ) → j < length looks
    → IsLooked n place seen (slice_index keys j) look → ((i : ℕ) → i < count → i ≢ j → IsLooked n place seen (slice_index keys i) (look_at looks i))
    → AreLooked n place seen keys (slice_set looks j look) count
looks_set n place seen keys looks j look count room one others i h =
    elim (cases_eq i j) [
      | inl same ↦ subst (λ (k : ℕ). IsLooked n place seen (slice_index keys k) (look_at (slice_set looks j look) k)) (sym same)
          (subst (λ (l : Look). IsLooked n place seen (slice_index keys j) l) (sym (get_or-set_same looks j look (record { index = 0; word = 0 }) room)) one)
      | inr apart ↦ subst (λ (l : Look). IsLooked n place seen (slice_index keys i) l) (sym (get_or-set_other looks j i look (record { index = 0; word = 0 }) apart)) (others i h apart)
    ]

-- calls that were made, and more

pub made_more : {O : Type 0} (n : ℕ) (calls more after : List Happened) (first old new : Known O) → AreMade n calls first old → IsLater n old more new
    → IsPermutation (calls ++ more) after → AreMade n after first new
made_more n calls more after first old new before later moved = record {
  made = before.made ++ more;
  later = later_through n first old new before.made more before.later later;
  each = IsPermutation-trans _ _ _ (IsPermutation-append_left more before.made calls before.each) moved;
}

pub made_none : {O : Type 0} (n : ℕ) (pass : Known O) → AreMade n [] pass pass
made_none n pass = record { made = []; later = later_self n pass; each = IsPermutation-refl [] }

pub made_through : {O : Type 0} (n : ℕ) (calls more : List Happened) (first old new : Known O) → AreMade n calls first old → AreMade n more old new
    → AreMade n (calls ++ more) first new
made_through n calls more first old new before after = record {
  made = before.made ++ after.made;
  later = later_through n first old new before.made after.made before.later after.later;
  each = IsPermutation-append _ _ _ _ before.each after.each;
}

-- the calls that have ended by looks

module _ (n : ℕ) (place : ℕ → ℕ → ℕ) where
  abbrev by : ℕ → Look → List Happened
  by key look = entries_of (call.Enter key) (followed n place key look)

  -- with a first look at one more key
  pub ended_more : (keys : List ℕ) (looks : List Look) (j : ℕ) (look : Look) → j < length keys → length keys ≤ length looks
      → ended n place (take (suc j) keys) (slice_set looks j look) ≡ ended n place (take j keys) looks ++ entries_of (call.Enter (slice_index keys j)) (followed n place (slice_index keys j) look)
  ended_more [] looks j look h long = absurd (omega (arith, h))
  ended_more (key ∷ keys) [] j look h long = absurd (omega (arith, long))
  ended_more (key ∷ keys) (x ∷ looks) zero look h long = append-nil (by key look)
  ended_more (key ∷ keys) (x ∷ looks) (suc j) look h long =
      ap (λ (t : List Happened). by key x ++ t) (ended_more keys looks j look (omega (arith, h)) (omega (arith, long)))
      ∙ sym (append_assoc (by key x) (ended n place (take j keys) looks) (by (slice_index keys j) look))

  pub ended_next : (keys : List ℕ) (looks : List Look) (j : ℕ) (look : Look) → j < length keys → length keys ≤ length looks
      → IsPermutation (ended n place (take j keys) looks ++ entries_of (call.Enter (slice_index keys j)) (followed n place (slice_index keys j) look)) (ended n place (take (j + 1) keys) (slice_set looks j look))
  ended_next keys looks j look h long =
      let on : j + 1 ≡ suc j = omega arith
      in subst (λ (t : List Happened). IsPermutation t (ended n place (take (j + 1) keys) (slice_set looks j look)))
      (ap (λ (k : ℕ). ended n place (take k keys) (slice_set looks j look)) on ∙ ended_more keys looks j look h long) (IsPermutation-refl _)

  -- with the next look of a key whose call has not ended
  pub ended_again : (keys : List ℕ) (looks : List Look) (j : ℕ) (look : Look) → j < length keys → length keys ≤ length looks
      → IsPassed n (slice_index keys j) (look_at looks j)
      → IsPermutation (ended n place keys looks ++ entries_of (call.Enter (slice_index keys j)) (followed n place (slice_index keys j) look)) (ended n place keys (slice_set looks j look))
  ended_again [] looks j look h long passed = absurd (omega (arith, h))
  ended_again (key ∷ keys) [] j look h long passed = absurd (omega (arith, long))
  ended_again (key ∷ keys) (x ∷ looks) zero look h long passed =
      let none : by key x ≡ [] = ap (λ (f : Followed). entries_of (call.Enter key) f) (passed_runs n place key x passed)
      in subst (λ (t : List Happened). IsPermutation ((t ++ ended n place keys looks) ++ by key look) (by key look ++ ended n place keys looks)) (sym none)
      (IsPermutation-append_comm (ended n place keys looks) (by key look))
  ended_again (key ∷ keys) (x ∷ looks) (suc j) look h long passed =
      subst (λ (t : List Happened). IsPermutation t (by key x ++ ended n place keys (slice_set looks j look)))
      (sym (append_assoc (by key x) (ended n place keys looks) (by (slice_index keys j) look)))
      (IsPermutation-append_right (by key x) _ _ (ended_again keys looks j look (omega (arith, h)) (omega (arith, long)) passed))

  -- from one key on
  pub ended_from : (keys : List ℕ) (looks : List Look) (j : ℕ) → j < length keys → length keys ≤ length looks
      → ended n place (drop j keys) (drop j looks) ≡ entries_of (call.Enter (slice_index keys j)) (followed n place (slice_index keys j) (look_at looks j)) ++ ended n place (drop (suc j) keys) (drop (suc j) looks)
  ended_from [] looks j h long = absurd (omega (arith, h))
  ended_from (key ∷ keys) [] j h long = absurd (omega (arith, long))
  ended_from (key ∷ keys) (x ∷ looks) zero h long = refl
  ended_from (key ∷ keys) (x ∷ looks) (suc j) h long = ended_from keys looks j (omega (arith, h)) (omega (arith, long))

-- the calls that have their answers

pub entered_more : (keys : List ℕ) (answers : List Answer) (j : ℕ) (a : Answer) → j < length keys → length keys ≡ length answers
    → entered (take (suc j) keys) (slice_set answers j a) ≡ entered (take j keys) answers ++ entered_as (slice_index keys j) a
entered_more [] answers j a h long = absurd (omega (arith, h))
entered_more (key ∷ keys) [] j a h long = absurd (omega (arith, long))
entered_more (key ∷ keys) (x ∷ answers) zero a h long = append-nil (entered_as key a)
entered_more (key ∷ keys) (x ∷ answers) (suc j) a h long =
    ap (λ (t : List Happened). entered_as key x ++ t) (entered_more keys answers j a (omega (arith, h)) (omega (arith, long)))
    ∙ sym (append_assoc (entered_as key x) (entered (take j keys) answers) (entered_as (slice_index keys j) a))

-- a call with an answer that tells something was entered with it
entered_is : (n : ℕ) (seen : List Happened) (key : ℕ) (a : Answer) → Tells n seen (call.Enter key) a → entry.Asked (call.Enter key) a ∷ [] ≡ entered_as key a
entered_is n seen key (answer.Number p) tells = refl
entered_is n seen key answer.Full tells = refl
entered_is n seen key answer.Absent tells = absurd tells

-- a call comes to its end
pub rest_moves : (n : ℕ) (place : ℕ → ℕ → ℕ) (seen : List Happened) (key : ℕ) (before after : List Happened) (f : Followed) (a : Answer)
    → HasFollowed n place seen key f → IsAnswerOf f a
    → IsPermutation ((before ++ (entries_of (call.Enter key) f ++ after)) ++ rest_of key f a) ((before ++ entered_as key a) ++ after)
rest_moves n place seen key before after (Runs machine) a known same =
    let one : List Happened = entered_as key a
    in subst (λ (t : List Happened). IsPermutation t ((before ++ one) ++ after)) (sym (append_assoc before after one))
    (subst (λ (t : List Happened). IsPermutation (before ++ (after ++ one)) t) (sym (append_assoc before one after))
    (IsPermutation-append_right before (after ++ one) (one ++ after) (IsPermutation-append_comm after one)))
rest_moves n place seen key before after (Answers b) a known same =
    let one : List Happened = entry.Asked (call.Enter key) b ∷ []
    in subst (λ (x : List Happened). IsPermutation ((before ++ (one ++ after)) ++ []) ((before ++ x) ++ after)) (entered_is n seen key b known ∙ ap (entered_as key) same)
    (subst (λ (t : List Happened). IsPermutation t ((before ++ one) ++ after)) (sym (append-nil (before ++ (one ++ after))))
    (subst (λ (t : List Happened). IsPermutation (before ++ (one ++ after)) t) (sym (append_assoc before one after)) (IsPermutation-refl _)))

-- two batches in a row

pub entered-append : (keys more : List ℕ) (answers others : List Answer) → length keys ≡ length answers
    → entered (keys ++ more) (answers ++ others) ≡ entered keys answers ++ entered more others
entered-append [] more [] others long = refl
entered-append [] more (x ∷ answers) others long = absurd (omega (arith, long))
entered-append (key ∷ keys) more [] others long = absurd (omega (arith, long))
entered-append (key ∷ keys) more (x ∷ answers) others long =
    ap (λ (t : List Happened). entered_as key x ++ t) (entered-append keys more answers others (omega (arith, long)))
    ∙ sym (append_assoc (entered_as key x) (entered keys answers) (entered more others))

-- what a probe is told of the last look says how the call goes on
pub told_runs : {O : Type 0} (exponent : O → ℕ) (place : O → ℕ → ℕ → ℕ) (probe next : Probing O) (order mine : O) (machine : Machine) (word : ℕ)
    → probe.order ≡ order → order ≡ mine → probe.machine ≡ machine
    → turn.On next ≡ turn_of probe.order (follows (2 ^ exponent probe.order) probe.machine (place_in (place probe.order) probe.machine) word)
    → follows (2 ^ exponent mine) machine (place_in (place mine) machine) word ≡ Runs next.machine
told_runs {O = O} exponent place probe next order mine machine word one two three told =
    let runs : follows (2 ^ exponent probe.order) probe.machine (place_in (place probe.order) probe.machine) word ≡ Runs next.machine =
    (turn_on probe.order (follows (2 ^ exponent probe.order) probe.machine (place_in (place probe.order) probe.machine) word) next (sym told)).0
    in subst (λ (m : Machine). follows (2 ^ exponent mine) m (place_in (place mine) m) word ≡ Runs next.machine) three
    (subst (λ (o : O). follows (2 ^ exponent o) probe.machine (place_in (place o) probe.machine) word ≡ Runs next.machine) (one ∙ two) runs)

pub rest_is : (n m : ℕ) (place : ℕ → ℕ → ℕ) (seen log : List Happened) (key : ℕ) (f : Followed) (machine : Machine) (a : Answer) → f ≡ Runs machine
    → HasFollowed n place seen key f → Tells m log machine.call a → entry.Asked machine.call a ∷ [] ≡ rest_of key f a
rest_is n m place seen log key f machine a is known tells =
    let same : machine.call ≡ call.Enter key = (subst (λ (g : Followed). HasFollowed n place seen key g) is known).1
    in subst (λ (g : Followed). entry.Asked machine.call a ∷ [] ≡ rest_of key g a) (sym is)
    (ap (λ (c : Call). entry.Asked c a ∷ []) same ∙ entered_is m log key a (subst (λ (c : Call). Tells m log c a) same tells))

-- the places after the one that was looked at again are left
pub passed_rest : {high : ℕ} (n : ℕ) (keys : List ℕ) (looks : List Look) (left : List ℕ) (i count : ℕ) (look : Look) → AreChosen high left count
    → ArePassed n keys looks left i count → i < count → ArePassed n keys (slice_set looks (slice_index left i) look) left (i + 1) count
passed_rest n keys looks left i count look chosen passed inside a from h =
    let rises : slice_index left i < slice_index left a = chosen.rises i a (omega (arith, from)) h
    in let apart : slice_index left a ≢ slice_index left i = λ e. omega (arith, e, rises)
    in subst (λ (l : Look). IsPassed n (slice_index keys (slice_index left a)) l)
    (sym (get_or-set_other looks (slice_index left i) (slice_index left a) look (record { index = 0; word = 0 }) apart)) (passed a (omega (arith, from)) h)

-- one more key has its answer
pub next_end : (n : ℕ) (place : ℕ → ℕ → ℕ) (keys : List ℕ) (looks : List Look) (answers : List Answer) (j : ℕ) (a : Answer) → j < length keys → length keys ≤ length looks
    → length keys ≡ length answers → (seen : List Happened) → IsLooked n place seen (slice_index keys j) (look_at looks j)
    → IsAnswerOf (followed n place (slice_index keys j) (look_at looks j)) a
    → IsPermutation ((entered (take j keys) answers ++ ended n place (drop j keys) (drop j looks)) ++ rest_of (slice_index keys j) (followed n place (slice_index keys j) (look_at looks j)) a)
    (entered (take (j + 1) keys) (slice_set answers j a) ++ ended n place (drop (j + 1) keys) (drop (j + 1) looks))
next_end n place keys looks answers j a h long room seen looked same =
    let on : suc j ≡ j + 1 = omega arith
    in let key : ℕ = slice_index keys j
    in let f : Followed = followed n place key (look_at looks j)
    in let before : List Happened = entered (take j keys) answers
    in let after : List Happened = ended n place (drop (suc j) keys) (drop (suc j) looks)
    in subst (λ (k : ℕ). IsPermutation ((before ++ ended n place (drop j keys) (drop j looks)) ++ rest_of key f a)
    (entered (take k keys) (slice_set answers j a) ++ ended n place (drop k keys) (drop k looks))) on
    (subst (λ (t : List Happened). IsPermutation ((before ++ t) ++ rest_of key f a) (entered (take (suc j) keys) (slice_set answers j a) ++ after)) (sym (ended_from n place keys looks j h long))
    (subst (λ (t : List Happened). IsPermutation ((before ++ (entries_of (call.Enter key) f ++ after)) ++ rest_of key f a) (t ++ after)) (sym (entered_more keys answers j a h room))
    (rest_moves n place seen key before after f a looked.next same)))

-- and it tells, as those before it
pub told_more : (n : ℕ) (seen log : List Happened) (keys : List ℕ) (answers : List Answer) (j : ℕ) (a : Answer) → j < length answers → IsLegal n log → Begins seen log
    → ((i : ℕ) → i < j → IsTold n seen (slice_index keys i) (answer_at answers i)) → IsTold n log (slice_index keys j) a
    → (i : ℕ) → i < j + 1 → IsTold n log (slice_index keys i) (answer_at (slice_set answers j a) i)
told_more n seen log keys answers j a room legal begins told last i h =
    elim (cases_eq i j) [
      | inl same ↦ subst (λ (k : ℕ). IsTold n log (slice_index keys k) (answer_at (slice_set answers j a) k)) (sym same)
          (subst (λ (x : Answer). IsTold n log (slice_index keys j) x) (sym (get_or-set_same answers j a answer.Absent room)) last)
      | inr apart ↦ subst (λ (x : Answer). IsTold n log (slice_index keys i) x) (sym (get_or-set_other answers j i a answer.Absent apart))
          (told_stays n seen log (slice_index keys i) (answer_at answers i) legal begins (told i (omega (arith, h, apart))))
    ]

-- a key is left after one for which no number was free
pub full_more : (answers : List Answer) (i j : ℕ) (a : Answer) → i ≤ j → IsFullBefore answers i → IsFullBefore (slice_set answers j a) i
full_more answers i j a low full = (full.0, full.1, get_or-set_other answers j full.0 a answer.Absent (omega (arith, full.1, low)) ∙ full.2)

pub full_here : (answers : List Answer) (j : ℕ) (a : Answer) → j < length answers → a ≡ answer.Full → IsFullBefore (slice_set answers j a) (j + 1)
full_here answers j a room full = (j, omega arith, get_or-set_same answers j a answer.Absent room ∙ full)

pub full_later : (answers : List Answer) (i j : ℕ) → i ≤ j → IsFullBefore answers i → IsFullBefore answers j
full_later answers i j low full = (full.0, omega (arith, full.1, low), full.2)

pub until_more : (answers : List Answer) (j : ℕ) (a : Answer) → j < length answers → AreEnteredUntil answers j → (a ≡ answer.Absent → IsFullBefore answers j)
    → AreEnteredUntil (slice_set answers j a) (j + 1)
until_more answers j a room until last i h absent =
    elim (cases_eq i j) [
      | inl same ↦ subst (λ (k : ℕ). IsFullBefore (slice_set answers j a) k) (sym same)
          (full_more answers j j a (omega arith) (last (sym (get_or-set_same answers j a answer.Absent room) ∙ ap (answer_at (slice_set answers j a)) (sym same) ∙ absent)))
      | inr apart ↦ full_more answers i j a (omega (arith, h)) (until i (omega (arith, h, apart)) (sym (get_or-set_other answers j i a answer.Absent apart) ∙ absent))
    ]

full_left : (answers others : List Answer) (i : ℕ) → i ≤ length answers → IsFullBefore answers i → IsFullBefore (answers ++ others) i
full_left answers others i low full = (full.0, full.1, get_or_append_left answers others answer.Absent full.0 (omega (arith, full.1, low)) ∙ full.2)

pub full_right : (answers others : List Answer) (i : ℕ) → IsFullBefore others i → IsFullBefore (answers ++ others) (length answers + i)
full_right answers others i full = (length answers + full.0, omega (arith, full.1), get_or-append-add answers others full.0 answer.Absent ∙ full.2)

pub until_through : (answers others : List Answer) (more : ℕ) → AreEnteredUntil answers (length answers) → AreEnteredUntil others more
    → AreEnteredUntil (answers ++ others) (length answers + more)
until_through answers others more one two i h absent =
    elim (cases_lt i (length answers)) [
      | inl low ↦ full_left answers others i (omega (arith, low)) (one i low (sym (get_or_append_left answers others answer.Absent i low) ∙ absent))
      | inr high ↦ (let is : length answers + (i - length answers) ≡ i = omega (arith, high) in
          subst (IsFullBefore (answers ++ others)) is (full_right answers others (i - length answers)
          (two (i - length answers) (omega (arith, h, high)) (sym (get_or-append-add answers others (i - length answers) answer.Absent) ∙ ap (answer_at (answers ++ others)) is ∙ absent))))
    ]

-- where Absent stands from a place on, the keys before it are those that were entered
pub entered_until : (keys : List ℕ) (answers others : List Answer) (start : ℕ) → length keys ≡ length answers → length others ≡ length answers
    → ((i : ℕ) → i < start → answer_at others i ≡ answer_at answers i) → ((i : ℕ) → start ≤ i → answer_at others i ≡ answer.Absent)
    → entered (take start keys) (take start answers) ≡ entered keys others
entered_until [] answers others zero long same before left = refl
entered_until [] answers others (suc start) long same before left = refl
entered_until (key ∷ keys) [] others start long same before left = absurd (omega (arith, long))
entered_until (key ∷ keys) (x ∷ answers) [] start long same before left = absurd (omega (arith, same))
entered_until (key ∷ keys) (x ∷ answers) (y ∷ others) zero long same before left =
    subst (λ (z : Answer). [] ≡ entered_as key z ++ entered keys others) (sym (left 0 (omega arith)))
    (entered_until keys answers others 0 (omega (arith, long)) (omega (arith, same)) (λ i h. absurd (omega (arith, h))) (λ i h. left (suc i) (omega arith)))
entered_until (key ∷ keys) (x ∷ answers) (y ∷ others) (suc start) long same before left =
    subst (λ (z : Answer). entered_as key x ++ entered (take start keys) (take start answers) ≡ entered_as key z ++ entered keys others) (sym (before 0 (omega arith)))
    (ap (λ (t : List Happened). entered_as key x ++ t)
    (entered_until keys answers others start (omega (arith, long)) (omega (arith, same)) (λ i h. before (suc i) (omega (arith, h))) (λ i h. left (suc i) (omega (arith, h)))))

-- the answers before a place are kept, and Absent stands after them
pub told_kept : (n : ℕ) (seen : List Happened) (keys : List ℕ) (answers others : List Answer) (start : ℕ)
    → ((i : ℕ) → i < start → answer_at others i ≡ answer_at answers i) → ((i : ℕ) → start ≤ i → answer_at others i ≡ answer.Absent)
    → AreTold n seen (take start keys) (take start answers) → AreTold n seen keys others
told_kept n seen keys answers others start before left told i inside =
    elim (cases_lt i start) [
      | inl low ↦ subst (IsTold n seen (slice_index keys i)) (sym (before i low))
          (rw (get_or-take start keys i 0 low, get_or-take start answers i answer.Absent low) at
          (told i (omega (arith, low, inside, length-take start keys))))
      | inr high ↦ subst (IsTold n seen (slice_index keys i)) (sym (left i high)) tt
    ]

full_kept : (answers others : List Answer) (start i : ℕ) → i ≤ start → ((j : ℕ) → j < start → answer_at others j ≡ answer_at answers j)
    → IsFullBefore (take start answers) i → IsFullBefore others i
full_kept answers others start i low before full =
    let inside : full.0 < start = omega (arith, full.1, low) in
    (full.0, full.1, before full.0 inside ∙ sym (get_or-take start answers full.0 answer.Absent inside) ∙ full.2)

pub until_kept : (answers others : List Answer) (start total : ℕ) → ((i : ℕ) → i < start → answer_at others i ≡ answer_at answers i)
    → AreEnteredUntil (take start answers) start → (start < total → IsFullBefore (take start answers) start) → AreEnteredUntil others total
until_kept answers others start total before until full i inside absent =
    elim (cases_lt i start) [
      | inl low ↦ full_kept answers others start i (omega (arith, low)) before
          (until i low (get_or-take start answers i answer.Absent low ∙ sym (before i low) ∙ absent))
      | inr high ↦ full_later others start i high (full_kept answers others start start (omega arith) before (full (omega (arith, high, inside))))
    ]

-- all have their answers
pub all_ended : (n : ℕ) (place : ℕ → ℕ → ℕ) (keys : List ℕ) (looks : List Look) (answers : List Answer) (j : ℕ) → length keys ≤ j
    → entered (take j keys) answers ++ ended n place (drop j keys) (drop j looks) ≡ entered keys answers
all_ended n place keys looks answers j all =
    ap (λ (t : List ℕ). entered (take j keys) answers ++ ended n place t (drop j looks)) (drop_all j keys all)
    ∙ append-nil (entered (take j keys) answers) ∙ ap (λ (t : List ℕ). entered t answers) (take_all j keys all)

told-append : (n : ℕ) (seen : List Happened) (keys more : List ℕ) (answers others : List Answer) → length keys ≡ length answers
    → AreTold n seen keys answers → AreTold n seen more others → (i : ℕ) → i < length (keys ++ more)
    → IsTold n seen (slice_index (keys ++ more) i) (answer_at (answers ++ others) i)
told-append n seen [] more [] others long one two i h = two i h
told-append n seen [] more (x ∷ answers) others long one two i h = absurd (omega (arith, long))
told-append n seen (key ∷ keys) more [] others long one two i h = absurd (omega (arith, long))
told-append n seen (key ∷ keys) more (x ∷ answers) others long one two zero h = one 0 (omega arith)
told-append n seen (key ∷ keys) more (x ∷ answers) others long one two (suc i) h =
    told-append n seen keys more answers others (omega (arith, long)) (λ j inside. one (suc j) (omega (arith, inside))) two i (omega (arith, h))

pub told_through : (n : ℕ) (seen log : List Happened) (keys more : List ℕ) (answers others : List Answer) → length keys ≡ length answers → IsLegal n log → Begins seen log
    → AreTold n seen keys answers → AreTold n log more others → AreTold n log (keys ++ more) (answers ++ others)
told_through n seen log keys more answers others long legal begins one two =
    told-append n log keys more answers others long (λ i h. told_stays n seen log (slice_index keys i) (answer_at answers i) legal begins (one i h)) two

pub entered_through : {O : Type 0} (n : ℕ) (keys more : List ℕ) (answers others : List Answer) (first old new : Known O) → length keys ≡ length answers
    → AreMade n (entered keys answers) first old → AreMade n (entered more others) old new → AreMade n (entered (keys ++ more) (answers ++ others)) first new
entered_through n keys more answers others first old new long before after =
    subst (λ (t : List Happened). AreMade n t first new) (sym (entered-append keys more answers others long))
    (made_through n (entered keys answers) (entered more others) first old new before after)

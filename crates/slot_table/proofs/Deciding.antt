-- What a step of a call makes of words and history: whatever it found, both still fit.
use Rattle.std.proofs.Common.{◌≡◌, ◌≢◌, ℕ, zero, suc, ◌+◌, ◌^◌, ◌<◌, ◌≤◌, ◌==◌, Bool, true, false, List, [], ◌∷◌, ◌++◌, length, slice_set, slice_index_or, Option, Some, None, refl, sym, ◌∙◌, ap, subst, inl, inr, arith}
use Rattle.std.specs.Prelude.{◌&&◌, if◌then◌else◌}
use Rattle.std.proofs.lemmas.Bool.{cases_eq, cond_both}
use prog.Atomic.{either}
use Rattle.std.proofs.lemmas.List.{set-get_or, append-nil}
use Rattle.probe_core.specs.declared.calls.Call.{Call}
use Rattle.probe_core.specs.declared.calls.Call.TheVariants as call
use Rattle.probe_core.specs.Order.{IsOrder}
use Rattle.probe_core.specs.Machine.{Machine, Followed, Runs, Answers, code_of, follows, key_of, place_in}
use Rattle.probe_core.specs.Placing.{HoldOthers, IsPlaced, IsOrderly}
use Rattle.probe_core.specs.Sequential.{Table, Step, IsNumber}
use Rattle.probe_core.specs.History.{changed, word_of}
use Rattle.probe_core.specs.Showing.{key_in, table_of}
use Rattle.probe_core.specs.Way.{IsOnWay, Tells}
use Rattle.probe_core.specs.Way as way
use Rattle.probe_core.specs.World.{words_after}
use Rattle.probe_core.proofs.Telling.{step_tells, step_keeps_order, step_is_change}
use Rattle.probe_core.proofs.Soundness.{shows_again, words_of_shown}
use Rattle.slot_table.specs.declared.entries.Happened.{Happened}
use Rattle.slot_table.specs.declared.entries.Happened.TheVariants as entry
use Rattle.slot_table.specs.History.{content_of, IsLegal, Begins}
use Rattle.slot_table.specs.Rule.{AreSlotWords, AreKeyWords, IsMarkWord, AreMarkWords}
use Rattle.slot_table.specs.Telling.{entries_of, PassedOthers, MaySwap}
use Rattle.slot_table.proofs.Histories.{length-content, content_snoc, legal_snoc, least_from-append, number_stays}

-- what the rule says of the words of slots, those of marks and the longest history
pub record Sound (n : ℕ) (place : ℕ → ℕ → ℕ) (words games : List ℕ) (log : List Happened) : Type 0 where
  pub legal : IsLegal n log
  pub whole : (length words ≡ n) × (length games ≡ n)
  pub slots : AreSlotWords n words (content_of n log)
  pub small : AreKeyWords n words
  pub marks : AreMarkWords n games log
  pub placed : IsPlaced n place words

-- words and numbers

other_of_word : (o : Option ℕ) (key : ℕ) → word_of o ≢ 0 → word_of o ≢ key + 1 → (x : ℕ) × (o ≡ Some x) × (x ≢ key)
other_of_word None key taken other = absurd (taken refl)
other_of_word (Some x) key taken other = (x, refl, λ e. other (ap (λ (y : ℕ). y + 1) e))

held_words : (n : ℕ) (words : List ℕ) (log : List Happened) → AreSlotWords n words (content_of n log) → (place : ℕ → ℕ) (key i : ℕ) → PassedOthers place (content_of n log) key i
    → HoldOthers place words key i
held_words n words log slots place key i passed j h =
    let q : (x : ℕ) × IsNumber (content_of n log) x (place j) × (x ≢ key) = passed j h
    in let l : length (content_of n log) ≡ n = length-content n log
    in let inside : place j < n = omega (arith, l, q.1.within)
    in let is : slice_index_or words (place j) 0 ≡ q.0 + 1 = slots (place j) inside ∙ ap word_of q.1.stands
    in record {
      taken = λ e. let zero_is : q.0 + 1 ≡ 0 = sym is ∙ e in omega (arith, zero_is);
      other = λ e. let code_is : q.0 + 1 ≡ key + 1 = sym is ∙ e in q.2 (omega (arith, code_is));
    }

-- places that other keys hold are held after all that followed
pub passed_stays : (n : ℕ) (place : ℕ → ℕ) (seen log : List Happened) (key i : ℕ) → IsLegal n log → Begins seen log
    → PassedOthers place (content_of n seen) key i → PassedOthers place (content_of n log) key i
passed_stays n place seen log key i legal begins passed j h =
    let q : (x : ℕ) × IsNumber (content_of n seen) x (place j) × (x ≢ key) = passed j h
    in (q.0, number_stays n seen log q.0 (place j) legal begins q.1, q.2)

-- a place more that another key holds
pub passes_one : (n : ℕ) (place : ℕ → ℕ) (log : List Happened) (key i : ℕ) → place i < n
    → word_of (slice_index_or (content_of n log) (place i) None) ≢ 0 → word_of (slice_index_or (content_of n log) (place i) None) ≢ code_of key
    → PassedOthers place (content_of n log) key i → PassedOthers place (content_of n log) key (i + 1)
passes_one n place log key i inside taken other passed j h =
    elim (cases_eq j i) [
      | inl same ↦
          let o : Option ℕ = slice_index_or (content_of n log) (place i) None
          in let q : (x : ℕ) × (o ≡ Some x) × (x ≢ key) = other_of_word o key taken other
          in let P : ℕ → Type 0 = λ k. (x : ℕ) × IsNumber (content_of n log) x (place k) × (x ≢ key)
          in let there : IsNumber (content_of n log) q.0 (place i) = record {
            within = let l : length (content_of n log) ≡ n = length-content n log in omega (arith, l, inside);
            stands = q.1;
          }
          in subst P (sym same) (q.0, there, q.2)
      | inr apart ↦ passed j (omega (arith, apart, h))
    ]

-- a table whose keys have these words is what the words show
shown_table : (words : List ℕ) (table : Table) → length words ≡ length table
    → ((p : ℕ) → p < length table → slice_index_or words p 0 ≡ word_of (slice_index_or table p None)) → table ≡ table_of words
shown_table [] [] e each = refl
shown_table [] (key ∷ table) e each = absurd (omega (arith, e))
shown_table (word ∷ words) [] e each = absurd (omega (arith, e))
shown_table (word ∷ words) (key ∷ table) e each =
    let first : word ≡ word_of key = each 0 (omega arith)
    in ap (λ k. k ∷ table) (sym (ap key_in first ∙ shows_again key))
    ∙ ap (λ t. key_in word ∷ t) (shown_table words table (omega (arith, e)) (λ p h. each (suc p) (omega (arith, h))))

-- words that are written stay those of keys
written : (words : List ℕ) (p w q : ℕ) → w ≤ 2 ^ 51 → slice_index_or words q 0 ≤ 2 ^ 51 → slice_index_or (slice_set words p w) q 0 ≤ 2 ^ 51
written [] p w q small before = before
written (x ∷ words) zero w zero small before = small
written (x ∷ words) zero w (suc q) small before = before
written (x ∷ words) (suc p) w zero small before = before
written (x ∷ words) (suc p) w (suc q) small before = written words p w q small before

-- a call that swaps only as an Enter
may_swap : (c : Call) (swaps : Bool) → (swaps ≡ true → MaySwap c) → way.MaySwap c swaps
may_swap (call.Enter key) swaps may = tt
may_swap (call.LookUp key) true may = absurd (may refl)
may_swap (call.LookUp key) false may = tt

-- the words after a step, by what they were at its place
words_swapped : (words : List ℕ) (p value : ℕ) (free : Bool) → (if free then slice_set words p value else words) ≡ slice_set words p (either free value (slice_index_or words p 0))
words_swapped words p value true = refl
words_swapped words p value false = sym (set-get_or words p 0)

module _ (n : ℕ) (place : ℕ → ℕ → ℕ) (words games : List ℕ) (log : List Happened) (sound : Sound n place words games log) where
  shown : content_of n log ≡ table_of words
  shown =
      let l : length (content_of n log) ≡ n = length-content n log
      in shown_table words (content_of n log) (sound.whole.0 ∙ sym l) (λ p h. sound.slots p (omega (arith, l, h)))

  -- no step writes a number that is no key
  keys_after : (machine : Machine) → key_of machine.call < 2 ^ 51 → AreKeyWords n (words_after words machine (place_in place machine))
  keys_after machine small =
      let p : ℕ = place_in place machine
      in let code : ℕ = code_of (key_of machine.call)
      in let P : List ℕ → Type 0 = λ ws. AreKeyWords n ws
      in cond_both (machine.swaps && (slice_index_or words p 0 == 0)) (slice_set words p code) words P
      (λ e q h. written words p code q (omega (arith, small)) (sound.small q h))
      (λ e. sound.small)

  -- what a step tells goes into the history
  told_fits : (machine : Machine) (followed : Followed) → key_of machine.call < 2 ^ 51 → Tells n place words machine followed
      → IsOrderly n place (words_after words machine (place_in place machine))
      → Sound n place (words_after words machine (place_in place machine)) games (log ++ entries_of machine.call followed)
  told_fits machine (Runs next) small goes orderly =
      subst (λ (ws : List ℕ). Sound n place ws games (log ++ [])) (sym goes.still)
      (subst (λ (t : List Happened). Sound n place words games t) (sym (append-nil log)) sound)
  told_fits machine (Answers found) small step orderly =
      let after : List ℕ = words_after words machine (place_in place machine)
      in let told : Step (content_of n log) machine.call found (table_of after) =
      subst (λ (t : Table). Step t machine.call found (table_of after)) (sym shown) step
      in let is : table_of after ≡ changed (content_of n log) machine.call found = step_is_change (content_of n log) machine.call found (table_of after) told
      in record {
        legal = legal_snoc n log machine.call found small sound.legal (subst (λ (t : Table). Step (content_of n log) machine.call found t) is told);
        whole = (orderly.whole, sound.whole.1);
        slots = λ p h. words_of_shown after _ (content_snoc n log machine.call found ∙ sym is) p;
        small = keys_after machine small;
        marks = λ p h.
            subst (λ (o : Option ℕ). IsMarkWord o (slice_index_or games p 0)) (sym (least_from-append None p log (entry.Asked machine.call found ∷ []))) (sound.marks p h);
        placed = orderly.placed;
      }

  module _ (machine : Machine) (order : IsOrder n (place (key_of machine.call))) (within : machine.index < n) (small : key_of machine.call < 2 ^ 51)
      (enters : machine.swaps ≡ true → MaySwap machine.call)
      (passed : PassedOthers (place (key_of machine.call)) (content_of n log) (key_of machine.call) machine.index) where
    stepped : Sound n place (words_after words machine (place_in place machine)) games
        (log ++ entries_of machine.call (follows n machine (place_in place machine) (slice_index_or words (place_in place machine) 0)))
    stepped =
        let orderly : IsOrderly n place words = record { whole = sound.whole.0; placed = sound.placed }
        in let on_way : IsOnWay n place words machine = record {
          within = within;
          passed = held_words n words log sound.slots (place (key_of machine.call)) (key_of machine.call) machine.index passed;
          swapping = may_swap machine.call machine.swaps enters;
        }
        in told_fits machine _ small (step_tells n place words machine order orderly on_way) (step_keeps_order n place words machine order orderly on_way)

    -- after a load
    pub loaded : machine.swaps ≡ false → Sound n place words games
        (log ++ entries_of machine.call (follows n machine (place_in place machine) (slice_index_or words (place_in place machine) 0)))
    loaded loads =
        let p : ℕ = place_in place machine
        in let P : List ℕ → Type 0 = λ ws. Sound n place ws games (log ++ entries_of machine.call (follows n machine p (slice_index_or words p 0)))
        in let still : words_after words machine p ≡ words =
        ap (λ b. if b && (slice_index_or words p 0 == 0) then slice_set words p (code_of (key_of machine.call)) else words) loads
        in subst P still stepped

    -- after a compare-exchange
    pub swapped : machine.swaps ≡ true
        → Sound n place (slice_set words (place_in place machine) (either (slice_index_or words (place_in place machine) 0 == 0) (code_of (key_of machine.call)) (slice_index_or words (place_in place machine) 0))) games
        (log ++ entries_of machine.call (follows n machine (place_in place machine) (slice_index_or words (place_in place machine) 0)))
    swapped swaps =
        let p : ℕ = place_in place machine
        in let code : ℕ = code_of (key_of machine.call)
        in let P : List ℕ → Type 0 = λ ws. Sound n place ws games (log ++ entries_of machine.call (follows n machine p (slice_index_or words p 0)))
        in let writes : words_after words machine p ≡ slice_set words p (either (slice_index_or words p 0 == 0) code (slice_index_or words p 0)) =
        ap (λ b. if b && (slice_index_or words p 0 == 0) then slice_set words p code else words) swaps
        ∙ words_swapped words p code (slice_index_or words p 0 == 0)
        in subst P writes stepped

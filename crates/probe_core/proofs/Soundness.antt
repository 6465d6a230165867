-- Each event keeps what makes a world lawful.
use Rattle.std.proofs.Common.{◌≡◌, ℕ, zero, suc, ◌+◌, ◌<◌, List, [], ◌∷◌, ◌++◌, replicate, Option, Some, None, slice_get, slice_index_or, slice_set, refl, ap, ◌∙◌, sym, subst, inl, inr, arith, add-one}
use Rattle.std.proofs.lemmas.Bool.{cases_eq}
use Rattle.std.proofs.lemmas.Option.{slice_get_within}
use Rattle.std.proofs.lemmas.List.{map-append, length-replicate}
use Rattle.probe_core.specs.declared.calls.Call.{Call}
use Rattle.probe_core.specs.declared.calls.Answer.{Answer}
use Rattle.probe_core.specs.declared.events.Event.{Event}
use Rattle.probe_core.specs.declared.events.Finished.{Finished}
use Rattle.probe_core.specs.Order.{IsOrder}
use Rattle.probe_core.specs.Machine.{Followed, Runs, Answers, begun, code_of, key_of}
use Rattle.probe_core.specs.Sequential.{Table, Step}
use Rattle.probe_core.specs.History.{Answered, changed, content, content_from, empty_table, IsRunFrom, IsLegal, AreWordsOf, word_of}
use Rattle.probe_core.specs.Placing.{IsOrderly}
use Rattle.probe_core.specs.Showing.{key_in, table_of, words_showing}
use Rattle.probe_core.specs.Way.{IsOnWay, GoesOnWay, Tells}
use Rattle.probe_core.specs.World.{World, Running, happened, counted, after_events, history_of, new_world}
use Rattle.probe_core.specs.Lawful.{AreTimed, AreRising, IsLawful}
use Rattle.probe_core.specs.Inner.Lawful.{AreOnWay, IsSound}
use Rattle.probe_core.proofs.Telling.{shown, may_load, step_tells, step_keeps_order, step_keeps_way, step_is_change}
use Rattle.probe_core.proofs.Callers.{get_set_other, set_shows}
use Rattle.probe_core.proofs.Happening.{Happens, Nothing, Begins, GoesOn, Ends, happens, next_of, words_of}
use Rattle.probe_core.proofs.Stamps.{get_either}
use Rattle.probe_core.proofs.Beginning.{free_words_show_none, copied}

-- the content of a longer history
pub content_more : (table : Table) (history : List Answered) (entry : Answered)
    → content_from table (history ++ entry ∷ []) ≡ changed (content_from table history) entry.call entry.answer
content_more table [] entry = refl
content_more table (first ∷ history) entry = content_more (changed table first.call first.answer) history entry

-- a run goes on by a step
pub run_more : (table : Table) (history : List Answered) (entry : Answered) → IsRunFrom table history
    → Step (content_from table history) entry.call entry.answer (changed (content_from table history) entry.call entry.answer)
    → IsRunFrom table (history ++ entry ∷ [])
run_more table [] entry run step = (step, tt)
run_more table (first ∷ history) entry run step = (run.0, run_more (changed table first.call first.answer) history entry run.1 step)

-- what a call under way is known by, where its caller's call was replaced
on_way_after : (n : ℕ) (place : ℕ → ℕ → ℕ) (words : List ℕ) (events : ℕ) (callers : List (Option Running)) (caller : ℕ) (put : Option Running)
    → ((c : ℕ) (r : Running) → slice_get callers c ≡ Some (Some r) → IsOnWay n place words r.machine × (r.since < events))
    → ((r : Running) → put ≡ Some r → IsOnWay n place words r.machine × (r.since < events))
    → (c : ℕ) (r : Running) → slice_get (slice_set callers caller put) c ≡ Some (Some r) → IsOnWay n place words r.machine × (r.since < events)
on_way_after n place words events callers caller put others given c r e =
    elim (cases_eq c caller) [
      | inl same ↦ given r (set_shows callers caller put (Some r) (ap (λ q. slice_get (slice_set callers caller put) q) (sym same) ∙ e))
      | inr apart ↦ others c r (sym (get_set_other callers caller c put apart) ∙ e)
    ]

-- the same calls one event later
later : (n : ℕ) (place : ℕ → ℕ → ℕ) (world : World) → AreOnWay n place world
    → (c : ℕ) (r : Running) → slice_get world.callers c ≡ Some (Some r) → IsOnWay n place world.words r.machine × (r.since < world.events + 1)
later n place world on_way c r e = let known = on_way c r e in (known.0, omega (arith, known.1))

timed_later : (events : ℕ) (finished : List Finished) → AreTimed events finished → AreTimed (events + 1) finished
timed_later events finished timed k f e = let known = timed k f e in (known.0, omega (arith, known.1))

-- one more finished call, which ends now
timed_more : (events : ℕ) (finished : List Finished) (f : Finished) → AreTimed events finished → f.begun < events → f.ended ≡ events
    → AreTimed (events + 1) (finished ++ f ∷ [])
timed_more events finished f timed before now k g e =
    elim (get_either finished f k g e) [
      | inl front ↦ timed_later events finished timed k g front
      | inr last ↦
          let P : Finished → Type 0 = λ h. (h.begun < h.ended) × (h.ended < events + 1)
          in subst P last.1 (omega (arith, before, now), omega (arith, now))
    ]

rising_more : (events : ℕ) (finished : List Finished) (f : Finished) → AreTimed events finished → AreRising finished → f.ended ≡ events
    → AreRising (finished ++ f ∷ [])
rising_more events finished f timed rising now j k g h before ej ek =
    elim (get_either finished f j g ej) [
      | inl front ↦
          elim (get_either finished f k h ek) [
            | inl front_too ↦ rising j k g h before front front_too
            | inr last ↦
                let end : f.ended ≡ h.ended = ap (λ x. x.ended) last.1
                in omega (arith, (timed j g front).1, end, now)
          ]
      | inr last ↦
          elim (get_either finished f k h ek) [
            | inl front ↦ absurd (omega (arith, slice_get_within finished k h front, last.0, before))
            | inr last_too ↦ absurd (omega (arith, last.0, last_too.0, before))
          ]
    ]

abbrev answered : Call → Answer → Answered
answered asked found = record { call = asked; answer = found }

-- a call that begins is on its way
begun_on_way : (n : ℕ) (place : ℕ → ℕ → ℕ) (words : List ℕ) (asked : Call) → 0 < n → IsOnWay n place words (begun asked)
begun_on_way n place words asked some = record { within = some; passed = λ j h. absurd (omega (arith, h)); swapping = may_load asked }

-- what the next step of a call on its way tells
next_tells : (n : ℕ) (place : ℕ → ℕ → ℕ) (world : World) (running : Running) (followed : Followed) → ((key : ℕ) → IsOrder n (place key))
    → IsOrderly n place world.words → IsOnWay n place world.words running.machine → next_of n place world running ≡ followed
    → Tells n place world.words running.machine followed
next_tells n place world running followed order orderly way is =
    let P : Followed → Type 0 = Tells n place world.words running.machine
    in subst P is (step_tells n place world.words running.machine (order (key_of running.machine.call)) orderly way)

-- the calls under way, over the words after a step of one of them
later_over : (n : ℕ) (place : ℕ → ℕ → ℕ) (world : World) (running : Running) → AreOnWay n place world
    → (c : ℕ) (r : Running) → slice_get world.callers c ≡ Some (Some r)
    → IsOnWay n place (words_of place world running) r.machine × (r.since < world.events + 1)
later_over n place world running on_way c r e =
    let known = on_way c r e
    in (step_keeps_way n place world.words running.machine r.machine known.0, omega (arith, known.1))

sound_event : (n : ℕ) (place : ℕ → ℕ → ℕ) (world : World) (e : Event) (after : World) → ((key : ℕ) → IsOrder n (place key)) → 0 < n
    → IsSound n place world → Happens n place world e after → IsSound n place (counted after)
sound_event n place world e after order some sound (Nothing _) = record {
  orderly = sound.orderly;
  legal = sound.legal;
  shown = sound.shown;
  timed = timed_later world.events world.finished sound.timed;
  rising = sound.rising;
  on_way = later n place world sound.on_way;
}
sound_event n place world e after order some sound (Begins caller asked idle) =
    let new : Running = record { machine = begun asked; since = world.events }
    in record {
      orderly = sound.orderly;
      legal = sound.legal;
      shown = sound.shown;
      timed = timed_later world.events world.finished sound.timed;
      rising = sound.rising;
      on_way = on_way_after n place world.words (world.events + 1) world.callers caller (Some new) (later n place world sound.on_way)
          (λ r is.
          let same : new ≡ r = cc
          in let P : Running → Type 0 = λ x. IsOnWay n place world.words x.machine × (x.since < world.events + 1)
          in subst P same (begun_on_way n place world.words asked some, omega (arith)));
    }
sound_event n place world e after order some sound (GoesOn caller running next busy follows_so) =
    let known : IsOnWay n place world.words running.machine × (running.since < world.events) = sound.on_way caller running busy
    in let goes : GoesOnWay n place world.words running.machine next =
    next_tells n place world running (Runs next) order sound.orderly known.0 follows_so
    in let words : List ℕ = words_of place world running
    in let still : words ≡ world.words = goes.still
    in let again : Running = record { machine = next; since = running.since }
    in record {
      orderly = step_keeps_order n place world.words running.machine (order (key_of running.machine.call)) sound.orderly known.0;
      legal = sound.legal;
      shown = sound.shown ∙ ap table_of (sym still);
      timed = timed_later world.events world.finished sound.timed;
      rising = sound.rising;
      on_way = on_way_after n place words (world.events + 1) world.callers caller (Some again) (later_over n place world running sound.on_way)
          (λ r is.
          let same : again ≡ r = cc
          in let P : Running → Type 0 = λ x. IsOnWay n place words x.machine × (x.since < world.events + 1)
          in let Q : List ℕ → Type 0 = λ l. IsOnWay n place l next
          in subst P same (subst Q (sym still) goes.on_way, omega (arith, known.1)));
    }
sound_event n place world e after order some sound (Ends caller running found busy answers) =
    let known : IsOnWay n place world.words running.machine × (running.since < world.events) = sound.on_way caller running busy
    in let asked : Call = running.machine.call
    in let words : List ℕ = words_of place world running
    in let step : Step (table_of world.words) asked found (table_of words) =
    next_tells n place world running (Answers found) order sound.orderly known.0 answers
    in let f : Finished = record { caller = caller; call = asked; answer = found; begun = running.since; ended = world.events }
    in let history : List Answered = history_of world.finished
    in let joined : history_of (world.finished ++ f ∷ []) ≡ history ++ answered asked found ∷ [] = map-append (λ x. answered x.call x.answer) world.finished (f ∷ [])
    in let change : table_of words ≡ changed (table_of world.words) asked found = step_is_change (table_of world.words) asked found (table_of words) step
    in let S : Table → Type 0 = λ t. Step t asked found (changed t asked found)
    in let T : Table → Type 0 = λ t. Step (table_of world.words) asked found t
    in let stepped : S (content n history) = subst S (sym sound.shown) (subst T change step)
    in let L : List Answered → Type 0 = λ h. IsLegal n h
    in record {
      orderly = step_keeps_order n place world.words running.machine (order (key_of asked)) sound.orderly known.0;
      legal = subst L (sym joined) (run_more (empty_table n) history (answered asked found) sound.legal stepped);
      shown = ap (λ h. content n h) joined ∙ content_more (empty_table n) history (answered asked found)
          ∙ ap (λ t. changed t asked found) sound.shown ∙ sym change;
      timed = timed_more world.events world.finished f sound.timed known.1 refl;
      rising = rising_more world.events world.finished f sound.timed sound.rising refl;
      on_way = on_way_after n place words (world.events + 1) world.callers caller None (later_over n place world running sound.on_way)
          (λ r is. cc);
    }

-- all worlds that events lead to from a sound one are sound
pub sound_after : (n : ℕ) (place : ℕ → ℕ → ℕ) (world : World) (events : List Event) → ((key : ℕ) → IsOrder n (place key)) → 0 < n
    → IsSound n place world → IsSound n place (after_events n place world events)
sound_after n place world [] order some sound = sound
sound_after n place world (e ∷ events) order some sound =
    sound_after n place (counted (happened n place world e)) events order some
    (sound_event n place world e (happened n place world e) order some sound (happens n place world e))

-- a word is that of the key that it shows
word_shown : (word : ℕ) → word ≡ word_of (key_in word)
word_shown zero = refl
word_shown (suc word) = sym (add-one word)

pub words_of_shown : (words : List ℕ) (table : Table) → table ≡ table_of words → AreWordsOf words table
words_of_shown words table same p =
    word_shown (slice_index_or words p 0) ∙ ap word_of (sym (shown words p))
    ∙ ap (λ t. word_of (slice_index_or t p None)) (sym same)

-- words that are made of what words show are the same words
pub shown_words : (words : List ℕ) → words_showing (table_of words) ≡ words
shown_words [] = refl
shown_words (word ∷ words) = ap (λ w. w ∷ words_showing (table_of words)) (sym (word_shown word)) ∙ ap (λ l. word ∷ l) (shown_words words)

pub shows_again : (key : Option ℕ) → key_in (word_of key) ≡ key
shows_again None = refl
shows_again (Some key) = ap key_in (add-one key)

-- words that are made of a table show that table
pub table_shown : (table : Table) → table_of (words_showing table) ≡ table
table_shown [] = refl
table_shown (key ∷ table) = ap (λ k. k ∷ table_of (words_showing table)) (shows_again key) ∙ ap (λ l. key ∷ l) (table_shown table)

-- a sound world is lawful
pub sound_is_lawful : (n : ℕ) (place : ℕ → ℕ → ℕ) (world : World) → IsSound n place world → IsLawful n world
sound_is_lawful n place world sound = record {
  whole = sound.orderly.whole;
  legal = sound.legal;
  words = words_of_shown world.words (content n (history_of world.finished)) sound.shown;
  timed = sound.timed;
  rising = sound.rising;
}

abbrev zeros : ℕ → List ℕ
zeros n = replicate n 0

zero_words : (n p : ℕ) → slice_index_or (zeros n) p 0 ≡ 0
zero_words zero p = refl
zero_words (suc n) zero = refl
zero_words (suc n) (suc p) = zero_words n p

-- a world before any event is sound
pub sound_new : (n : ℕ) (place : ℕ → ℕ → ℕ) (callers : ℕ) → IsSound n place (new_world n callers)
sound_new n place callers = record {
  orderly = record {
    whole = length-replicate n 0;
    placed = λ key i h e j hj. absurd (let clash : 0 ≡ code_of key = sym (zero_words n (place key i)) ∙ e in omega (arith, clash));
  };
  legal = tt;
  shown = sym (free_words_show_none n);
  timed = λ k f e. cc;
  rising = λ j k f g before ej ek. cc;
  on_way = λ c r e. let none : None ≡ Some r = copied callers c None (Some r) e in cc;
}

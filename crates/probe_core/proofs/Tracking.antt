-- The Begin and the last step of each call that ends among some events.
use Rattle.std.proofs.Common.{◌≡◌, ℕ, ◌+◌, ◌-◌, ◌<◌, ◌≤◌, List, [], ◌∷◌, ◌++◌, length, Option, Some, None, slice_get, slice_set, slice_index_or, true, false, ap, ◌∙◌, sym, subst, inl, inr, arith, append_assoc}
use Rattle.std.specs.Prelude.{◌==◌}
use Rattle.std.proofs.lemmas.Bool.{cases_eq, cond_both}
use Rattle.std.proofs.lemmas.List.{length-append, append-nil}
use Rattle.probe_core.specs.declared.calls.Answer.TheVariants as answer
use Rattle.probe_core.specs.declared.events.Event.{Event}
use Rattle.probe_core.specs.declared.events.Event.TheVariants as event
use Rattle.probe_core.specs.declared.events.Finished.{Finished}
use Rattle.probe_core.specs.Machine.{Machine, Decision, Swaps, Followed, Runs, Answers, begun, decision, place_in, followed_by}
use Rattle.probe_core.specs.Machine as machine
use Rattle.probe_core.specs.World.{World, Running, happened, counted, after_events}
use Rattle.probe_core.specs.Lawful.{EndsAmong, GrowsAmong}
use Rattle.probe_core.proofs.Callers.{get_set_other, set_shows}
use Rattle.probe_core.proofs.Happening.{Happens, Nothing, Begins, GoesOn, Ends, happens}
use Rattle.probe_core.proofs.Stamps.{get_front, get_last, get_either}

-- a call goes on as the same call
same_call_by : (n : ℕ) (m : Machine) (d : Decision) (next : Machine) → followed_by n m d ≡ Runs next → next.call ≡ m.call
same_call_by n m Swaps next e = let same : record { call = m.call; index = m.index; swaps = true } ≡ next = cc in ap (λ x. x.call) (sym same)
same_call_by n m machine.GoesOn next e =
    let P : Followed → Type 0 = λ f. f ≡ Runs next → next.call ≡ m.call
    in cond_both (m.index + 1 == n) (Answers answer.Full) (Runs (record { call = m.call; index = m.index + 1; swaps = false })) P
    (λ _ full. cc)
    (λ _ runs. let same : record { call = m.call; index = m.index + 1; swaps = false } ≡ next = cc in ap (λ x. x.call) (sym same))
    e
same_call_by n m (machine.Ends found) next e = cc

-- the Begin of a call under way is one of these events, if it is not an earlier one
abbrev AreBegunAmong : ℕ → List Event → List (Option Running) → Type 0
AreBegunAmong first events callers =
    (caller : ℕ) (r : Running) → slice_get callers caller ≡ Some (Some r) → first ≤ r.since
    → slice_get events (r.since - first) ≡ Some (event.Begin caller r.machine.call)

-- the world after these events, with what had ended before them
record Tracks (first : ℕ) (events : List Event) (old : List Finished) (world : World) : Type 0 where
  pub count : world.events ≡ first + length events
  pub grown : GrowsAmong first events old world.finished
  pub begun : AreBegunAmong first events world.callers

ends_among_more : (first : ℕ) (events more : List Event) (f : Finished) → EndsAmong first events f → EndsAmong first (events ++ more) f
ends_among_more first events more f among = record {
  from = among.from;
  ended = get_front events more (f.ended - first) (event.Step f.caller) among.ended;
  begun = λ since. get_front events more (f.begun - first) (event.Begin f.caller f.call) (among.begun since);
}

grows_more : (first : ℕ) (events more : List Event) (old new : List Finished) → GrowsAmong first events old new → GrowsAmong first (events ++ more) old new
grows_more first events more old new grown = record {
  added = grown.added;
  joined = grown.joined;
  among = λ k f e. ends_among_more first events more f (grown.among k f e);
}

begun_more : (first : ℕ) (events more : List Event) (callers : List (Option Running)) → AreBegunAmong first events callers
    → AreBegunAmong first (events ++ more) callers
begun_more first events more callers begun c r e since =
    get_front events more (r.since - first) (event.Begin c r.machine.call) (begun c r e since)

-- the same where a caller's call was replaced
begun_after : (first : ℕ) (events : List Event) (callers : List (Option Running)) (caller : ℕ) (put : Option Running) → AreBegunAmong first events callers
    → ((r : Running) → put ≡ Some r → first ≤ r.since → slice_get events (r.since - first) ≡ Some (event.Begin caller r.machine.call))
    → AreBegunAmong first events (slice_set callers caller put)
begun_after first events callers caller put begun given c r e since =
    elim (cases_eq c caller) [
      | inl same ↦
          given r (set_shows callers caller put (Some r) (ap (λ q. slice_get (slice_set callers caller put) q) (sym same) ∙ e)) since
          ∙ ap (λ q. Some (event.Begin q r.machine.call)) (sym same)
      | inr apart ↦ begun c r (sym (get_set_other callers caller c put apart) ∙ e) since
    ]

-- the event at the count is the last of one more
at_count : (first : ℕ) (events : List Event) (e : Event) (count : ℕ) → count ≡ first + length events → slice_get (events ++ e ∷ []) (count - first) ≡ Some e
at_count first events e count is =
    let same : count - first ≡ length events = omega (arith, is)
    in ap (λ i. slice_get (events ++ e ∷ []) i) same ∙ get_last events e

counts_more : (first : ℕ) (events : List Event) (e : Event) (count : ℕ) → count ≡ first + length events → count + 1 ≡ first + length (events ++ e ∷ [])
counts_more first events e count is = let l : length (events ++ e ∷ []) ≡ length events + length (e ∷ []) = length-append events (e ∷ []) in omega (arith, is, l)

tracks_event : (n : ℕ) (place : ℕ → ℕ → ℕ) (first : ℕ) (events : List Event) (old : List Finished) (world : World) (e : Event) (after : World)
    → Tracks first events old world → Happens n place world e after → Tracks first (events ++ e ∷ []) old (counted after)
tracks_event n place first events old world e after tracks (Nothing _) = record {
  count = counts_more first events e world.events tracks.count;
  grown = grows_more first events (e ∷ []) old world.finished tracks.grown;
  begun = begun_more first events (e ∷ []) world.callers tracks.begun;
}
tracks_event n place first events old world e after tracks (Begins caller asked idle) =
    let this : Event = event.Begin caller asked
    in let new : Running = record { machine = begun asked; since = world.events }
    in record {
      count = counts_more first events this world.events tracks.count;
      grown = grows_more first events (this ∷ []) old world.finished tracks.grown;
      begun = begun_after first (events ++ this ∷ []) world.callers caller (Some new) (begun_more first events (this ∷ []) world.callers tracks.begun)
          (λ r is since.
          let same : new ≡ r = cc
          in let P : Running → Type 0 = λ x. slice_get (events ++ this ∷ []) (x.since - first) ≡ Some (event.Begin caller x.machine.call)
          in subst P same (at_count first events this world.events tracks.count));
    }
tracks_event n place first events old world e after tracks (GoesOn caller running next busy runs) =
    let this : Event = event.Step caller
    in let again : Running = record { machine = next; since = running.since }
    in let call : next.call ≡ running.machine.call =
    same_call_by n running.machine (decision running.machine (place_in place running.machine) (slice_index_or world.words (place_in place running.machine) 0)) next runs
    in record {
      count = counts_more first events this world.events tracks.count;
      grown = grows_more first events (this ∷ []) old world.finished tracks.grown;
      begun = begun_after first (events ++ this ∷ []) world.callers caller (Some again) (begun_more first events (this ∷ []) world.callers tracks.begun)
          (λ r is since.
          let same : again ≡ r = cc
          in let early : first ≤ running.since = let q : again.since ≡ r.since = ap (λ x. x.since) same in omega (arith, since, q)
          in let P : Running → Type 0 = λ x. slice_get (events ++ this ∷ []) (x.since - first) ≡ Some (event.Begin caller x.machine.call)
          in subst P same
          (get_front events (this ∷ []) (running.since - first) (event.Begin caller running.machine.call) (tracks.begun caller running busy early)
          ∙ ap (λ q. Some (event.Begin caller q)) (sym call)));
    }
tracks_event n place first events old world e after tracks (Ends caller running found busy answers) =
    let this : Event = event.Step caller
    in let f : Finished = record { caller = caller; call = running.machine.call; answer = found; begun = running.since; ended = world.events }
    in let ends : EndsAmong first (events ++ this ∷ []) f = record {
      from = omega (arith, tracks.count);
      ended = at_count first events this world.events tracks.count;
      begun = λ since.
          get_front events (this ∷ []) (running.since - first) (event.Begin caller running.machine.call) (tracks.begun caller running busy since);
    }
    in record {
      count = counts_more first events this world.events tracks.count;
      grown = record {
        added = tracks.grown.added ++ f ∷ [];
        joined = ap (λ l. l ++ f ∷ []) tracks.grown.joined ∙ append_assoc old tracks.grown.added (f ∷ []);
        among = λ k g at.
            elim (get_either tracks.grown.added f k g at) [
              | inl front ↦ ends_among_more first events (this ∷ []) g (tracks.grown.among k g front)
              | inr last ↦ let P : Finished → Type 0 = λ x. EndsAmong first (events ++ this ∷ []) x in subst P last.1 ends
            ];
      };
      begun = begun_after first (events ++ this ∷ []) world.callers caller None (begun_more first events (this ∷ []) world.callers tracks.begun)
          (λ r is since. cc);
    }

tracks_after : (n : ℕ) (place : ℕ → ℕ → ℕ) (first : ℕ) (passed : List Event) (old : List Finished) (world : World) (events : List Event)
    → Tracks first passed old world → Tracks first (passed ++ events) old (after_events n place world events)
tracks_after n place first passed old world [] tracks =
    let P : List Event → Type 0 = λ l. Tracks first l old world in subst P (sym (append-nil passed)) tracks
tracks_after n place first passed old world (e ∷ events) tracks =
    let now : World = counted (happened n place world e)
    in let P : List Event → Type 0 = λ l. Tracks first l old (after_events n place now events)
    in subst P (append_assoc passed (e ∷ []) events)
    (tracks_after n place first (passed ++ e ∷ []) old now events
    (tracks_event n place first passed old world e (happened n place world e) tracks (happens n place world e)))

-- the finished calls of a world grow by calls that end among the events
pub grows_after : (n : ℕ) (place : ℕ → ℕ → ℕ) (world : World) (events : List Event)
    → ((caller : ℕ) (r : Running) → slice_get world.callers caller ≡ Some (Some r) → r.since < world.events)
    → GrowsAmong world.events events world.finished (after_events n place world events).finished
grows_after n place world events earlier =
    let start : Tracks world.events [] world.finished world = record {
      count = omega arith;
      grown = record { added = []; joined = sym (append-nil world.finished); among = λ k f e. cc };
      begun = λ c r e since. absurd (omega (arith, earlier c r e, since));
    }
    in (tracks_after n place world.events [] world.finished world events start).grown

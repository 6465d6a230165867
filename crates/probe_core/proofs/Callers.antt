-- What a hall shows where a caller's call is put into it, taken or put back.
use Rattle.std.proofs.Common.{◌≡◌, ◌≢◌, ℕ, ◌<◌, List, [], ◌∷◌, ◌++◌, length, map, slice_set, slice_get, slice_index_or, Option, Some, None, refl, ap, ◌∙◌, sym, inl, inr, arith}
use Rattle.std.specs.Option.{option_map}
use Rattle.std.proofs.lemmas.Bool.{cases_eq, cases_lt}
use Rattle.std.proofs.lemmas.List.{get_or-set_same, get_or-set_other, length-set, map-set, set-set, set-get_or}
use Rattle.std.proofs.lemmas.Option.{slice_get-map, slice_get-get_or, slice_get_past, get_or_from_slice_get}
use Rattle.probe_core.specs.declared.calls.Call.{Call}
use Rattle.probe_core.specs.declared.calls.Answer.{Answer}
use Rattle.probe_core.specs.declared.events.Finished.{Finished}
use Rattle.probe_core.specs.declared.halls.UnderWay.{UnderWay}
use Rattle.probe_core.specs.Machine.{Machine, Followed, Runs, Answers, begun, follows, place_in}
use Rattle.probe_core.specs.World.{World, Running, began, settled, stepped, words_after}
use Rattle.probe_core.specs.Inner.Hall.{call_of, running_of}

get_set_same : {X : Type 0} (xs : List X) (i : ℕ) (x : X) → i < length xs → slice_get (slice_set xs i x) i ≡ Some x
get_set_same xs i x h =
    let inside : i < length (slice_set xs i x) = let e : length (slice_set xs i x) ≡ length xs = length-set xs i x in omega (arith, e, h)
    in slice_get-get_or (slice_set xs i x) i x inside ∙ ap Some (get_or-set_same xs i x x h)

pub get_set_other : {X : Type 0} (xs : List X) (i j : ℕ) (x : X) → j ≢ i → slice_get (slice_set xs i x) j ≡ slice_get xs j
get_set_other xs i j x apart =
    let e : length (slice_set xs i x) ≡ length xs = length-set xs i x
    in elim (cases_lt j (length xs)) [
      | inl inside ↦
          slice_get-get_or (slice_set xs i x) j x (omega (arith, e, inside))
          ∙ ap Some (get_or-set_other xs i j x x apart)
          ∙ sym (slice_get-get_or xs j x inside)
      | inr past ↦ slice_get_past (slice_set xs i x) j (omega (arith, e, past)) ∙ sym (slice_get_past xs j past)
    ]

-- what an index holds after a write at it: what was written, or nothing
pub set_shows : {X : Type 0} (xs : List X) (i : ℕ) (x y : X) → slice_get (slice_set xs i x) i ≡ Some y → x ≡ y
set_shows xs i x y e =
    elim (cases_lt i (length xs)) [
      | inl inside ↦ let same : Some x ≡ Some y = sym (get_set_same xs i x inside) ∙ e in cc
      | inr past ↦
          let l : length (slice_set xs i x) ≡ length xs = length-set xs i x
          in let none : None ≡ Some y = sym (slice_get_past (slice_set xs i x) i (omega (arith, l, past))) ∙ e
          in cc
    ]

-- each call under way probes in this order
abbrev pub AreOrdered : {O : Type 0} → O → List (Option (UnderWay O)) → Type 0
AreOrdered {O} order callers = (caller : ℕ) (call : UnderWay O) → slice_get callers caller ≡ Some (Some call) → call.probe.order ≡ order

pub ordered_after : {O : Type 0} (order : O) (callers : List (Option (UnderWay O))) (i : ℕ) (put : Option (UnderWay O)) → AreOrdered order callers
    → ((call : UnderWay O) → put ≡ Some call → call.probe.order ≡ order) → AreOrdered order (slice_set callers i put)
ordered_after order callers i put ordered given caller call e =
    elim (cases_eq caller i) [
      | inl same ↦ given call (set_shows callers i put (Some call) (ap (λ q. slice_get (slice_set callers i put) q) (sym same) ∙ e))
      | inr apart ↦ ordered caller call (sym (get_set_other callers i caller put apart) ∙ e)
    ]

-- what the world shows of a caller
pub shown_at : {O : Type 0} (callers : List (Option (UnderWay O))) (caller : ℕ) (put : Option (UnderWay O)) → slice_get callers caller ≡ Some put
    → slice_get (map running_of callers) caller ≡ Some (running_of put)
shown_at callers caller put e = slice_get-map running_of callers caller ∙ ap (λ o. option_map running_of o) e

-- a call that begins
pub began_shows : {O : Type 0} (world : World) (callers : List (Option (UnderWay O))) (caller : ℕ) (asked : Call) (call : UnderWay O)
    → world.callers ≡ map running_of callers → slice_get callers caller ≡ Some None → call.probe.machine ≡ begun asked → call.since ≡ world.events
    → record world { callers = map running_of (slice_set callers caller (Some call)) } ≡ began world caller asked (slice_get world.callers caller)
began_shows world callers caller asked call shows idle starts since =
    let at : slice_get world.callers caller ≡ Some None = ap (λ l. slice_get l caller) shows ∙ shown_at callers caller None idle
    in let run : call_of call ≡ record { machine = begun asked; since = world.events } =
    ap (λ m. record { machine = m; since = call.since }) starts ∙ ap (λ n. record { machine = begun asked; since = n }) since
    in let put : map running_of (slice_set callers caller (Some call)) ≡ slice_set world.callers caller (Some (record { machine = begun asked; since = world.events })) =
    map-set running_of callers caller (Some call)
    ∙ ap (λ l. slice_set l caller (Some (call_of call))) (sym shows)
    ∙ ap (λ r. slice_set world.callers caller (Some r)) run
    in ap (λ l. record world { callers = l }) put ∙ ap (λ o. began world caller asked o) (sym at)

pub not_began : (world : World) (caller : ℕ) (asked : Call) (found : Option (Option Running)) → found ≢ Some None → world ≡ began world caller asked found
not_began world caller asked None other = refl
not_began world caller asked (Some None) other = absurd (other refl)
not_began world caller asked (Some (Some running)) other = refl

shows_idle : {O : Type 0} (found : Option (Option (UnderWay O))) → option_map running_of found ≡ Some None → found ≡ Some None
shows_idle None e = cc
shows_idle (Some None) e = refl
shows_idle (Some (Some call)) e = cc

pub not_idle : {O : Type 0} (callers : List (Option (UnderWay O))) (caller : ℕ) → slice_get callers caller ≢ Some None
    → slice_get (map running_of callers) caller ≢ Some None
not_idle callers caller other e =
    let same : option_map running_of (slice_get callers caller) ≡ Some None = sym (slice_get-map running_of callers caller) ∙ e
    in other (shows_idle (slice_get callers caller) same)

-- a call that goes on
pub settled_runs : (world : World) (caller : ℕ) (running : Running) (words after : List ℕ) (followed : Followed) (machine : Machine)
    (callers : List (Option Running)) → followed ≡ Runs machine → after ≡ words
    → callers ≡ slice_set world.callers caller (Some (record { machine = machine; since = running.since }))
    → record world { words = after; callers = callers } ≡ settled world caller running words followed
settled_runs world caller running words after followed machine callers runs same put =
    ap (λ l. record world { words = l; callers = callers }) same
    ∙ ap (λ l. record world { words = words; callers = l }) put
    ∙ ap (λ f. settled world caller running words f) (sym runs)

-- a call that ends, taken from its caller before
pub settled_answers : (world : World) (caller : ℕ) (running : Running) (words after : List ℕ) (followed : Followed) (found : Answer)
    (finished : List Finished) → followed ≡ Answers found → after ≡ words → slice_get world.callers caller ≡ Some None
    → finished ≡ world.finished ++ record { caller = caller; call = running.machine.call; answer = found; begun = running.since; ended = world.events } ∷ []
    → record world { words = after; finished = finished } ≡ settled world caller running words followed
settled_answers world caller running words after followed found finished answers same idle joined =
    let none : slice_set world.callers caller None ≡ world.callers =
    ap (λ o. slice_set world.callers caller o) (sym (get_or_from_slice_get world.callers caller None None idle)) ∙ set-get_or world.callers caller None
    in ap (λ l. record world { words = l; finished = finished }) same
    ∙ ap (λ l. record world { words = words; finished = l }) joined
    ∙ ap (λ l. record world {
      words = words;
      callers = l;
      finished = world.finished ++ record { caller = caller; call = running.machine.call; answer = found; begun = running.since; ended = world.events } ∷ [];
    }) (sym none)
    ∙ ap (λ f. settled world caller running words f) (sym answers)

-- a step of a call that was taken from its caller before is that of the call at its caller
settled_taken : (world : World) (caller : ℕ) (running : Running) (words : List ℕ) (followed : Followed)
    → settled (record world { callers = slice_set world.callers caller None }) caller running words followed ≡ settled world caller running words followed
settled_taken world caller running words (Runs machine) =
    ap (λ l. record world { words = words; callers = l })
    (set-set world.callers caller None (Some (record { machine = machine; since = running.since })))
settled_taken world caller running words (Answers found) =
    ap (λ l. record world {
      words = words;
      callers = l;
      finished = world.finished ++ record { caller = caller; call = running.machine.call; answer = found; begun = running.since; ended = world.events } ∷ [];
    }) (set-set world.callers caller None None)

pub stepped_taken : (n : ℕ) (place : ℕ → ℕ → ℕ) (world : World) (caller : ℕ) (running : Running)
    → stepped n place (record world { callers = slice_set world.callers caller None }) caller (Some (Some running)) ≡ stepped n place world caller (Some (Some running))
stepped_taken n place world caller running =
    settled_taken world caller running
    (words_after world.words running.machine (place_in place running.machine))
    (follows n running.machine (place_in place running.machine) (slice_index_or world.words (place_in place running.machine) 0))

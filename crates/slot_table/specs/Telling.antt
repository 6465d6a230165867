-- What a step on the words tells the seat that takes it.
use Rattle.std.specs.Prelude.{◌≡◌, ◌≢◌, ℕ, ◌+◌, ◌*◌, ◌/◌, ◌^◌, ◌<◌, ◌≤◌, ◌==◌, if◌then◌else◌, true, List, [], ◌∷◌, ◌++◌, length, Option, Some, None, filter_map, slice_get, slice_index_or}
use Rattle.atomic_table.specs.Table.{Step, Me}
use Rattle.atomic_table.specs.Seated.{TableId}
use Rattle.atomic_table.specs.declared.shared.Shared.{Shared}
use Rattle.atomic_table.specs.declared.shared.Seat.{Seat}
use Rattle.probe_core.specs.declared.calls.Call.{Call}
use Rattle.probe_core.specs.declared.calls.Call.TheVariants as call
use Rattle.probe_core.specs.declared.probes.Turn.{Turn}
use Rattle.probe_core.specs.Turn.{turn_of}
use Rattle.probe_core.specs.Machine.{Machine, Followed, Runs, Answers, follows, key_of, place_in}
use Rattle.probe_core.specs.Sequential.{Table, IsNumber}
use Rattle.probe_core.specs.History.{word_of}
use Rattle.slot_table.specs.declared.entries.Happened.{Happened}
use Rattle.slot_table.specs.declared.entries.Happened.TheVariants as entry
use Rattle.slot_table.specs.declared.views.View.{View}
use Rattle.slot_table.specs.History.{IsLegal, content_of, Begins, Keeps}
use Rattle.slot_table.specs.Places.{times, IsRising}
use Rattle.slot_table.specs.Stakes.{IsWhole}

-- what a step adds to the history: the call with its answer, where it ends the call
abbrev pub entries_of : Call → Followed → List Happened
entries_of asked (Runs machine) = []
entries_of asked (Answers found) = entry.Asked asked found ∷ []

-- the places of these entries, after a history of this length
abbrev pub places_from : ℕ → List Happened → List ℕ
places_from k [] = []
places_from k (e ∷ entries) = k ∷ places_from (k + 1) entries

-- a seat that has the whole stake made all the calls that it has seen
abbrev pub IsLone : {O : Type 0} → View O → Type 0
IsLone view = IsWhole view.stake → filter_map (slice_get view.seen) view.mine ≡ view.seen

-- a seat saw the longest history, and its step added these entries to it
pub record Grown {O : Type 0} (n : ℕ) (old : View O) (longest added : List Happened) (new : View O) : Type 0 where
  pub later : Begins old.seen longest
  pub after_met : Begins old.met longest
  pub seen : new.seen ≡ longest ++ added
  pub legal : IsLegal n new.seen
  pub keeps : Keeps n old.seen new.seen
  pub mine : new.mine ≡ old.mine ++ places_from (length longest) added
  pub met : new.met ≡ []
  pub order : new.order ≡ old.order
  pub rises : IsRising 0 new.mine (length new.seen)
  pub stake : new.stake ≡ old.stake
  pub lone : IsLone new

-- the word found at p is that of the history's content
abbrev pub ShowsSlot : ℕ → List Happened → ℕ → ℕ → Type 0
ShowsSlot n longest p found = found ≡ word_of (slice_index_or (content_of n longest) p None)

-- a step of this machine at place p found this word, and ended the call or not
pub record Stepped {O : Type 0} (n : ℕ) (machine : Machine) (p found : ℕ) (old new : View O) : Type 0 where
  pub longest : List Happened
  pub grown : Grown n old longest (entries_of machine.call (follows n machine p found)) new
  pub shows : ShowsSlot n longest p found

-- the step of a probe with this order and machine found some word, and this is what follows
pub record Turned {O : Type 0} (n : ℕ) (place : ℕ → ℕ → ℕ) (order : O) (machine : Machine) (old : View O) (turn : Turn O) (new : View O) : Type 0 where
  pub found : ℕ
  pub stepped : Stepped n machine (place_in place machine) found old new
  pub next : turn ≡ turn_of order (follows n machine (place_in place machine) found)

-- a load at place p that belongs to no call found this word
pub record Loaded {O : Type 0} (n p found : ℕ) (old new : View O) : Type 0 where
  pub longest : List Happened
  pub grown : Grown n old longest [] new
  pub shows : ShowsSlot n longest p found
  pub small : found ≤ 2 ^ 51

-- a seat saw the longest history, and its step made this call
abbrev pub Called : {O : Type 0} → ℕ → View O → Happened → View O → Type 0
Called n old made new = (longest : List Happened) × Grown n old longest (made ∷ []) new

-- the least game of a mark word
abbrev pub mark_of : ℕ → Option ℕ
mark_of word = if word == 0xFFFF_FFFF_FFFF_FFFF then None else Some word

-- another seat was joined to this one
pub record Joined {O : Type 0} (n : ℕ) (old other new : View O) : Type 0 where
  pub after_old : Begins old.seen new.seen
  pub after_other : Begins other.seen new.seen
  pub legal : IsLegal n new.seen
  pub keeps_old : Keeps n old.seen new.seen
  pub keeps_other : Keeps n other.seen new.seen
  pub mine : (k : ℕ) → times k new.mine ≡ times k old.mine + times k other.mine
  pub apart : (k : ℕ) → times k old.mine + times k other.mine ≤ 1
  pub rises : IsRising 0 new.mine (length new.seen)
  pub stake : new.stake ≡ old.stake ++ other.stake
  pub lone : IsLone new

-- what a step of this machine on a slot word tells a seat, whose view has the order
abbrev pub told : {O S : Type 0} → (O → ℕ) → Machine → Step S → Me S (View O) → ℕ → Me S (View O) → Type 0
told {O = O} exponent machine st me found me' = (me'.1 ≡ me.1) ×
    ((order : O) → me.0.order ≡ Some order → Stepped (2 ^ exponent order) machine (st.word / 2) found me.0 me'.0)

-- what a load of a slot word that belongs to no call tells it
abbrev pub looked : {O S : Type 0} → (O → ℕ) → Step S → Me S (View O) → ℕ → Me S (View O) → Type 0
looked {O = O} exponent st me found me' = (me'.1 ≡ me.1) ×
    ((order : O) → me.0.order ≡ Some order → Loaded (2 ^ exponent order) (st.word / 2) found me.0 me'.0)

-- a seat, of the table `seated` and with this view, is one of the table `of`, which has n numbers, at most 2^22, two words
-- for each, and this order: it holds nothing, and has met no other history since its last step; it has seen a legal
-- history, in which its own places rise
pub record IsSeatOf {O : Type 0} (n : ℕ) (of : TableId) (key : O) (seated : TableId) (me : Me (Unit {0}) (View O)) : Type 0 where
  pub words : of.words ≡ 2 * n
  pub few : n ≤ 2 ^ 22
  pub table : seated ≡ of
  pub held : me.1 ≡ []
  pub order : me.0.order ≡ Some key
  pub met : me.0.met ≡ []
  pub legal : IsLegal n me.0.seen
  pub rises : IsRising 0 me.0.mine (length me.0.seen)

-- a seat is one of this table, whose order has the exponent
abbrev pub IsSeatAt : {O P : Type 0} → (O → ℕ) → Shared (Unit {0}) (View O) O P → Seat (Unit {0}) (View O) → Type 0
IsSeatAt exponent shared seat = IsSeatOf (2 ^ exponent shared.key) shared.table_id shared.key seat.table_id seat.me

-- in the table the first n places hold other keys
abbrev pub PassedOthers : (ℕ → ℕ) → Table → ℕ → ℕ → Type 0
PassedOthers place table key i = (j : ℕ) → j < i → (x : ℕ) × IsNumber table x (place j) × (x ≢ key)

-- only an Enter swaps
abbrev pub MaySwap : Call → Type 0
MaySwap (call.Enter key) = Unit {0}
MaySwap (call.LookUp key) = ⊥

-- a machine on its way, where this much was seen: after places that other keys hold
pub record IsSearch (n : ℕ) (place : ℕ → ℕ → ℕ) (machine : Machine) (seen : List Happened) : Type 0 where
  pub within : machine.index < n
  pub small : key_of machine.call < 2 ^ 51
  pub enters : machine.swaps ≡ true → MaySwap machine.call
  pub passed : PassedOthers (place (key_of machine.call)) (content_of n seen) (key_of machine.call) machine.index

-- what a step that lowers a mark word to a game tells: the step has the game
abbrev pub marked : {O S : Type 0} → (O → ℕ) → Step S → Me S (View O) → ℕ → Me S (View O) → Type 0
marked {O = O} exponent st me found me' = (me'.1 ≡ me.1) ×
    ((order : O) → me.0.order ≡ Some order → Called (2 ^ exponent order) me.0 (entry.Marked (st.word / 2) st.first) me'.0)

-- what a load of a mark word tells
abbrev pub first_told : {O S : Type 0} → (O → ℕ) → Step S → Me S (View O) → ℕ → Me S (View O) → Type 0
first_told {O = O} exponent st me found me' = (me'.1 ≡ me.1) ×
    ((order : O) → me.0.order ≡ Some order → Called (2 ^ exponent order) me.0 (entry.First (st.word / 2) (mark_of found)) me'.0)

-- The rule of a shared table: one history, which all passes have seen a part of, is what the words are.
use Rattle.std.specs.Prelude.{◌≡◌, ◌≢◌, ℕ, ◌+◌, ◌*◌, ◌^◌, ◌<◌, ◌≤◌, ◌⊎◌, if◌then◌else◌, nat_lt, List, [], ◌∷◌, ◌++◌, length, Option, Some, None, slice_index_or}
use mathlib.Core.Option.{some}
use lib.ListN.{get_elem?}
use Rattle.probe_core.specs.Sequential.{Table}
use Rattle.probe_core.specs.History.{word_of}
use Rattle.probe_core.specs.Placing.{IsPlaced}
use Rattle.slot_table.specs.declared.entries.Happened.{Happened}
use Rattle.slot_table.specs.declared.views.View.{View}
use Rattle.slot_table.specs.History.{IsLegal, content_of, least_at, Begins}
use Rattle.slot_table.specs.Places.{times, IsRising}
use Rattle.slot_table.specs.Places.{below, merged}
use Rattle.slot_table.specs.Stakes.{IsWhole, halved, half_of}

-- what the first seat knows: it has made no call, and has the whole stake
abbrev pub newcomer : {O : Type 0} → O → List Happened → View O
newcomer order seen = record { order = Some order; seen = seen; mine = []; met = []; stake = 0 ∷ [] }

-- what a seat knows that was split off from one with this view: as much, and it has a half of that one's first piece
abbrev pub cut_off : {O : Type 0} → View O → View O
cut_off view = record { order = view.order; seen = view.seen; mine = []; met = []; stake = half_of view.stake }

-- what that one knows afterwards: the same, and it has the other half
abbrev pub parted : {O : Type 0} → View O → View O
parted view = record view { stake = halved view.stake }

-- the longer and the shorter of two histories
abbrev pub longer : List Happened → List Happened → List Happened
longer a b = if nat_lt (length a) (length b) then b else a

abbrev pub shorter : List Happened → List Happened → List Happened
shorter a b = if nat_lt (length a) (length b) then a else b

-- what a seat knows to which another one was joined: the longer history, and that the shorter one was seen too. It has the
-- stakes of both
abbrev pub joined : {O : Type 0} → View O → View O → View O
joined view other =
    record {
      order = view.order;
      seen = longer view.seen other.seen;
      mine = merged view.mine other.mine;
      met = shorter view.seen other.seen;
      stake = view.stake ++ other.stake;
    }

-- a view that was joined to another: no pass has it, since a pass has an order, and it has nothing left
abbrev pub spent : {O : Type 0} → View O
spent = record { order = None; seen = []; mine = []; met = []; stake = [] }

pub record IsSpent {O : Type 0} (view : View O) : Type 0 where
  pub order : view.order ≡ None
  pub seen : view.seen ≡ []
  pub mine : view.mine ≡ []
  pub stake : view.stake ≡ []

-- some seat has this view
abbrev pub IsView : {O : Type 0} → List (View O) → View O → Type 0
IsView views view = (seat : ℕ) × (get_elem? views seat ≡ some view)

-- the longest of all histories that were seen: some seat has seen it, and each other one begins it
pub record IsLongest {O : Type 0} (views : List (View O)) (log : List Happened) : Type 0 where
  pub is_seen : (view : View O) × IsView views view × (view.seen ≡ log)
  pub begun : (seat : ℕ) (view : View O) → get_elem? views seat ≡ some view → Begins view.seen log × Begins view.met log

-- the words of slots: those at even places
abbrev pub slot_words : List ℕ → List ℕ
slot_words [] = []
slot_words (slot ∷ []) = slot ∷ []
slot_words (slot ∷ mark ∷ words) = slot ∷ slot_words words

-- the words of marks: those at odd places
abbrev pub mark_words : List ℕ → List ℕ
mark_words [] = []
mark_words (slot ∷ words) = slot_words words

-- the words of n slots are those of the table's content: 0 where a number is free, else its key and 1 more
abbrev pub AreSlotWords : ℕ → List ℕ → Table → Type 0
AreSlotWords n words table = (p : ℕ) → p < n → slice_index_or words p 0 ≡ word_of (slice_index_or table p None)

-- no word is that of a number which is no key
abbrev pub AreKeyWords : ℕ → List ℕ → Type 0
AreKeyWords n words = (p : ℕ) → p < n → slice_index_or words p 0 ≤ 2 ^ 51

-- the word of a least game: the game, and 2^64 - 1 where there is none
abbrev pub IsMarkWord : Option ℕ → ℕ → Type 0
IsMarkWord None word = word ≡ 0xFFFF_FFFF_FFFF_FFFF
IsMarkWord (Some game) word = (word ≡ game) × (game < 0xFFFF_FFFF_FFFF_FFFF)

-- the words of n marks are those of the least games that the history marks
abbrev pub AreMarkWords : ℕ → List ℕ → List Happened → Type 0
AreMarkWords n words log = (p : ℕ) → p < n → IsMarkWord (least_at p log) (slice_index_or words p 0)

-- how often a place is in what seats call their own, all seats together
abbrev pub times_owned : {O : Type 0} → ℕ → List (View O) → ℕ
times_owned k [] = 0
times_owned k (view ∷ views) = times k view.mine + times_owned k views

-- the pieces of the stakes of all seats together
abbrev pub pieces_of : {O : Type 0} → List (View O) → List ℕ
pieces_of [] = []
pieces_of (view ∷ views) = view.stake ++ pieces_of views

-- The rule of a table of n numbers in this order, over all words and the views of all seats that ever were, so also of
-- passes that were dropped. One history, `log`, is that of the table, and these hold:
-- * `longest`: each history that was seen begins it, and it was seen; so of any two that were seen one begins the other;
-- * `legal`, `whole`, `slots`, `small`, `marks`: it is legal, and its content is the words, of each number that of its key
--   and beside it that of its least game;
-- * `placed`: each taken place of a key has all earlier places of the key's order taken by other keys;
-- * `owned`, `rises`: each place of it is once in what all seats together call their own, and no other place is; what
--   a seat calls its own are places of what it has seen, rising;
-- * `orders`: each view is of the table's order, but for those that were joined to another, which have nothing left;
-- * `stakes`, `staked`: the stakes of all seats together are the whole, and each seat has one, but for those same views
pub record Kept {O : Type 0} (n : ℕ) (place : ℕ → ℕ → ℕ) (order : O) (words : List ℕ) (views : List (View O)) : Type 0 where
  pub log : List Happened
  pub longest : IsLongest views log
  pub legal : IsLegal n log
  pub whole : length words ≡ 2 * n
  pub slots : AreSlotWords n (slot_words words) (content_of n log)
  pub small : AreKeyWords n (slot_words words)
  pub marks : AreMarkWords n (mark_words words) log
  pub placed : IsPlaced n place (slot_words words)
  pub owned : (k : ℕ) → times_owned k views ≡ below k (length log)
  pub rises : (seat : ℕ) (view : View O) → get_elem? views seat ≡ some view → IsRising 0 view.mine (length view.seen)
  pub orders : (seat : ℕ) (view : View O) → get_elem? views seat ≡ some view → (view.order ≡ Some order) ⊎ IsSpent view
  pub stakes : IsWhole (pieces_of views)
  pub staked : (seat : ℕ) (view : View O) → get_elem? views seat ≡ some view → (view.stake ≢ []) ⊎ IsSpent view

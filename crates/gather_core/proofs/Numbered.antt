-- Patterns that get numbers: what was answered for their entries, and what is known of them then.
use Rattle.std.proofs.Common.{◌≡◌, ℕ, ◌+◌, ◌<◌, List, [], ◌∷◌, ◌++◌, length, take, drop, get_or, Option, None, refl, ap, sym, subst, ◌∙◌, append_assoc, arith, All, Contains}
use Rattle.std.proofs.lemmas.Option.{IfSome_then}
use Rattle.gather_core.proofs.Common.{take_more, take-append-drop, All-weaker, Contains-get_or, Contains-append_left, Contains-append_right, Answer, Happened, Known, IsLater, Keeps, CallsOnly, EntersOnly, MarksOnly, IsMarkAt, content_of, IsNumber, IsAbsent, IsFull, HarvestFault}
use Rattle.shape_dict.specs.declared.entries.Entry.{Entry}
use Rattle.harvest_faults.specs.declared.faults.HarvestFault.TheVariants as fault
use Rattle.gather_core.specs.WordShares.{IsSettled, IsKeyIn, IsFirstOf, IsNumberFault}
use Rattle.probe_core.specs.declared.calls.Answer.TheVariants as answer
use Rattle.probe_core.specs.declared.calls.Call.TheVariants as asked
use Rattle.slot_table.specs.declared.entries.Happened.TheVariants as call
use Rattle.slot_table.specs.History.{Tells}
use Rattle.gather_core.proofs.Calls.{calls_through, calls_weaker}

-- ---- the entry at a place
abbrev none : Entry
none = record { shape = 0; there = 0; played = 0; first = None }

abbrev pub entry_at : List Entry → ℕ → Entry
entry_at entries i = get_or entries i none

-- it is among them
pub is_among : (entries : List Entry) (i : ℕ) → i < length entries → Contains entries (entry_at entries i)
is_among entries i inside = Contains-get_or entries i none inside

-- ---- the pattern of an entry is entered
-- no answer but a number or that none is free
pub enter_refused : (n : ℕ) (seen : List Happened) (key : ℕ) (found : Answer) → ((k : ℕ) → found ≡ answer.Number k → ⊥) → Tells n seen (asked.Enter key) found →
    IsAbsent (content_of n seen) key × IsFull (content_of n seen)
enter_refused n seen key (answer.Number number) never told = absurd (never number refl)
enter_refused n seen key answer.Full never told = told
enter_refused n seen key answer.Absent never told = absurd told

pub enter_told : (n : ℕ) (seen : List Happened) (key number : ℕ) (found : Answer) → found ≡ answer.Number number → Tells n seen (asked.Enter key) found →
    (number < n) × IsNumber (content_of n seen) key number
enter_told n seen key number found is told = subst (λ (a : Answer). Tells n seen (asked.Enter key) a) is told

-- the call enters this pattern alone
pub one_entered : {O : Type 0} {n key : ℕ} {found : Answer} {old new : Known O} (entry : Entry) → key ≡ entry.shape →
    IsLater n old (call.Asked (asked.Enter key) found ∷ []) new → EntersOnly n (IsKeyIn (entry ∷ [])) old new
one_entered {key = key} {found = found} entry is later = record {
  made = call.Asked (asked.Enter key) found ∷ [];
  later = later;
  only = (record { entry = entry; among = is_among (entry ∷ []) 0 (omega arith); key_is = sym is }, tt);
}

-- ---- the calls of a block
firsts_later : {n : ℕ} {seen history : List Happened} {entries : List Entry} → Keeps n seen history → (number game : ℕ) →
    IsFirstOf n seen entries number game → IsFirstOf n history entries number game
firsts_later keeps number game is = record {
  entry = is.entry;
  among = is.among;
  first = is.first;
  number_is = keeps.numbers is.entry.shape number is.number_is;
}

module _ {O : Type 0} {n : ℕ} {entries : List Entry} {first old new : Known O} where
  -- the first game of one entry more is marked
  pub marks_more : {seen : List Happened} (i number : ℕ) (game : Option ℕ) → i < length entries → game ≡ (entry_at entries i).first →
      IsNumber (content_of n seen) (entry_at entries i).shape number → MarksOnly n (IsFirstOf n seen entries) first old →
      MarksOnly n (IsMarkAt number game) old new → MarksOnly n (IsFirstOf n seen entries) first new
  marks_more {seen = seen} i number game inside first_is is before marks =
      calls_through n (λ _ _. ⊥) (IsFirstOf n seen entries) first old new before
      (calls_weaker n (λ _ _. ⊥) (λ _ _. ⊥) (IsMarkAt number game) (IsFirstOf n seen entries) old new (λ key found none. none)
      (λ at marked h. record {
        entry = entry_at entries i;
        among = is_among entries i inside;
        first = sym first_is ∙ h.1;
        number_is = rw h.0 is;
      }) marks)

  -- what was entered, and then marked
  pub block_calls : EntersOnly n (IsKeyIn entries) first old → MarksOnly n (IsFirstOf n old.seen entries) old new →
      CallsOnly n (IsKeyIn entries) (IsFirstOf n new.seen entries) first new
  block_calls enters marks =
      let firsts = IsFirstOf n new.seen entries in
      calls_through n (IsKeyIn entries) firsts first old new
      (calls_weaker n (IsKeyIn entries) (IsKeyIn entries) (λ _ _. ⊥) firsts first old (λ key found is. is) (λ number game none. absurd none) enters)
      (calls_weaker n (λ _ _. ⊥) (IsKeyIn entries) (IsFirstOf n old.seen entries) firsts old new (λ key found none. absurd none)
      (firsts_later marks.later.keeps) marks)

-- ---- entries that have numbers
-- they have them later too
pub settled_later : {n : ℕ} {seen history : List Happened} (entries : List Entry) → Keeps n seen history →
    All (IsSettled n seen) entries → All (IsSettled n history) entries
settled_later {n = n} {seen = seen} {history = history} entries keeps h = All-weaker (IsSettled n seen) (IsSettled n history) (λ e is. record {
  number = is.number;
  stands = keeps.numbers e.shape is.number is.stands;
  marked = IfSome_then e.first is.marked (λ game marked. keeps.marks is.number game marked);
}) entries h

-- ---- one entry after another
-- the entries before a place, the one there, and those after it
pub parted_at : (entries : List Entry) (i : ℕ) (entry : Entry) → i < length entries → entry ≡ get_or entries i entry →
    take i entries ++ ((entry ∷ []) ++ drop (i + 1) entries) ≡ entries
parted_at entries i entry inside is =
    sym (append_assoc (take i entries) (entry ∷ []) (drop (i + 1) entries))
    ∙ ap (λ (l : List Entry). l ++ drop (i + 1) entries) (ap (λ (e : Entry). take i entries ++ e ∷ []) is ∙ sym (take_more entries i entry inside))
    ∙ take-append-drop (i + 1) entries

module _ (entries done block rest : List Entry) (parts : done ++ (block ++ rest) ≡ entries) where
  among_all : (e : Entry) → Contains block e → Contains entries e
  among_all e among = subst (λ (es : List Entry). Contains es e) parts
      (Contains-append_right done (block ++ rest) e (Contains-append_left block rest e among))

  pub fault_of_all : (n : ℕ) (seen : List Happened) (found : HarvestFault) → IsNumberFault n seen block found →
      IsNumberFault n seen entries found
  fault_of_all n seen (fault.Full game word) h = ((h.0.0, among_all h.0.0 h.0.1, h.0.2, h.0.3), h.1, h.2)
  fault_of_all n seen _ h = absurd h

  pub calls_of_all : {O : Type 0} {n : ℕ} {first old new : Known O} →
      CallsOnly n (IsKeyIn entries) (IsFirstOf n old.seen entries) first old →
      CallsOnly n (IsKeyIn block) (IsFirstOf n new.seen block) old new →
      CallsOnly n (IsKeyIn entries) (IsFirstOf n new.seen entries) first new
  calls_of_all {n = n} {first = first} {old = old} {new = new} before calls =
      let firsts = IsFirstOf n new.seen entries in
      calls_through n (IsKeyIn entries) firsts first old new
      (calls_weaker n (IsKeyIn entries) (IsKeyIn entries) (IsFirstOf n old.seen entries) firsts first old (λ key found is. is)
      (firsts_later calls.later.keeps) before)
      (calls_weaker n (IsKeyIn block) (IsKeyIn entries) (IsFirstOf n new.seen block) firsts old new
      (λ key found is. record { entry = is.entry; among = among_all is.entry is.among; key_is = is.key_is })
      (λ number game is. record {
        entry = is.entry;
        among = among_all is.entry is.among;
        first = is.first;
        number_is = is.number_is;
      }) calls)

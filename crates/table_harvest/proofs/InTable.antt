-- Shares and the table: what stays so when a game is added or refused.
use Rattle.std.proofs.Common.{◌≡◌, ℕ, zero, suc, ◌<◌, ◌≤◌, ◌==◌, nat_lt, ◌⊎◌, inl, inr, min, true, false, cond, List, [], ◌∷◌, ◌++◌, length, length-append, get_or, Option, Some, None, refl, ap, sym, subst, ◌∙◌, arith, ⊎_elim, Contains}
use Rattle.std.proofs.lemmas.Bool.{cases_lt}
use Rattle.std.proofs.Math.ListN.{get_or-append}
use Rattle.std.proofs.lemmas.Bool.Decides.{nat_tests}
use Rattle.std.proofs.lemmas.List.{map-append, get_or_default}
use Rattle.std.proofs.lemmas.List.Elements.{All-contains, All-from_recursion, Contains-append_left, Contains-append_cases}
use Rattle.std.proofs.lemmas.Option.{same_Some}
use Rattle.std.specs.List.{AllByRecursion}
use Rattle.go_record.specs.Actions.{Actions}
use Rattle.shape_core.specs.declared.words.Kinds.{Kinds}
use Rattle.tally_core.specs.Counts.{kinds_of, there_in}
use Rattle.std.specs.Prelude.{slice_index_or}
use Rattle.probe_core.specs.Sequential.{IsNumber, IsAbsent, IsFull}
use Rattle.probe_core.specs.declared.calls.Call.TheVariants as asked
use Rattle.probe_core.specs.declared.calls.Answer.TheVariants as answer
use Rattle.slot_table.specs.declared.entries.Happened.{Happened}
use Rattle.slot_table.specs.declared.entries.Happened.TheVariants as call
use Rattle.slot_table.specs.History.{content_of, least_at, IsAtMost, IsLegal, Keeps}
use Rattle.slot_table.specs.Passes.{Known}
use Rattle.slot_table.proofs.Later.{later_through}
use Rattle.slot_table.proofs.Histories.{length-content}
use Rattle.slot_table.proofs.Contents.{one_number, one_key, number_below, number_shown, free_shown}
use Rattle.gather_core.specs.declared.rows.Row.{Row}
use Rattle.harvest_faults.specs.declared.faults.HarvestFault.{HarvestFault}
use Rattle.harvest_faults.specs.declared.faults.HarvestFault.TheVariants as fault
use Rattle.table_shares.specs.Rows.{row_at, blank, first_at}
use Rattle.gather_core.specs.Rows.{first_of, earlier}
use Rattle.table_shares.specs.Raising.{Numbered, numbered_of}
use Rattle.gather_core.specs.Entering.{IsCall}
use Rattle.table_shares.specs.Making.{HasRow}
use Rattle.table_shares.specs.Checking.{Stand}
use Rattle.gather_core.specs.Shares.{Held, game_of}
use Rattle.gather_core.specs.Adding.{IsAdded}
use Rattle.table_shares.specs.Adding.{HasGrown, IsKept, AreFresh, IsAddFault, IsMarked, IsRowed, IsRowedAfter, IsEntryOf, IsMarkOf}
use Rattle.table_shares.proofs.Raised.{same_shape, same_number, same_length}
use Rattle.table_shares.proofs.Standings.{stand_grown, stand_kept}
use Rattle.table_harvest.specs.declared.working.Worked.{Worked}
use Rattle.table_harvest.specs.InTable.{AreFirstsMarked, HasGameBy, StandsIn, HasItsRows, IsFullOf, IsInTable, IsInTableSince, GoesOnInTable}
use Rattle.table_harvest.specs.Working.{IsCallIn}

-- ---- least games of rows
at_most_earlier : (a b : Option ℕ) (game : ℕ) → IsAtMost a game → IsAtMost (earlier a b) game
at_most_earlier None b game h = absurd h
at_most_earlier (Some a) None game h = h
at_most_earlier (Some a) (Some b) game h = omega (arith, h)

at_most_other : (a b : Option ℕ) (game : ℕ) → IsAtMost b game → IsAtMost (earlier a b) game
at_most_other None b game h = h
at_most_other (Some a) None game h = absurd h
at_most_other (Some a) (Some b) game h = omega (arith, h)

-- the lesser of two is one of them
earlier_cases : (a b : Option ℕ) (game : ℕ) → earlier a b ≡ Some game → (a ≡ Some game) ⊎ (b ≡ Some game)
earlier_cases None b game is = inr is
earlier_cases (Some a) None game is = inl is
earlier_cases (Some a) (Some b) game is =
    let least : min a b ≡ game = cc in
    ⊎_elim
    (λ (low : b < a). inr (ap (λ x. Some x) (let e : b ≡ game = omega arith in e)))
    (λ (high : a ≤ b). inl (ap (λ x. Some x) (let e : a ≡ game = omega arith in e)))
    (cases_lt b a)

at_most_up : (a : Option ℕ) (game later : ℕ) → game ≤ later → IsAtMost a game → IsAtMost a later
at_most_up None game later up h = absurd h
at_most_up (Some a) game later up h = omega (arith, h)

pub contains_cons : {X : Type 0} (x : X) (xs : List X) (y : X) → Contains xs y → Contains (x ∷ xs) y
contains_cons x xs y h = (suc h.0, omega (arith, h.1), h.2)

-- ---- the least game of the rows with a key, as their number or their pattern
module _ (key : Row → ℕ) (first : List Row → ℕ → Option ℕ) (none : (k : ℕ) → first [] k ≡ None)
    (more : (row : Row) (rows : List Row) (k : ℕ) → first (row ∷ rows) k ≡ earlier (cond (key row == k) row.first None) (first rows k)) where
  -- it is that of one of them
  pub least_row : (rows : List Row) (k game : ℕ) → first rows k ≡ Some game → (row : Row) × Contains rows row × (key row ≡ k) × (row.first ≡ Some game)
  least_row [] k game is = absurd (let clash : Some game ≡ None = sym is ∙ none k in cc)
  least_row (row ∷ rows) k game is =
      elim (key row == k) as (λ b. (key row == k) ≡ b → earlier (cond b row.first None) (first rows k) ≡ Some game
      → (one : Row) × Contains (row ∷ rows) one × (key one ≡ k) × (one.first ≡ Some game)) [
        | true ↦ λ test found. ⊎_elim
            (λ (here : row.first ≡ Some game). (row, (0, omega arith, refl), (let same : key row ≡ k = Prim.grind (arith, nat_tests) in same), here))
            (λ (there : first rows k ≡ Some game). (let one = least_row rows k game there in (one.0, contains_cons row rows one.0 one.1, one.2, one.3)))
            (earlier_cases row.first (first rows k) game found)
        | false ↦ λ test found. (let one = least_row rows k game found in (one.0, contains_cons row rows one.0 one.1, one.2, one.3))
      ] refl (sym (more row rows k) ∙ is)

  -- and no later than that of each of them
  pub least_by : (rows : List Row) (at : ℕ) (row : Row) (game : ℕ) → at < length rows → get_or rows at row ≡ row → IsAtMost row.first game → IsAtMost (first rows (key row)) game
  least_by [] at row game low is by = absurd (omega arith)
  least_by (one ∷ rows) zero row game low is by =
      let same : key one ≡ key row = ap key is in
      let test : (key one == key row) ≡ true = Prim.grind (arith, nat_tests) in
      subst (λ f. IsAtMost f game) (sym (more one rows (key row)))
      (subst (λ b. IsAtMost (earlier (cond b one.first None) (first rows (key row))) game) (sym test)
      (at_most_earlier one.first (first rows (key row)) game (subst (λ (f : Option ℕ). IsAtMost f game) (ap (λ (r : Row). r.first) (sym is)) by)))
  least_by (one ∷ rows) (suc at) row game low is by =
      subst (λ f. IsAtMost f game) (sym (more one rows (key row)))
      (at_most_other (cond (key one == key row) one.first None) (first rows (key row)) game (least_by rows at row game (omega arith) is by))

-- of a pattern
pub first_row : (rows : List Row) (shape game : ℕ) → first_of rows shape ≡ Some game → (row : Row) × Contains rows row × (row.shape ≡ shape) × (row.first ≡ Some game)
first_row = least_row (λ (row : Row). row.shape) first_of (λ k. refl) (λ row rows k. refl)

first_by : (rows : List Row) (at : ℕ) (row : Row) (game : ℕ) → at < length rows → get_or rows at row ≡ row → IsAtMost row.first game → IsAtMost (first_of rows row.shape) game
first_by = least_by (λ (row : Row). row.shape) first_of (λ k. refl) (λ row rows k. refl)

-- of a number
pub first_row_at : (rows : List Row) (number game : ℕ) → first_at rows number ≡ Some game → (row : Row) × Contains rows row × (row.number ≡ number) × (row.first ≡ Some game)
first_row_at = least_row (λ (row : Row). row.number) first_at (λ k. refl) (λ row rows k. refl)

pub first_by_at : (rows : List Row) (at : ℕ) (row : Row) (game : ℕ) → at < length rows → get_or rows at row ≡ row → IsAtMost row.first game → IsAtMost (first_at rows row.number) game
first_by_at = least_by (λ (row : Row). row.number) first_at (λ k. refl) (λ row rows k. refl)

-- a pattern that has a game was there
game_there : (times game least : ℕ) → cond (nat_lt 0 times) (Some game) None ≡ Some least → (0 < times) × (game ≡ least)
game_there times game least is =
    elim (nat_lt 0 times) as (λ b. nat_lt 0 times ≡ b → cond b (Some game) None ≡ Some least → (0 < times) × (game ≡ least)) [
      | true ↦ λ test found. ((let some : 0 < times = Prim.grind (arith, nat_tests) in some), cc)
      | false ↦ λ test found. absurd cc
    ] refl is

-- a least game that is no later than this one is some game
pub some_by : (a : Option ℕ) (game : ℕ) → IsAtMost a game → (least : ℕ) × (a ≡ Some least) × (least ≤ game)
some_by None game h = absurd h
some_by (Some least) game h = (least, refl, h)

-- ---- rows after a game
module _ (n : ℕ) (before seen : List Happened) (keeps : Keeps n before seen) (held : Kinds) (actions : Actions) where
  -- ---- first games that are marked
  marked_with : (rows fresh : List Row) → AreFirstsMarked before rows → AreFresh n seen held actions fresh → AreFirstsMarked seen (rows ++ fresh)
  marked_with rows fresh marked made row among game is = ⊎_elim
      (λ (old : Contains rows row). keeps.marks row.number game (marked row old game is))
      (λ (new : Contains fresh row).
      let here : row_at fresh new.0 ≡ row = get_or_default fresh new.0 (blank 0 0) row new.1 ∙ new.2 in
      let none : row.first ≡ None = ap (λ (r : Row). r.first) (sym here) ∙ ap (λ (r : Row). r.first) (made new.0 new.1).0 in
      let clash : Some game ≡ None = sym is ∙ none in
      absurd cc)
      (Contains-append_cases rows fresh row among)

  pub marked_kept : (old new : Held) → AreFirstsMarked before old.rows → IsKept n seen actions old new → old.kinds ≡ held → AreFirstsMarked seen new.rows
  marked_kept old new marked kept same = subst (λ (share : Held). AreFirstsMarked seen share.rows) (sym kept.same)
      (marked_with old.rows kept.fresh marked (subst (λ k. AreFresh n seen k actions kept.fresh) same kept.made))

  -- ---- calls that stand in rows
  row_with : (rows fresh : List Row) (p key : ℕ) → HasRow rows p key → HasRow (rows ++ fresh) p key
  row_with rows fresh p key h =
      let low = h.within in
      let here : row_at (rows ++ fresh) h.place ≡ row_at rows h.place = get_or-append rows fresh (blank 0 0) h.place h.within in
      record {
        place = h.place;
        within = (let long = length-append rows fresh in omega arith);
        number_is = ap (λ (r : Row). r.number) here ∙ h.number_is;
        shape_is = ap (λ (r : Row). r.shape) here ∙ h.shape_is;
      }

  call_with : (rows fresh : List Row) (e : Happened) → StandsIn rows e → StandsIn (rows ++ fresh) e
  call_with rows fresh (call.Asked (asked.Enter key) (answer.Number p)) h = row_with rows fresh p key h
  call_with rows fresh (call.Asked (asked.Enter key) answer.Absent) h = tt
  call_with rows fresh (call.Asked (asked.Enter key) answer.Full) h = tt
  call_with rows fresh (call.Asked (asked.LookUp key) found) h = tt
  call_with rows fresh (call.Marked p game) h = record { row = h.row; among = Contains-append_left rows fresh h.row h.among; number_is = h.number_is; by = h.by }
  call_with rows fresh (call.First p found) h = tt

  pub call_kept : (old new : Held) → IsKept n seen actions old new → (e : Happened) → StandsIn old.rows e → StandsIn new.rows e
  call_kept old new kept e h = subst (λ (share : Held). StandsIn share.rows e) (sym kept.same) (call_with old.rows kept.fresh e h)

  module _ (legal : IsLegal n seen) (game : ℕ) (old new : Held) (stands : Stand n before old.rows) (added : IsAdded game actions old new) (grown : HasGrown n seen actions old new)
      (same : old.kinds ≡ held) where
    -- an old and a new row of one pattern are of one number
    one_row : (one two : Row) → Contains old.rows one → Contains new.rows two → two.shape ≡ one.shape → two.number ≡ one.number
    one_row one two among now shape =
        one_number n seen one.shape two.number one.number legal
        (subst (λ s. IsNumber (content_of n seen) s two.number) shape (stand_grown n before seen actions old new keeps grown stands two now))
        (keeps.numbers one.shape one.number (stands one among))

    -- what a game's patterns have in the table
    abbrev AreOwnMarked : Type 0
    AreOwnMarked = (shape : ℕ) → 0 < there_in (kinds_of old.kinds) (record { size = actions.size; occasions = added.occasions }) shape
        → (p : ℕ) × IsNumber (content_of n seen) shape p × IsAtMost (least_at p seen) game

    -- the first game of a row is marked
    pub marked_grown : AreFirstsMarked before old.rows → AreOwnMarked → AreFirstsMarked seen new.rows
    marked_grown marked own row among first is =
        let least = first_by new.rows among.0 row first among.1 among.2 (subst (λ f. IsAtMost f first) (sym is) (let low : first ≤ first = omega arith in low)) in
        let by = some_by (first_of new.rows row.shape) first least in
        let number = stand_grown n before seen actions old new keeps grown stands row among in
        at_most_up (least_at row.number seen) by.0 first by.2
        (⊎_elim
        (λ (had : first_of old.rows row.shape ≡ Some by.0).
        let one = first_row old.rows row.shape by.0 had in
        subst (λ p. IsAtMost (least_at p seen) by.0) (sym (one_row one.0 row one.1 among (sym one.2))) (keeps.marks one.0.number by.0 (marked one.0 one.1 by.0 one.3)))
        (λ (now : game_of old.kinds (record { game = game; actions = actions; occasions = added.occasions }) row.shape ≡ Some by.0).
        let there = game_there (there_in (kinds_of old.kinds) (record { size = actions.size; occasions = added.occasions }) row.shape) game by.0 now in
        let at = own row.shape there.0 in
        subst (λ g. IsAtMost (least_at row.number seen) g) there.1
        (subst (λ p. IsAtMost (least_at p seen) game) (one_number n seen row.shape at.0 row.number legal at.1 number) at.2))
        (earlier_cases (first_of old.rows row.shape) (game_of old.kinds (record { game = game; actions = actions; occasions = added.occasions }) row.shape) by.0 (sym (added.first row.shape) ∙ by.1)))

    -- a call that stood in the old rows stands in the new ones
    pub call_grown : (e : Happened) → StandsIn old.rows e → StandsIn new.rows e
    call_grown (call.Asked (asked.Enter key) (answer.Number p)) h =
        let both = old.rows ++ grown.fresh in
        let alike : numbered_of new.rows ≡ numbered_of both =
        grown.numbered ∙ sym (map-append (λ (r : Row). (let x : Numbered = record { number = r.number; shape = r.shape } in x)) old.rows grown.fresh) in
        let long = same_length new.rows both alike in
        let one = row_with old.rows grown.fresh p key h in
        let low = one.within in
        record {
          place = one.place;
          within = omega arith;
          number_is = same_number new.rows both one.place alike ∙ one.number_is;
          shape_is = same_shape new.rows both one.place alike ∙ one.shape_is;
        }
    call_grown (call.Asked (asked.Enter key) answer.Absent) h = tt
    call_grown (call.Asked (asked.Enter key) answer.Full) h = tt
    call_grown (call.Asked (asked.LookUp key) found) h = tt
    call_grown (call.Marked p marked) h =
        let was = first_by old.rows h.among.0 h.row marked h.among.1 h.among.2 h.by in
        let now : IsAtMost (first_of new.rows h.row.shape) marked = subst (λ (f : Option ℕ). IsAtMost f marked) (sym (added.first h.row.shape))
        (at_most_earlier (first_of old.rows h.row.shape) (game_of old.kinds (record { game = game; actions = actions; occasions = added.occasions }) h.row.shape) marked was) in
        let by = some_by (first_of new.rows h.row.shape) marked now in
        let row = first_row new.rows h.row.shape by.0 by.1 in
        record {
          row = row.0;
          among = row.1;
          number_is = one_row h.row row.0 h.among row.1 row.2 ∙ h.number_is;
          by = subst (λ f. IsAtMost f marked) (sym row.3) by.2;
        }
    call_grown (call.First p found) h = tt

-- ---- a game more
-- the calls that were made for a game stand in the rows
made_stand : (kinds : Kinds) (actions : Actions) (rows : List Row) (marks : ℕ → ℕ → Type 0) → ((number game : ℕ) → marks number game → HasGameBy rows number game) →
    (e : Happened) → IsCall (IsEntryOf kinds actions (IsRowed rows)) marks e → StandsIn rows e
made_stand kinds actions rows marks own (call.Asked (asked.Enter key) (answer.Number p)) h = h.has_row
made_stand kinds actions rows marks own (call.Asked (asked.Enter key) answer.Absent) h = tt
made_stand kinds actions rows marks own (call.Asked (asked.Enter key) answer.Full) h = tt
made_stand kinds actions rows marks own (call.Asked (asked.LookUp key) found) h = tt
made_stand kinds actions rows marks own (call.Marked p game) h = own p game h
made_stand kinds actions rows marks own (call.First p found) h = tt

-- the calls before and those of the game
both_stand : (rows : List Row) (calls made : List Happened) → ((e : Happened) → Contains calls e → StandsIn rows e) → ((e : Happened) → Contains made e → StandsIn rows e) →
    (e : Happened) → Contains (calls ++ made) e → StandsIn rows e
both_stand rows calls made before now e there = ⊎_elim (before e) (now e) (Contains-append_cases calls made e there)

-- a game was refused
pub in_table_kept : (n game : ℕ) (actions : Actions) (before seen calls made : List Happened) (old new : Worked) (found : HarvestFault) → Keeps n before seen → old.refused ≡ None → new.refused ≡ Some found →
    IsKept n seen actions old.share new.share → IsAddFault n seen game actions old.share new.share found →
    AllByRecursion (IsCall (IsEntryOf old.share.kinds actions (IsRowedAfter found new.share.rows)) (λ _ _. ⊥)) made → IsInTable n before calls old → IsInTable n seen (calls ++ made) new
in_table_kept n game actions before seen calls made old new found keeps none is kept why made_is h = record {
  stands = stand_kept n before seen actions old.share new.share keeps kept h.stands;
  marked = marked_kept n before seen keeps old.share.kinds actions old.share new.share h.marked kept refl;
  calls_stand = λ rows. both_stand new.share.rows calls made
      (λ e there. call_kept n before seen keeps old.share.kinds actions old.share new.share kept e (h.calls_stand (subst HasItsRows (sym none) tt) e there))
      (refused_stand found (subst HasItsRows is rows) (λ e there. All-contains (IsCall (IsEntryOf old.share.kinds actions (IsRowedAfter found new.share.rows)) (λ _ _. ⊥)) made e
      (All-from_recursion (IsCall (IsEntryOf old.share.kinds actions (IsRowedAfter found new.share.rows)) (λ _ _. ⊥)) made made_is) there));
  full = λ at word refused. full_found found (sym is ∙ refused) why;
}
  where
    refused_stand : (one : HarvestFault) → HasItsRows (Some one) → ((e : Happened) → Contains made e → IsCall (IsEntryOf old.share.kinds actions (IsRowedAfter one new.share.rows)) (λ _ _. ⊥) e) →
        (e : Happened) → Contains made e → StandsIn new.share.rows e
    refused_stand (fault.Full at word) rows each e there = made_stand old.share.kinds actions new.share.rows (λ _ _. ⊥) (λ number marked no. absurd no) e (each e there)
    refused_stand fault.Memory rows each e there = absurd rows
    refused_stand (fault.Stranger number of_share of_table) rows each e there = absurd rows
    refused_stand fault.Overflow rows each e there = absurd rows
    refused_stand (fault.Missing other) rows each e there = absurd rows
    refused_stand (fault.Twice other) rows each e there = absurd rows
    refused_stand fault.BadSettings rows each e there = absurd rows
    refused_stand (fault.Sgf other) rows each e there = absurd rows
    refused_stand (fault.Marks number of_shares of_table) rows each e there = absurd rows

    full_found : {at word : ℕ} (one : HarvestFault) → Some one ≡ Some (fault.Full at word) → IsAddFault n seen game actions old.share new.share one → IsAbsent (content_of n seen) word × IsFull (content_of n seen)
    full_found {at = at} {word = word} one same h =
        let why : IsAddFault n seen game actions old.share new.share (fault.Full at word) = subst (IsAddFault n seen game actions old.share new.share) (same_Some one (fault.Full at word) same) h in
        (why.2, why.3)

-- a game was added
pub in_table_grown : (n game : ℕ) (actions : Actions) (before seen calls made : List Happened) (old new : Worked) → Keeps n before seen → IsLegal n seen → old.refused ≡ None → new.refused ≡ None →
    HasGrown n seen actions old.share new.share → IsMarked n seen game actions old.share new.share →
    AllByRecursion (IsCall (IsEntryOf old.share.kinds actions (IsRowed new.share.rows)) (IsMarkOf n seen old.share.kinds actions new.share.rows game)) made → IsInTable n before calls old →
    IsInTable n seen (calls ++ made) new
in_table_grown n game actions before seen calls made old new keeps legal none still grown own made_is h =
    let marks = IsMarkOf n seen old.share.kinds actions new.share.rows game in
    let each = All-from_recursion (IsCall (IsEntryOf old.share.kinds actions (IsRowed new.share.rows)) marks) made made_is in
    record {
      stands = stand_grown n before seen actions old.share new.share keeps grown h.stands;
      marked = marked_grown n before seen keeps old.share.kinds actions legal game old.share new.share h.stands own.0 grown refl h.marked own.1;
      calls_stand = λ rows. both_stand new.share.rows calls made
          (λ e there. call_grown n before seen keeps old.share.kinds actions legal game old.share new.share h.stands own.0 grown refl e (h.calls_stand (subst HasItsRows (sym none) tt) e there))
          (λ e there. made_stand old.share.kinds actions new.share.rows marks
          (λ number marked one. record { row = one.row; among = one.there; number_is = one.number_is; by = subst (IsAtMost one.row.first) (sym one.game_is) one.first }) e
          (All-contains (IsCall (IsEntryOf old.share.kinds actions (IsRowed new.share.rows)) marks) made e each there));
      full = λ at word refused. absurd (let clash : Some (fault.Full at word) ≡ None = sym refused ∙ still in cc);
    }

-- ---- what is seen later
-- a call of the input stays one
pub call_in_kept : (n : ℕ) (seen history : List Happened) (bytes : List ℕ) (kinds : Kinds) → Keeps n seen history → (e : Happened) → IsCallIn n seen bytes kinds e → IsCallIn n history bytes kinds e
call_in_kept n seen history bytes kinds keeps (call.Asked (asked.Enter key) found) h = h
call_in_kept n seen history bytes kinds keeps (call.Asked (asked.LookUp key) found) h = tt
call_in_kept n seen history bytes kinds keeps (call.Marked p game) h = record { shape = h.shape; pattern = h.pattern; number_is = keeps.numbers h.shape p h.number_is }
call_in_kept n seen history bytes kinds keeps (call.First p found) h = tt

-- a full table stays full
pub full_kept : (n : ℕ) (seen history : List Happened) → Keeps n seen history → IsFull (content_of n seen) → IsFull (content_of n history)
full_kept n seen history keeps full p free =
    let low : p < n = (let long = length-content n history in let inside = free.within in omega arith) in
    taken low (slice_index_or (content_of n seen) p None) refl
  where
    taken : p < n → (found : Option ℕ) → slice_index_or (content_of n seen) p None ≡ found → ⊥
    taken low None is = full p (free_shown n seen p low is)
    taken low (Some key) is =
        let number = keeps.numbers key p (number_shown n seen key p low is) in
        let clash : Some key ≡ None = sym number.stands ∙ free.free in absurd cc

-- and a pattern that is not in it stays out
pub absent_kept : (n : ℕ) (seen history : List Happened) (word : ℕ) → Keeps n seen history → IsFull (content_of n seen) → IsAbsent (content_of n seen) word → IsAbsent (content_of n history) word
absent_kept n seen history word keeps full absent p number =
    let low : p < n = number_below n history word p number in
    taken low (slice_index_or (content_of n seen) p None) refl
  where
    taken : p < n → (found : Option ℕ) → slice_index_or (content_of n seen) p None ≡ found → ⊥
    taken low None is = full p (free_shown n seen p low is)
    taken low (Some key) is =
        let here = number_shown n seen key p low is in
        let same : key ≡ word = one_key n history key word p (keeps.numbers key p here) number in
        absent p (subst (λ k. IsNumber (content_of n seen) k p) same here)

pub still_full : (n : ℕ) (seen history : List Happened) (refused : Option HarvestFault) → Keeps n seen history → IsFullOf n seen refused → IsFullOf n history refused
still_full n seen history refused keeps h game word is =
    let was = h game word is in (absent_kept n seen history word keeps was.1 was.0, full_kept n seen history keeps was.1)

-- what was counted stands in the table later too
pub still_in_table : (n : ℕ) (seen history calls : List Happened) (worked : Worked) → Keeps n seen history → IsInTable n seen calls worked → IsInTable n history calls worked
still_in_table n seen history calls worked keeps h = record {
  stands = λ row among. keeps.numbers row.shape row.number (h.stands row among);
  marked = λ row among game is. keeps.marks row.number game (h.marked row among game is);
  calls_stand = h.calls_stand;
  full = still_full n seen history worked.refused keeps h.full;
}

-- where nothing was counted, all stands
pub begins_in_table : (n : ℕ) (seen : List Happened) (worked : Worked) → worked.share.rows ≡ [] → worked.refused ≡ None → IsInTable n seen [] worked
begins_in_table n seen worked none fine = record {
  stands = λ row among. absurd (no_row row among);
  marked = λ row among game is. absurd (no_row row among);
  calls_stand = λ rows e among. absurd (let low = among.1 in omega arith);
  full = λ game word is. absurd (let clash : Some (fault.Full game word) ≡ None = sym is ∙ fine in cc);
}
  where
    no_row : (row : Row) → Contains worked.share.rows row → ⊥
    no_row row among = let here : Contains [] row = subst (λ (rs : List Row). Contains rs row) none among in let low = here.1 in absurd (omega arith)

-- what was counted in two steps
pub goes_on : {O : Type 0} (n : ℕ) (first before after : Known O) (old new : Worked) → IsInTableSince n first before old → GoesOnInTable n before after old new → IsInTableSince n first after new
goes_on n first before after old new h step =
    let more = step h.0 h.2 in
    (h.0 ++ more.0, later_through n first before after h.0 more.0 h.1 more.1, more.2)

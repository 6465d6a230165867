-- Shares over a table to which a game was added, or that refused it, and what the table has then.
use Rattle.std.proofs.Common.{◌≡◌, ℕ, ◌+◌, ◌<◌, ◌==◌, cond, suc, List, [], ◌∷◌, ◌++◌, length, Some, None, refl, ap, ap₂, ◌∙◌, arith, inl, inr, ⊎_elim, All}
use Rattle.table_shares.proofs.Common.{sum_by, cases_eq, nat_tests, map-append, All-head, All-tail, Contains-get_or, sum_by-cons, Actions, Kinds, Answer, IsNumber, Happened, content_of, Keeps, Known, Meeting, kinds_of, there_in, IsWalk, there_among, Row, HarvestFault, row_at, blank, first_of, earlier, numbered_of, weight_of, CallsOnly, EntersOnly, Held, Added, game_of, IsShareOf, IsShare, IsAdded, HasGrown, IsKept, IsMarked, IsAddFault, IsEntryOf, IsRowed, IsRowedAfter, IsMarkOf, HasFresh, IsPrepared, AreMarked, MarksOnly, IsMarkAmong, IsOf, answer_at, game_met, meeting_at, AreRaised}
use Rattle.go_board.specs.Extent.{IsExtent}
use Rattle.probe_core.specs.declared.calls.Answer.TheVariants as answer
use Rattle.harvest_faults.specs.declared.faults.HarvestFault.TheVariants as fault
use Rattle.table_shares.specs.Inner.Ledgers.{Totals, CountsIn, IsCountFault}
use Rattle.table_shares.proofs.Raised.{numbered, has_row_stays}
use Rattle.gather_core.proofs.Added.{earlier_none, first_append}
use Rattle.table_shares.proofs.Made.{AreBlank, same_sum, met_pattern}
use Rattle.gather_core.proofs.Calls.{calls_through, calls_weaker}
use Rattle.table_shares.proofs.Entered.{told_at}

-- ---- rows that count nothing
first_none : (fresh : List Row) (shape : ℕ) → AreBlank fresh → first_of fresh shape ≡ None
first_none [] shape h = refl
first_none (row ∷ fresh) shape h =
    let first = ap (λ (r : Row). r.first) (h 0 (omega arith)) in
    Prim.grind (arith, first, first_none fresh shape (λ k inside. h (suc k) (omega arith)))

module _ (rows fresh : List Row) {all : List Row} (is : all ≡ rows ++ fresh) (none : AreBlank fresh) where
  count_same : (count : Row → ℕ) → ((number shape : ℕ) → count (blank number shape) ≡ 0) → (shape : ℕ) →
      sum_by (λ (r : Row). cond (r.shape == shape) (count r) 0) all
      ≡ sum_by (λ (r : Row). cond (r.shape == shape) (count r) 0) rows
  count_same count zero shape =
      let counted : Row → ℕ = λ (r : Row). cond (r.shape == shape) (count r) 0 in
      ap (sum_by counted) is ∙ same_sum counted (λ number s. Prim.grind (arith, zero number s)) rows fresh none

  first_same : (shape : ℕ) → first_of all shape ≡ first_of rows shape
  first_same shape =
      ap (λ (rs : List Row). first_of rs shape) is ∙ first_append rows fresh shape
      ∙ ap (earlier (first_of rows shape)) (first_none fresh shape none) ∙ earlier_none (first_of rows shape)

  weight_same : weight_of all ≡ weight_of rows
  weight_same = ap weight_of is ∙ same_sum (λ (r : Row). r.there + r.played) (λ _ _. refl) rows fresh none

-- a share that refused a game is of the same games
pub still_of : (added : List Added) (held : Held) (fresh : List Row) → AreBlank fresh → IsShareOf added held →
    IsShareOf added (record held { rows = held.rows ++ fresh })
still_of added held fresh h share =
    let there = count_same held.rows fresh refl h (λ (r : Row). r.there) (λ _ _. refl) in
    let played = count_same held.rows fresh refl h (λ (r : Row). r.played) (λ _ _. refl) in
    record {
      replays = share.replays;
      sized = share.sized;
      games = share.games;
      moves = share.moves;
      there = λ shape. there shape ∙ share.there shape;
      played = λ shape. played shape ∙ share.played shape;
      first = λ shape. first_same held.rows fresh refl h shape ∙ share.first shape;
      among = λ shape. omega (arith, there shape, played shape, share.among shape);
    }

-- ---- which patterns a walk met
met_some : (game : ℕ) (meetings : List Meeting) (shape : ℕ) → 0 < there_among meetings shape →
    game_met game meetings shape ≡ Some game
met_some game [] shape some = absurd (omega arith)
met_some game (m ∷ meetings) shape some =
    Prim.grind (arith, sum_by-cons (λ (x : Meeting). cond (x.shape == shape) x.there 0) m meetings, met_some game meetings shape)

met_none : (f : ℕ → ℕ) (game : ℕ) (meetings : List Meeting) (shape : ℕ) → All (λ (m : Meeting). 0 < f m.shape) meetings →
    f shape ≡ 0 → game_met game meetings shape ≡ None
met_none f game [] shape all none = refl
met_none f game (m ∷ meetings) shape all none =
    let some = All-head (λ (m : Meeting). 0 < f m.shape) m meetings all in
    let rest = met_none f game meetings shape (All-tail (λ (m : Meeting). 0 < f m.shape) m meetings all) none in
    Prim.grind (arith, nat_tests, some, rest, λ (e : m.shape ≡ shape). ap f e)

met_game : {kinds : Kinds} {actions : Actions} {meetings : List Meeting} {moves : ℕ} →
    (walk : IsWalk kinds actions meetings moves) (game shape : ℕ) →
    game_met game meetings shape ≡ game_of kinds (record { game = game; actions = actions; occasions = walk.occasions }) shape
met_game {kinds = kinds} {actions = actions} {meetings = meetings} walk game shape =
    let f : ℕ → ℕ = λ s. there_in (kinds_of kinds) (record { size = actions.size; occasions = walk.occasions }) s in
    Prim.grind (arith, nat_tests, walk.there shape, met_some game meetings shape, met_none f game meetings shape walk.met)

-- a pattern of the game has a meeting
met_at : (meetings : List Meeting) (shape : ℕ) → 0 < there_among meetings shape →
    (i : ℕ) × (i < length meetings) × ((meeting_at meetings i).shape ≡ shape)
met_at [] shape some = absurd (omega arith)
met_at (m ∷ meetings) shape some =
    let parts = sum_by-cons (λ (x : Meeting). cond (x.shape == shape) x.there 0) m meetings in
    ⊎_elim
    (λ (here : m.shape ≡ shape). (0, (let l : 0 < suc (length meetings) = omega arith in l), here))
    (λ (away : m.shape ≡ shape → ⊥).
    let deep = met_at meetings shape (Prim.grind (arith, nat_tests, parts, away, some)) in
    (suc deep.0, (let l : suc deep.0 < suc (length meetings) = omega (arith, deep.1) in l), deep.2))
    (cases_eq m.shape shape)

-- ---- rows that were raised are of the same numbers and patterns
rowed_stays : (rows new : List Row) → numbered_of new ≡ numbered_of rows → (key : ℕ) (found : Answer) → IsRowed rows key found →
    IsRowed new key found
rowed_stays rows new same key (answer.Number number) h = has_row_stays rows new number key same h
rowed_stays rows new same key _ h = tt

rowed_after : (one : HarvestFault) (rows : List Row) (key : ℕ) (found : Answer) → IsRowed rows key found →
    IsRowedAfter one rows key found
rowed_after fault.Memory rows key found h = tt
rowed_after (fault.Stranger number of_share of_table) rows key found h = tt
rowed_after _ rows key found h = h

-- what was entered, once a fault is known
pub entered_after : {O : Type 0} {n : ℕ} {kinds : Kinds} {actions : Actions} (rows : List Row) (one : HarvestFault)
    {old new : Known O} → EntersOnly n (IsEntryOf kinds actions (IsRowed rows)) old new →
    EntersOnly n (IsEntryOf kinds actions (IsRowedAfter one rows)) old new
entered_after {n = n} {kinds = kinds} {actions = actions} rows one {old = old} {new = new} h =
    calls_weaker n (IsEntryOf kinds actions (IsRowed rows)) (IsEntryOf kinds actions (IsRowedAfter one rows)) (λ _ _. ⊥)
    (λ _ _. ⊥) old new
    (λ key found entry. record { pattern = entry.pattern; has_row = rowed_after one rows key found entry.has_row })
    (λ number marked none. none) h

-- ---- the share, once the game was prepared
abbrev pub held_as : ℕ → Kinds → Totals → Held
held_as worker kinds totals =
    record { worker = worker; kinds = kinds; games = totals.games; moves = totals.moves; rows = totals.rows }

abbrev pub totals_of : Held → Totals
totals_of held = record { games = held.games; moves = held.moves; rows = held.rows }

-- it has rows besides, and is the same in all else
pub prepared : (worker : ℕ) (totals : Totals) {n : ℕ} {seen : List Happened} {kinds other : Kinds} {actions : Actions}
    {rows : List Row} → HasFresh n seen kinds actions totals.rows rows → other ≡ kinds →
    IsKept n seen actions (held_as worker kinds totals) (held_as worker other (record totals { rows = rows }))
prepared worker totals h same_kinds = let rows = h.rows in record { fresh = h.fresh; made = h.made; same = cc }

module _ {n : ℕ} {seen : List Happened} {actions : Actions} {old mid : Held} (kept : IsKept n seen actions old mid) where
  none_counted : AreBlank kept.fresh
  none_counted k inside = (kept.made k inside).0

  rows_are : mid.rows ≡ old.rows ++ kept.fresh
  rows_are = ap (λ (h : Held). h.rows) kept.same

  pub kept_share : IsShare old → IsShare mid
  kept_share share = rw kept.same
      (record { added = share.added; is_of = still_of share.added old kept.fresh none_counted share.is_of })

  pub count_fault : {moves : ℕ} {meetings : List Meeting} (game : ℕ) (new : Held) (found : HarvestFault) →
      IsWalk old.kinds actions meetings moves → IsCountFault moves meetings (totals_of mid) found →
      IsAddFault n seen game actions old new found
  count_fault game new fault.Memory walk h = tt
  count_fault {moves = moves} {meetings = meetings} game new fault.Overflow walk h =
      let weight = weight_same old.rows kept.fresh rows_are none_counted in
      let same = ap (λ (h : Held). h.moves) kept.same in
      inl (record { meetings = meetings; moves = moves; walked = walk; large = Prim.grind (arith) })
  count_fault game new _ walk h = absurd h

-- ---- the game was walked, its patterns have numbers, and these have rows
module _ {n game moves : ℕ} {seen : List Happened} {kinds : Kinds} {actions : Actions} {meetings : List Meeting}
    {answers : List Answer} {rows new : List Row} (ready : IsPrepared n seen kinds actions meetings answers rows moves)
    (raised : AreRaised meetings meetings answers game rows new) where
  -- a row of what was answered for a meeting is of the number of its pattern
  stands_of : (i : ℕ) (row : Row) → i < length meetings → IsOf (answer_at answers i) (meeting_at meetings i).shape row →
      IsNumber (content_of n seen) row.shape row.number
  stands_of i row inside is_of =
      rw is_of.1 (told_at n seen meetings answers i (answer.Number row.number) ready.told inside is_of.0).1

  -- a mark at a number that was entered is at that of a pattern of the game, and at that of its row
  mark_of : {history : List Happened} → Keeps n seen history → (number marked : ℕ) → IsMarkAmong answers game number marked →
      IsMarkOf n history kinds actions new game number marked
  mark_of keeps number marked h =
      let i = h.1.0 in
      let inside : i < length meetings = omega (arith, h.1.1, ready.rowed.long) in
      let begun = raised.begun i inside in
      let row = row_at new begun.0 in
      let number_is : row.number ≡ number = cc (begun.2.0, h.1.2) in
      record {
        game_is = h.0;
        row = row;
        there = Contains-get_or new begun.0 (blank 0 0) begun.1;
        number_is = number_is;
        first = begun.3;
        pattern = rw begun.2.1 (met_pattern ready.walked i inside);
        stands = keeps.numbers row.shape number (rw number_is at (stands_of i row inside begun.2));
      }

  -- what was entered, and then marked
  pub calls_for : {O : Type 0} {first old last : Known O} → EntersOnly n (IsEntryOf kinds actions (IsRowed rows)) first old →
      MarksOnly n (IsMarkAmong answers game) old last → Keeps n seen last.seen →
      CallsOnly n (IsEntryOf kinds actions (IsRowed new)) (IsMarkOf n last.seen kinds actions new game) first last
  calls_for {first = first} {old = old} {last = last} before after keeps =
      let enters = IsEntryOf kinds actions (IsRowed new) in
      let marks = IsMarkOf n last.seen kinds actions new game in
      calls_through n enters marks first old last
      (calls_weaker n (IsEntryOf kinds actions (IsRowed rows)) enters (λ _ _. ⊥) marks first old
      (λ key found entry.
      record { pattern = entry.pattern; has_row = rowed_stays rows new raised.numbered key found entry.has_row })
      (λ number marked none. absurd none) before)
      (calls_weaker n (λ _ _. ⊥) enters (IsMarkAmong answers game) marks old last (λ key found none. absurd none)
      (mark_of keeps) after)

module _ {n game moves : ℕ} {seen : List Happened} {actions : Actions} {meetings : List Meeting} {answers : List Answer}
    {old mid : Held} {after : Totals} (kept : IsKept n seen actions old mid)
    (ready : IsPrepared n seen old.kinds actions meetings answers mid.rows moves)
    (counts : CountsIn game moves meetings answers (totals_of mid) after) where
  pub counted : IsExtent actions.size → IsAdded game actions old (held_as mid.worker mid.kinds after)
  counted extent = record {
    occasions = ready.walked.occasions;
    replayed = ready.walked.replayed;
    sized = extent;
    worker = ap (λ (h : Held). h.worker) kept.same;
    kinds = ap (λ (h : Held). h.kinds) kept.same;
    games = counts.games ∙ ap (λ (h : Held). h.games ++ game ∷ []) kept.same;
    moves = counts.moves_are ∙ ap₂ (λ (h : Held) m. h.moves + m) kept.same ready.walked.moves_counted;
    there = λ shape.
        let same = count_same old.rows kept.fresh (rows_are kept) (none_counted kept) (λ r. r.there) (λ _ _. refl) shape in
        counts.rows.there shape ∙ ap₂ (λ a b. a + b) same (ready.walked.there shape);
    played = λ shape.
        let same = count_same old.rows kept.fresh (rows_are kept) (none_counted kept) (λ r. r.played) (λ _ _. refl) shape in
        counts.rows.played shape ∙ ap₂ (λ a b. a + b) same (ready.walked.played shape);
    among = λ shape. omega (arith, ready.walked.there shape, ready.walked.played shape, ready.among shape);
    first = λ shape.
        let same = first_same old.rows kept.fresh (rows_are kept) (none_counted kept) shape in
        counts.rows.first shape ∙ ap₂ earlier same (met_game ready.walked game shape);
  }

  pub grown : {history : List Happened} → Keeps n seen history →
      HasGrown n history actions old (held_as mid.worker mid.kinds after)
  grown keeps = record {
    fresh = kept.fresh;
    made = λ k inside.
        let row = kept.made k inside in
        (row.0, row.1, keeps.numbers (row_at kept.fresh k).shape (row_at kept.fresh k).number row.2);
    numbered = counts.rows.numbered ∙ ap numbered_of (rows_are kept)
        ∙ map-append numbered old.rows kept.fresh;
    stands = λ place inside.
        let row = row_at after.rows place in
        ⊎_elim
        (λ (same : row ≡ row_at mid.rows place). inl (same ∙ ap (λ (rs : List Row). row_at rs place) (rows_are kept)))
        (λ (met : (i : ℕ) × (i < length meetings) × IsOf (answer_at answers i) (meeting_at meetings i).shape row).
        inr (keeps.numbers row.shape row.number (stands_of ready counts.rows met.0 row met.1 met.2)))
        (counts.rows.others place);
  }

  pub marked : IsExtent actions.size → {history : List Happened} → Keeps n seen history → AreMarked history game answers (length answers) →
      IsMarked n history game actions old (held_as mid.worker mid.kinds after)
  unfolding counted
  marked extent keeps marks = (
    counted extent,
    λ shape some.
        let met = met_at meetings shape (omega (arith, some, ready.walked.there shape)) in
        let low : met.0 < length answers = omega (arith, met.1, ready.rowed.long) in
        let row = ready.rowed.each met.0 low in
        let told = told_at n seen meetings answers met.0 (answer.Number row.0) ready.told met.1 row.1 in
        (row.0, keeps.numbers shape row.0 (rw met.2 at told.1), marks met.0 row.0 low row.1),
  )

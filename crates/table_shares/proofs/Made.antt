-- Rows that are made for the patterns of a game, for one number after another.
use Rattle.std.proofs.Common.{◌≡◌, ℕ, ◌+◌, ◌^◌, ◌<◌, ◌≤◌, ◌⊎◌, List, [], ◌∷◌, ◌++◌, length, suc, Some, refl, ap, sym, ◌∙◌, arith, append_assoc, length-append, ⊎_elim, take, drop, length-take}
use Rattle.table_shares.proofs.Common.{sum_by, length-map, get_or-take, take-append-drop, drop_more, All-get_or, All-from_get_or, sum_by-cons, sum_by-append, Actions, Kinds, Answer, IsNumber, Happened, content_of, Known, entered, AreMade, AreTold, AreEnteredUntil, IsTold, Meeting, kinds_of, there_in, IsWalk, shapes_of, Row, HarvestFault, row_at, blank, IsPatternOf, HasItsRow, IsPrepareFault, IsEntryOf, IsRowed, IsRowedAfter, EntersOnly, HasFresh, AreNumbers, IsFirstRefusal, meeting_at, IsBelow, IsBlankOf, IsRowFault, Gained, HaveRows, AreRowed, IsMakingFault, answer_at}
use Rattle.table_shares.specs.Inner.Making.{AreBelow}
use Rattle.std.proofs.Math.ListN.{get_or-append}
use Rattle.probe_core.specs.declared.calls.Answer.TheVariants as answer
use Rattle.harvest_faults.specs.declared.faults.HarvestFault.TheVariants as fault
use Rattle.table_shares.proofs.Places.{each_more}
use Rattle.table_shares.proofs.Entered.{batch_enters, shape_at, told_at, tells_refused}

-- ---- rows that count nothing
abbrev pub AreBlank : List Row → Type 0
AreBlank fresh = (k : ℕ) → k < length fresh → row_at fresh k ≡ blank (row_at fresh k).number (row_at fresh k).shape

-- they add nothing to what rows count together
light : (f : Row → ℕ) → ((number shape : ℕ) → f (blank number shape) ≡ 0) → (fresh : List Row) → AreBlank fresh →
    sum_by f fresh ≡ 0
light f zero [] h = refl
light f zero (row ∷ fresh) h =
    let first = ap f (h 0 (omega arith)) ∙ zero row.number row.shape in
    omega (arith, sum_by-cons f row fresh, first, light f zero fresh (λ k inside. h (suc k) (omega arith)))

pub same_sum : (f : Row → ℕ) → ((number shape : ℕ) → f (blank number shape) ≡ 0) → (rows fresh : List Row) → AreBlank fresh →
    sum_by f (rows ++ fresh) ≡ sum_by f rows
same_sum f zero rows fresh h = omega (arith, sum_by-append f rows fresh, light f zero fresh h)

is_blank : (row : Row) (number shape : ℕ) → row ≡ blank number shape → row ≡ blank row.number row.shape
is_blank row number shape is = is ∙ ap (λ (r : Row). blank r.number r.shape) (sym is)

-- ---- one meeting more
-- its row, where it got a number
pub gained_more : {meetings : List Meeting} {answers : List Answer} {old rows : List Row} → Gained meetings answers old rows →
    (new : List Row) (i : ℕ) → i < length answers →
    (new ≡ rows) ⊎ IsBlankOf (answer_at answers i) (meeting_at meetings i).shape rows new → Gained meetings answers old new
gained_more {meetings = meetings} {answers = answers} {old = old} {rows = rows} h new i inside grown = ⊎_elim
    (λ (same : new ≡ rows). rw same h)
    (λ (more : IsBlankOf (answer_at answers i) (meeting_at meetings i).shape rows new).
    let row = blank more.0 (meeting_at meetings i).shape in
    record {
      fresh = h.fresh ++ row ∷ [];
      rows = more.2 ∙ ap (λ (rs : List Row). rs ++ row ∷ []) h.rows ∙ append_assoc old h.fresh (row ∷ []);
      each = each_more (λ _ (r : Row). (j : ℕ) × (j < length answers) × (answer_at answers j ≡ answer.Number r.number)
          × (r ≡ blank r.number (meeting_at meetings j).shape)) h.fresh row (blank 0 0) h.each (i, inside, more.1, refl);
    })
    grown

-- rows of numbers that were answered stay among more rows
rowed_more : (rows more : List Row) (key : ℕ) (found : Answer) → IsRowed rows key found → IsRowed (rows ++ more) key found
rowed_more rows more key (answer.Number number) h =
    let same = get_or-append rows more (blank 0 0) h.place h.within in
    record {
      place = h.place;
      within = omega (arith, length-append rows more, h.within);
      number_is = ap (λ (r : Row). r.number) same ∙ h.number_is;
      shape_is = ap (λ (r : Row). r.shape) same ∙ h.shape_is;
    }
rowed_more rows more key _ h = tt

pub rowed_later : (found : Answer) (shape : ℕ) (rows new : List Row) → (new ≡ rows) ⊎ IsBlankOf found shape rows new →
    (key : ℕ) (other : Answer) → IsRowed rows key other → IsRowed new key other
rowed_later found shape rows new grown key other h = ⊎_elim
    (λ (same : new ≡ rows). rw same h)
    (λ (more : IsBlankOf found shape rows new). rw more.2 (rowed_more rows (blank more.0 shape ∷ []) key other h))
    grown

-- ---- the meetings of a game
-- what is met in a game is a pattern of it
pub met_pattern : {kinds : Kinds} {actions : Actions} {meetings : List Meeting} {moves : ℕ} →
    IsWalk kinds actions meetings moves → (i : ℕ) → i < length meetings → IsPatternOf kinds actions (meeting_at meetings i).shape
met_pattern {kinds = kinds} {actions = actions} {meetings = meetings} walk i inside =
    let none : Meeting = record { shape = 0; there = 0; played = 0 } in
    let was_there = λ (m : Meeting). 0 < there_in (kinds_of kinds)
    (record { size = actions.size; occasions = walk.occasions }) m.shape in
    let there = All-get_or was_there meetings i none inside walk.met in
    record { occasions = walk.occasions; replayed = walk.replayed; was_there = there }

-- they were walked, and what was answered for them tells
pub record AreAnswered (n : ℕ) (seen : List Happened) (kinds : Kinds) (actions : Actions) (meetings : List Meeting)
    (answers : List Answer) (moves : ℕ) : Type 0 where
  pub walked : IsWalk kinds actions meetings moves
  pub long : length answers ≡ length meetings
  pub told : AreTold n seen (shapes_of meetings) answers

-- a number that was answered is one of a table
answer_below : (n : ℕ) (seen : List Happened) (shape : ℕ) (found : Answer) → n ≤ 2 ^ 22 → IsTold n seen shape found →
    IsBelow (2 ^ 22) found
answer_below n seen shape (answer.Number number) few told = omega (arith, told.0, few)
answer_below n seen shape _ few told = tt

-- where some number got no row
pub unrowed : (found : Answer) (shape : ℕ) (rows : List Row) (one : HarvestFault) → IsRowFault found shape rows one →
    (key : ℕ) (other : Answer) → IsRowedAfter one rows key other
unrowed found shape rows fault.Memory h key other = tt
unrowed found shape rows (fault.Stranger at (Some held) (Some pattern)) h key other = tt
unrowed found shape rows _ h key other = absurd h

module _ {n : ℕ} {seen : List Happened} {kinds : Kinds} {actions : Actions} {meetings : List Meeting} {answers : List Answer}
    {moves : ℕ} (h : AreAnswered n seen kinds actions meetings answers moves) where
  pattern_at : (i : ℕ) → i < length answers → IsPatternOf kinds actions (meeting_at meetings i).shape
  pattern_at i low = met_pattern h.walked i (omega (arith, low, h.long))

  number_at : (i number : ℕ) → i < length answers → answer_at answers i ≡ answer.Number number →
      IsNumber (content_of n seen) (meeting_at meetings i).shape number
  number_at i number low is = (told_at n seen meetings answers i (answer.Number number) h.told (omega (arith, low, h.long)) is).1

  pub below_of : n ≤ 2 ^ 22 → AreBelow (2 ^ 22) answers
  below_of few i low =
      let found = answer_at answers i in
      answer_below n seen (meeting_at meetings i).shape found few
      (told_at n seen meetings answers i found h.told (omega (arith, low, h.long)) refl)

  pub fresh_of : {old new : List Row} → Gained meetings answers old new → HasFresh n seen kinds actions old new
  fresh_of gained = record {
    fresh = gained.fresh;
    rows = gained.rows;
    made = λ k inside.
        let made = gained.each k inside in
        let row = row_at gained.fresh k in
        let shape : row.shape ≡ (meeting_at meetings made.0).shape = ap (λ (r : Row). r.shape) made.3 in
        (is_blank _ _ _ made.3, rw shape (pattern_at made.0 made.1), rw shape (number_at made.0 row.number made.1 made.2));
  }

  pub making_fault : (game : ℕ) (rows : List Row) (one : HarvestFault) → IsMakingFault meetings answers rows one →
      IsPrepareFault n seen game kinds actions rows one
  making_fault game rows fault.Memory fails = tt
  making_fault game rows (fault.Stranger at (Some held) (Some other)) (i, low, (is, shape, differs, row)) =
      (rw shape (pattern_at i low), rw shape (number_at i at low is), (λ same. differs (same ∙ shape)), row)
  making_fault game rows _ fails = absurd fails.2

  -- where no number was free, the first pattern that got none is told
  pub full_of : (game place : ℕ) {rows : List Row} → AreEnteredUntil answers (length meetings) →
      HaveRows meetings answers (length answers) rows → IsFirstRefusal answers place →
      IsPrepareFault n seen game kinds actions rows (fault.Full game (meeting_at meetings place).shape)
  full_of game place {rows = rows} until have refused =
      let shapes = shapes_of meetings in
      let within : place < length meetings = omega (arith, refused.within, h.long) in
      let tells = tells_refused n seen (meeting_at meetings place).shape place answers refused.before (answer_at answers place) refused.none
      (until place within) (told_at n seen meetings answers place _ h.told within refl) in
      let long : length shapes ≡ length meetings = length-map meetings (λ (m : Meeting). m.shape) in
      let parts = sym (take-append-drop place shapes)
      ∙ ap (λ rest. take place shapes ++ rest) (drop_more shapes place 0 (omega arith)) in (
        refl,
        pattern_at place refused.within,
        tells.0,
        tells.1,
        record {
          meetings = meetings;
          moves = moves;
          walked = h.walked;
          before = take place shapes;
          after = drop (place + 1) shapes;
          in_walk = parts ∙ ap (λ s. take place shapes ++ s ∷ drop (place + 1) shapes) (shape_at meetings place within);
          rowed = All-from_get_or (HasItsRow n seen rows) (take place shapes) 0 (λ i inside.
              let before : i < place = omega (arith, inside, length-take place shapes) in
              let low : i < length answers = omega (arith, before, refused.within) in
              let number = refused.before i before in
              rw (get_or-take place shapes i 0 before ∙ shape_at meetings i (omega (arith, low, h.long)))
              (number.0, number_at i number.0 low number.1, rw number.1 at (have i low)));
        },
      )

  -- the calls of the batch enter the game's patterns, each with its answer
  pub entries_of : {O : Type 0} (rowed : ℕ → Answer → Type 0) {old new : Known O} →
      AreMade n (entered (shapes_of meetings) answers) old new →
      ((i : ℕ) → i < length answers → rowed (meeting_at meetings i).shape (answer_at answers i)) →
      EntersOnly n (IsEntryOf kinds actions rowed) old new
  entries_of rowed made each = batch_enters (IsEntryOf kinds actions rowed) (shapes_of meetings) answers made (λ i inside.
      let met : i < length meetings = omega (arith, inside, length-map meetings (λ (m : Meeting). m.shape)) in
      let low : i < length answers = omega (arith, met, h.long) in
      rw (shape_at meetings i met) (record { pattern = pattern_at i low; has_row = each i low }))

-- all patterns of a game got numbers, and these have rows
pub all_rowed : {meetings : List Meeting} {answers : List Answer} {rows : List Row} → length answers ≡ length meetings →
    AreNumbers answers (length answers) → HaveRows meetings answers (length answers) rows → AreRowed meetings answers rows
all_rowed long numbers have = record {
  long = long;
  each = λ i low.
      let number = numbers i low in
      (number.0, number.1, rw number.1 at (have i low));
}

-- Entries of patterns as rows without numbers, and what one game more adds to them.
use Rattle.std.proofs.Common.{◌≡◌, ℕ, ◌+◌, ◌*◌, ◌^◌, ◌<◌, ◌==◌, nat_lt, Bool, true, false, cond, List, [], ◌∷◌, ◌++◌, length, map, take, get_or, Option, Some, None, refl, ap, ap₂, sym, ◌∙◌, arith, append_assoc}
use Rattle.gather_core.proofs.Common.{nat_tests, sum_by, sum_by-cons, take_more, append-nil, Actions, Kinds, kinds_of, there_in, Row, earlier, first_of, Held, Meeting, there_among, IsWalk, IsAdded}
use Rattle.shape_dict.specs.declared.entries.Entry.{Entry}
use Rattle.range_core.specs.Totals.{Total, together, count_at, total_of}
use Rattle.range_core.specs.Totals as total
use Rattle.range_core.proofs.Adding.{together_assoc, total_append, total_one}
use Rattle.range_core.proofs.Joining.{there_together, played_together, first_together, there_one, played_one, first_one, there_sums, played_sums}
use Rattle.tally_core.specs.declared.faults.TallyFault.{TallyFault}
use Rattle.tally_core.specs.declared.faults.TallyFault.TheVariants as tally
use Rattle.tally_core.specs.Faults.{IsTallyFault}
use Rattle.tally_core.specs.Walk.{played_among, IsAmong}
use Rattle.harvest_faults.specs.Faults.{same_fault}
use Rattle.harvest_faults.specs.declared.faults.HarvestFault.TheVariants as fault
use Rattle.go_board.specs.Extent.{IsExtent}
use Rattle.gather_core.specs.Rows.{there_of, played_of}
use Rattle.gather_core.specs.WordShares.{unnumbered}
use Rattle.gather_core.specs.Inner.Met.{met_entry, met_entries}

-- ---- what rows of entries count is what the entries do
mapped : (f : Row → ℕ) (entries : List Entry) → sum_by f (map unnumbered entries) ≡ sum_by (λ (e : Entry). f (unnumbered e)) entries
mapped f [] = refl
mapped f (e ∷ entries) =
    sum_by-cons f (unnumbered e) (map unnumbered entries) ∙ ap (λ n. f (unnumbered e) + n) (mapped f entries)
    ∙ sym (sum_by-cons (λ (x : Entry). f (unnumbered x)) e entries)

pub rows_there : (entries : List Entry) (shape : ℕ) → there_of (map unnumbered entries) shape ≡ total.there_of (total_of shape entries)
rows_there entries shape = mapped (λ (r : Row). cond (r.shape == shape) r.there 0) entries ∙ sym (there_sums shape entries)

pub rows_played : (entries : List Entry) (shape : ℕ) → played_of (map unnumbered entries) shape ≡ total.played_of (total_of shape entries)
rows_played entries shape = mapped (λ (r : Row). cond (r.shape == shape) r.played 0) entries ∙ sym (played_sums shape entries)

pub rows_first : (entries : List Entry) (shape : ℕ) → first_of (map unnumbered entries) shape ≡ total.first_of (total_of shape entries)
rows_first [] shape = refl
rows_first (e ∷ entries) shape =
    let c : Total = record { there = e.there; played = e.played; first = e.first } in
    ap (earlier (cond (e.shape == shape) e.first None)) (rows_first entries shape)
    ∙ ap (λ f. earlier f (total.first_of (total_of shape entries))) (sym (first_one (e.shape == shape) c))
    ∙ sym (first_together (count_at shape e) (total_of shape entries))

-- ---- what a game has met
met_push : (game : ℕ) (meetings : List Meeting) (m : Meeting) → met_entries game (meetings ++ m ∷ []) ≡ met_entries game meetings ++ met_entry game m
met_push game [] m = append-nil (met_entry game m)
met_push game (x ∷ meetings) m =
    ap (λ (l : List Entry). met_entry game x ++ l) (met_push game meetings m) ∙ sym (append_assoc (met_entry game x) (met_entries game meetings) (met_entry game m))

pub met_next : (game : ℕ) (meetings : List Meeting) (i : ℕ) (m : Meeting) → i < length meetings → m ≡ get_or meetings i m →
    met_entries game (take (i + 1) meetings) ≡ met_entries game (take i meetings) ++ met_entry game m
met_next game meetings i m inside is =
    ap (met_entries game) (take_more meetings i m inside ∙ ap (λ (x : Meeting). take i meetings ++ x ∷ []) (sym is)) ∙ met_push game (take i meetings) m

-- what the first ones count, and one more
pub met_total : (shape game : ℕ) (before : Option Total) (meetings : List Meeting) (i : ℕ) (m : Meeting) → i < length meetings → m ≡ get_or meetings i m →
    together (together before (total_of shape (met_entries game (take i meetings)))) (total_of shape (met_entry game m))
    ≡ together before (total_of shape (met_entries game (take (i + 1) meetings)))
met_total shape game before meetings i m inside is =
    together_assoc before (total_of shape (met_entries game (take i meetings))) (total_of shape (met_entry game m))
    ∙ ap (together before) (sym (total_append shape (met_entries game (take i meetings)) (met_entry game m)) ∙ ap (total_of shape) (sym (met_next game meetings i m inside is)))

one_there : (game : ℕ) (m : Meeting) (shape : ℕ) → total.there_of (total_of shape (met_entry game m)) ≡ cond (m.shape == shape) m.there 0
one_there game m shape =
    let e : Entry = record { shape = m.shape; there = m.there; played = m.played; first = Some game } in
    let c : Total = record { there = m.there; played = m.played; first = Some game } in
    elim (nat_lt 0 (m.there + m.played)) as (λ b. nat_lt 0 (m.there + m.played) ≡ b → total.there_of (total_of shape (cond b (e ∷ []) [])) ≡ cond (m.shape == shape) m.there 0) [
      | true ↦ λ some. ap total.there_of (total_one shape e) ∙ there_one (m.shape == shape) c
      | false ↦ λ none. Prim.grind (arith, nat_tests)
    ] refl

one_played : (game : ℕ) (m : Meeting) (shape : ℕ) → total.played_of (total_of shape (met_entry game m)) ≡ cond (m.shape == shape) m.played 0
one_played game m shape =
    let e : Entry = record { shape = m.shape; there = m.there; played = m.played; first = Some game } in
    let c : Total = record { there = m.there; played = m.played; first = Some game } in
    elim (nat_lt 0 (m.there + m.played)) as (λ b. nat_lt 0 (m.there + m.played) ≡ b → total.played_of (total_of shape (cond b (e ∷ []) [])) ≡ cond (m.shape == shape) m.played 0) [
      | true ↦ λ some. ap total.played_of (total_one shape e) ∙ played_one (m.shape == shape) c
      | false ↦ λ none. Prim.grind (arith, nat_tests)
    ] refl

one_first : (game : ℕ) (m : Meeting) (shape : ℕ) → total.first_of (total_of shape (met_entry game m)) ≡ cond (m.shape == shape) (cond (nat_lt 0 (m.there + m.played)) (Some game) None) None
one_first game m shape =
    let e : Entry = record { shape = m.shape; there = m.there; played = m.played; first = Some game } in
    let c : Total = record { there = m.there; played = m.played; first = Some game } in
    elim (nat_lt 0 (m.there + m.played)) as (λ b. total.first_of (total_of shape (cond b (e ∷ []) [])) ≡ cond (m.shape == shape) (cond b (Some game) None) None) [
      | true ↦ ap total.first_of (total_one shape e) ∙ first_one (m.shape == shape) c
      | false ↦ Prim.grind (arith, nat_tests)
    ]

met_there : (game : ℕ) (meetings : List Meeting) (shape : ℕ) → total.there_of (total_of shape (met_entries game meetings)) ≡ there_among meetings shape
met_there game [] shape = refl
met_there game (m ∷ meetings) shape =
    ap total.there_of (total_append shape (met_entry game m) (met_entries game meetings))
    ∙ there_together (total_of shape (met_entry game m)) (total_of shape (met_entries game meetings))
    ∙ ap₂ (λ a b. a + b) (one_there game m shape) (met_there game meetings shape)
    ∙ sym (sum_by-cons (λ (x : Meeting). cond (x.shape == shape) x.there 0) m meetings)

met_played : (game : ℕ) (meetings : List Meeting) (shape : ℕ) → total.played_of (total_of shape (met_entries game meetings)) ≡ played_among meetings shape
met_played game [] shape = refl
met_played game (m ∷ meetings) shape =
    ap total.played_of (total_append shape (met_entry game m) (met_entries game meetings))
    ∙ played_together (total_of shape (met_entry game m)) (total_of shape (met_entries game meetings))
    ∙ ap₂ (λ a b. a + b) (one_played game m shape) (met_played game meetings shape)
    ∙ sym (sum_by-cons (λ (x : Meeting). cond (x.shape == shape) x.played 0) m meetings)

-- the game, if either counts something
either : (game a b : ℕ) → earlier (cond (nat_lt 0 a) (Some game) None) (cond (nat_lt 0 b) (Some game) None) ≡ cond (nat_lt 0 (a + b)) (Some game) None
either game a b = Prim.grind (arith, nat_tests)

here : (same : Bool) (game there played : ℕ) → cond same (cond (nat_lt 0 (there + played)) (Some game) None) None ≡ cond (nat_lt 0 (cond same there 0 + cond same played 0)) (Some game) None
here true game there played = refl
here false game there played = refl

met_first : (game : ℕ) (meetings : List Meeting) (shape : ℕ) → total.first_of (total_of shape (met_entries game meetings))
    ≡ cond (nat_lt 0 (there_among meetings shape + played_among meetings shape)) (Some game) None
met_first game [] shape = refl
met_first game (m ∷ meetings) shape =
    let there = cond (m.shape == shape) m.there 0 in
    let played = cond (m.shape == shape) m.played 0 in
    let more = there_among meetings shape + played_among meetings shape in
    let sum : there + played + more ≡ there_among (m ∷ meetings) shape + played_among (m ∷ meetings) shape =
    omega (arith, sum_by-cons (λ (x : Meeting). cond (x.shape == shape) x.there 0) m meetings, sum_by-cons (λ (x : Meeting). cond (x.shape == shape) x.played 0) m meetings) in
    ap total.first_of (total_append shape (met_entry game m) (met_entries game meetings))
    ∙ first_together (total_of shape (met_entry game m)) (total_of shape (met_entries game meetings))
    ∙ ap₂ earlier (one_first game m shape ∙ here (m.shape == shape) game m.there m.played) (met_first game meetings shape)
    ∙ either game (there + played) more
    ∙ ap (λ n. cond (nat_lt 0 n) (Some game) None) sum

-- ---- what a worker had counted by words
abbrev pub words_of : ℕ → Kinds → List ℕ → ℕ → List Entry → Held
words_of worker kinds games moves entries =
    record { worker = worker; kinds = kinds; games = games; moves = moves; rows = map unnumbered entries }

-- a game was added to it
pub words_added : (worker : ℕ) (kinds : Kinds) (games : List ℕ) (sum : ℕ) (before after : List Entry) (actions : Actions) (game moves : ℕ) (meetings : List Meeting) →
    IsExtent actions.size → (walk : IsWalk kinds actions meetings moves) → IsAmong meetings → ((shape : ℕ) → total_of shape after ≡ together (total_of shape before) (total_of shape (met_entries game meetings))) →
    IsAdded game actions (words_of worker kinds games sum before) (words_of worker kinds (games ++ game ∷ []) (sum + moves) after)
words_added worker kinds games sum before after actions game moves meetings extent walk among added = record {
  occasions = walk.occasions;
  replayed = walk.replayed;
  sized = extent;
  worker = refl;
  kinds = refl;
  games = refl;
  moves = ap (λ n. sum + n) walk.moves_counted;
  there = λ shape.
      rows_there after shape ∙ ap total.there_of (added shape)
      ∙ there_together (total_of shape before) (total_of shape (met_entries game meetings))
      ∙ ap₂ (λ a b. a + b) (sym (rows_there before shape)) (met_there game meetings shape ∙ walk.there shape);
  played = λ shape.
      rows_played after shape ∙ ap total.played_of (added shape)
      ∙ played_together (total_of shape before) (total_of shape (met_entries game meetings))
      ∙ ap₂ (λ a b. a + b) (sym (rows_played before shape)) (met_played game meetings shape ∙ walk.played shape);
  among = λ shape. omega (arith, walk.there shape, walk.played shape, among shape);
  first = λ shape.
      let same : cond (nat_lt 0 (there_among meetings shape + played_among meetings shape)) (Some game) None
      ≡ cond (nat_lt 0 (there_in (kinds_of kinds) (record { size = actions.size; occasions = walk.occasions }) shape)) (Some game) None =
      Prim.grind (arith, nat_tests, walk.there shape, among shape) in
      rows_first after shape ∙ ap total.first_of (added shape)
      ∙ first_together (total_of shape before) (total_of shape (met_entries game meetings))
      ∙ ap₂ earlier (sym (rows_first before shape)) (met_first game meetings shape ∙ same);
}

-- a game of few actions was refused
pub words_fault : (actions : Actions) (found : TallyFault) → 5410 * length actions.actions < 2 ^ 64 → IsTallyFault actions found → same_fault found ≡ fault.Memory
words_fault actions tally.Memory few h = refl
words_fault actions tally.Overflow few h = absurd (omega (arith, few, h))
words_fault actions tally.BadSettings few h = absurd h
words_fault actions (tally.Sgf found) few h = absurd h

-- Rows to which a game's meetings are added, one after another.
use Rattle.std.proofs.Common.{◌≡◌, ℕ, ◌+◌, ◌<◌, ◌==◌, cond, ◌≤◌, zero, suc, List, [], ◌∷◌, ◌++◌, length, take, map, Option, Some, None, get_or, refl, ap, sym, ◌∙◌, arith, length-take, inl, inr, ⊎_elim, ◌⊎◌}
use Rattle.table_shares.proofs.Common.{sum_by, sum_by-set, sum_by_more, take_more, get_or_default, get_or-set_same, length-set, map-set, set-get_or, length-map, cases_lt, Answer, answer_at, Row, IsAtMost, IsOf, IsRaised, Meeting, meeting_at, row_at, blank, first_of, earlier, Numbered, numbered_of, raised, game_met, AreRaised}
use Rattle.table_shares.specs.Making.{HasRow}
use Rattle.gather_core.proofs.Added.{earlier_none, earlier_assoc}
use Rattle.std.proofs.Math.ListN.{set, get_or-map}
use Rattle.table_shares.proofs.Places.{put_at}

-- ---- the lesser of two games
-- the last of three changes places with the one before it
earlier_swap : (a b c : Option ℕ) → earlier (earlier a b) c ≡ earlier (earlier a c) b
earlier_swap a b c = Prim.grind (arith)

-- a game, where a test passes
abbrev if_met : ℕ → ℕ → ℕ → Option ℕ
if_met game one shape = cond (one == shape) (Some game) None

-- ---- numbers and patterns
abbrev pub numbered : Row → Numbered
numbered row = record { number = row.number; shape = row.shape }

-- they stay at each place
same_numbered : (one other : List Row) (place : ℕ) → numbered_of one ≡ numbered_of other →
    numbered (row_at one place) ≡ numbered (row_at other place)
same_numbered one other place h =
    sym (get_or-map numbered one place (blank 0 0)) ∙ ap (λ (ns : List Numbered). get_or ns place (numbered (blank 0 0))) h
    ∙ get_or-map numbered other place (blank 0 0)

pub same_shape : (one other : List Row) (place : ℕ) → numbered_of one ≡ numbered_of other →
    (row_at one place).shape ≡ (row_at other place).shape
same_shape one other place h = ap (λ (n : Numbered). n.shape) (same_numbered one other place h)

pub same_number : (one other : List Row) (place : ℕ) → numbered_of one ≡ numbered_of other →
    (row_at one place).number ≡ (row_at other place).number
same_number one other place h = ap (λ (n : Numbered). n.number) (same_numbered one other place h)

pub same_length : (one other : List Row) → numbered_of one ≡ numbered_of other → length one ≡ length other
same_length one other h = sym (length-map one numbered) ∙ ap length h ∙ length-map other numbered

-- and so does a number's row
pub has_row_stays : (rows new : List Row) (number shape : ℕ) → numbered_of new ≡ numbered_of rows → HasRow rows number shape →
    HasRow new number shape
has_row_stays rows new number shape same h = record {
  place = h.place;
  within = omega (arith, same_length new rows same, h.within);
  number_is = same_number new rows h.place same ∙ h.number_is;
  shape_is = same_shape new rows h.place same ∙ h.shape_is;
}

-- ---- one row
first_put : (rows : List Row) (at shape : ℕ) (meeting : Meeting) (game : ℕ) → at < length rows →
    first_of (set rows at (raised (row_at rows at) meeting game)) shape
    ≡ earlier (first_of rows shape) (if_met game (row_at rows at).shape shape)
first_put [] at shape meeting game within = absurd (omega arith)
first_put (row ∷ rows) zero shape meeting game within =
    Prim.grind (arith, earlier_swap row.first (Some game) (first_of rows shape), earlier_none (first_of rows shape))
first_put (row ∷ rows) (suc at) shape meeting game within =
    let assoc = earlier_assoc (cond (row.shape == shape) row.first None) (first_of rows shape)
    (if_met game (row_at rows at).shape shape) in
    Prim.grind (arith, first_put rows at shape meeting game, assoc)

numbered_put : (rows : List Row) (at : ℕ) (meeting : Meeting) (game : ℕ) →
    numbered_of (set rows at (raised (row_at rows at) meeting game)) ≡ numbered_of rows
numbered_put rows at meeting game =
    map-set numbered rows at (raised (row_at rows at) meeting game)
    ∙ ap (set (map numbered rows) at) (sym (get_or-map numbered rows at (blank 0 0)))
    ∙ set-get_or (map numbered rows) at (numbered (blank 0 0))

-- ---- one meeting more
met_last : (game : ℕ) (meetings : List Meeting) (m : Meeting) (shape : ℕ) →
    game_met game (meetings ++ m ∷ []) shape ≡ earlier (game_met game meetings shape) (if_met game m.shape shape)
met_last game [] m shape = Prim.grind (arith)
met_last game (x ∷ meetings) m shape = Prim.grind (arith, met_last game meetings m shape)

-- the next meeting is read, and its row is raised
module _ {meetings : List Meeting} {answers : List Answer} {i game : ℕ} {old rows after : List Row} {m : Meeting}
    (h : AreRaised (take i meetings) meetings answers game old rows) (inside : i < length meetings) (is : m ≡ get_or meetings i m)
    (step : IsRaised (answer_at answers i) m game rows after) where
  abbrev row : Row
  row = row_at rows step.place

  sum_put : (f : Row → ℕ) (g : Meeting → ℕ) → f (raised row m game) ≡ f row + g m →
      sum_by f rows ≡ sum_by f old + sum_by g (take i meetings) → sum_by f after ≡ sum_by f old + sum_by g (take (i + 1) meetings)
  sum_put f g more before =
      let put = sum_by-set f rows step.place (raised row m game) (blank 0 0) step.within in
      omega (arith, ap (sum_by f) step.rows, put, sum_by_more g meetings i m inside, ap g is, more, before)

  pub raised_more : AreRaised (take (i + 1) meetings) meetings answers game old after
  raised_more =
      let few = length-take i meetings in
      let more_few = length-take (i + 1) meetings in
      let new = raised row m game in
      let meeting = sym (get_or_default meetings i m (record { shape = 0; there = 0; played = 0 }) inside) ∙ sym is in
      let is_of : IsOf (answer_at answers i) (meeting_at meetings i).shape new =
      (step.is_of.0, step.is_of.1 ∙ ap (λ (x : Meeting). x.shape) (sym meeting)) in
      record {
        numbered = ap numbered_of step.rows ∙ numbered_put rows step.place m game ∙ h.numbered;
        there = λ shape.
            sum_put (λ (r : Row). cond (r.shape == shape) r.there 0) (λ (x : Meeting). cond (x.shape == shape) x.there 0)
            (Prim.grind (arith, step.is_of.1)) (h.there shape);
        played = λ shape.
            sum_put (λ (r : Row). cond (r.shape == shape) r.played 0) (λ (x : Meeting). cond (x.shape == shape) x.played 0)
            (Prim.grind (arith, step.is_of.1)) (h.played shape);
        first = λ shape.
            let front = take_more meetings i m inside ∙ ap (λ (x : Meeting). take i meetings ++ x ∷ []) (sym is) in
            let put = first_put rows step.place shape m game step.within in
            let last = met_last game (take i meetings) m shape in
            let assoc = earlier_assoc (first_of old shape) (game_met game (take i meetings) shape) (if_met game m.shape shape) in
            rw (step.rows, front) (Prim.grind (arith, put, step.is_of.1, h.first shape, last, assoc));
        weight = sum_put (λ (r : Row). r.there + r.played) (λ (x : Meeting). x.there + x.played) (omega arith) h.weight;
        others = λ other. rw step.rows
            (put_at (λ p (r : Row). (r ≡ row_at old p) ⊎ ((k : ℕ) × (k < length (take (i + 1) meetings))
            × IsOf (answer_at answers k) (meeting_at meetings k).shape r)) rows step.place new (blank 0 0) step.within
            (inr (i, omega arith, is_of)) other
            (λ _. ⊎_elim inl (λ met. inr (met.0, omega (arith, met.1), met.2)) (h.others other)));
        begun = λ k low.
            let IsBegun = λ (j : ℕ) (r : Row). IsOf (answer_at answers j) (meeting_at meetings j).shape r × IsAtMost r.first game in
            let long : length after ≡ length rows = ap length step.rows ∙ length-set rows step.place new in
            let begins : IsAtMost new.first game = Prim.grind (arith) in
            ⊎_elim
            (λ (before : k < i).
            let met = h.begun k (omega (arith, before, few, inside)) in
            let found = put_at (λ q (r : Row). q ≡ met.0 → IsBegun k r) rows step.place new (blank 0 0) step.within
            (λ here. (rw here met.2, begins)) met.0 (λ _ _. (met.2, met.3)) refl in
            (met.0, omega (arith, long, met.1), rw step.rows found.0, rw step.rows found.1))
            (λ (last : i ≤ k).
            let same : k ≡ i = omega (arith, last, low, more_few) in
            let here = get_or-set_same rows step.place new (blank 0 0) step.within in
            (step.place, omega (arith, long, step.within), rw (step.rows, same, here) is_of, rw (step.rows, here) begins))
            (cases_lt k i);
      }

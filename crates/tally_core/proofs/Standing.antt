-- Points at which nothing stays and nothing comes.
use Rattle.std.proofs.Common.{◌≡◌, ℕ, zero, suc, ◌+◌, ◌-◌, ◌^◌, ◌≤◌, ◌<◌, ◌==◌, min, max, bit_and, bit_or, w64, set, length, slice_index_or, length-set, get_or, get_or-set_same, get_or-set_other, ◌⊎◌, inl, inr, Bool, true, false, cond, List, [], ◌∷◌, ◌++◌, map, filter, slice_index, All, Contains, Vec, Global, Option, Some, None, refl, ap, ap₂, sym, subst, ◌∙◌, ⊎_elim, arith}
use Rattle.std.specs.Int.{bit_at, bit_not}
use Rattle.std.proofs.lemmas.Bool.{cases_eq}
use Rattle.std.proofs.lemmas.Bool.Decides.{nat_tests}
use Rattle.std.proofs.lemmas.Nat.Bits.{bit_at-zero, bit_at_and, bit_at_or, bit_at_not, bit_at-lt}
use Rattle.std.proofs.lemmas.List.Concat.{flat_map-append}
use Rattle.std.specs.List.{flat_map}
use Rattle.std.proofs.lemmas.List.{append-nil, get_or_read}
use Rattle.std.proofs.lemmas.Nat.{or_lt, and_le_l}
use Rattle.std.proofs.lemmas.List.Elements.{All-nil, All-cons, All-head, All-tail, All-set, All-get_or, All-contains, Contains-append_left, Contains-append_right}
use Rattle.go_board.specs.Extent.{Extent}
use Rattle.go_board.specs.Point.{IsOn, index_of}
use Rattle.go_board.specs.Board.{position_of}
use Rattle.go_board.specs.declared.points.Point.{Point}
use Rattle.go_board.specs.declared.points.Colour.{Colour}
use Rattle.go_board.specs.declared.points.Stone.TheVariants as stone
use Rattle.shape_core.specs.Field.{Kept, AreEmptyColumns, bit_of_empty}
use Rattle.shape_core.specs.KeptLists.{AreMarks}
use Rattle.shape_core.specs.Word.{count_from}
use Rattle.tally_core.specs.Occasions.{is_empty}
use Rattle.tally_core.specs.Counts.{kinds_of, patterns_at, row_of}
use Rattle.tally_core.specs.Walk.{shapes_of}
use Rattle.tally_core.specs.Inner.Meeting.{Meets}
use Rattle.tally_core.specs.Inner.Standing.{patterns_of, patterns_staying, no_stays, AreStanding}
use Rattle.tally_core.specs.Inner.Sight.{AllFilled, points_in, here_on, StayOn, HasLooked}
use Rattle.tally_core.specs.declared.meetings.Meeting.{Meeting}
use Rattle.tally_core.specs.declared.sides.Side.{Side}
use Rattle.tally_core.specs.declared.stays.Stay.{Stay}
use Rattle.tally_core.specs.declared.stays.Stays.{Stays}
use Rattle.tally_core.proofs.Among.{IsIn, in-filter, in-row, contains-in}
use Rattle.tally_core.proofs.Taken.{row-none, column-inside, fits-columns}
use Rattle.tally_core.proofs.Seeing.{looked-none, looked-more}

is-set : (n : ℕ) → n ≡ 1 → (n == 1) ≡ true
is-set n h = Prim.grind (arith, nat_tests)

is-set-back : (n : ℕ) → (n == 1) ≡ true → n ≡ 1
is-set-back n h = Prim.grind (arith, nat_tests)

none-of : (shapes : List ℕ) (stay : Option Stay) (rest : List ℕ) → patterns_of shapes stay ++ rest ≡ [] → (stay ≡ None) × (rest ≡ [])
none-of shapes None rest none = (refl, none)
none-of shapes (Some stay) rest none = absurd (let no : slice_index shapes stay.meeting ∷ rest ≡ [] = none in cc)

-- where no pattern stays, nothing does
pub none-staying : (shapes : List ℕ) (stays : Stays) → patterns_staying shapes stays ≡ [] → stays ≡ no_stays
none-staying shapes stays none =
    let square = none-of shapes stays.square (patterns_of shapes stays.diamond) none in
    let diamond = none-of shapes stays.diamond [] (append-nil (patterns_of shapes stays.diamond) ∙ square.1) in
    let of : Option Stay → Option Stay → Stays = λ a b. record { square = a; diamond = b } in
    ap₂ of square.0 diamond.0

-- a point with a stone has no patterns
pub here-filled : (field : Kept) (mover : Colour) (q : Point) → (position_of field.board q ≡ stone.Empty → ⊥) → here_on field mover q ≡ []
here-filled field mover q filled =
    let f = patterns_at (kinds_of field.kinds) field.board.size (position_of field.board) mover in
    elim (position_of field.board q) as (λ s. position_of field.board q ≡ s → flat_map f (cond (is_empty s) (q ∷ []) []) ≡ []) [
      | stone.Empty ↦ λ is. absurd (filled is)
      | stone.Black ↦ λ is. refl
      | stone.White ↦ λ is. refl
    ] refl

none-filled : (field : Kept) (mover : Colour) (q : Point) (shapes : List ℕ) (stays : Stays) → patterns_staying shapes stays ≡ here_on field mover q →
    (position_of field.board q ≡ stone.Empty → ⊥) → stays ≡ no_stays
none-filled field mover q shapes stays is filled = none-staying shapes stays (is ∙ here-filled field mover q filled)

-- ---- points of a row

row-all : (P : Point → Type 0) (row first n : ℕ) → ((c : ℕ) → first ≤ c → c < first + n → P (record { column = c; row = row })) →
    All P (map (λ column. record { column = column; row = row }) (count_from first n))
row-all P row first zero each = All-nil P
row-all P row first (suc n) each =
    All-cons P (record { column = first; row = row }) (map (λ column. record { column = column; row = row }) (count_from (suc first) n))
    (each first (omega arith) (omega arith)) (row-all P row (suc first) n (λ c low high. each c (omega arith) (omega arith)))

-- what is true of those that pass is true of the list of them
all-kept : (P : Point → Type 0) (p : Point → Bool) (xs : List Point) → All (λ x. p x ≡ true → P x) xs → All P (filter p xs)
all-kept P p [] all = All-nil P
all-kept P p (x ∷ xs) all =
    let Q = λ (y : Point). p y ≡ true → P y in
    let rest = all-kept P p xs (All-tail Q x xs all) in
    elim (p x) as (λ b. p x ≡ b → All P (cond b (x ∷ filter p xs) (filter p xs))) [
      | true ↦ λ pass. All-cons P x (filter p xs) (All-head Q x xs all pass) rest
      | false ↦ λ fails. rest
    ] refl

-- the point of a column and a row
abbrev column-of : Point → ℕ → Point
column-of q row = record { column = q.column; row = row }

-- lists that differ in points without patterns have the same patterns
same-patterns : (f : Point → List ℕ) (p r : Point → Bool) (xs : List Point) → All (λ x. (p x ≡ r x) ⊎ (f x ≡ [])) xs →
    flat_map f (filter p xs) ≡ flat_map f (filter r xs)
same-patterns f p r [] all = refl
same-patterns f p r (x ∷ xs) all =
    let Q = λ (y : Point). (p y ≡ r y) ⊎ (f y ≡ []) in
    let rest = same-patterns f p r xs (All-tail Q x xs all) in
    ⊎_elim
    (λ (same : p x ≡ r x).
    ap (λ b. flat_map f (cond b (x ∷ filter p xs) (filter p xs))) same
    ∙ with-same f (r x) x (filter p xs) (filter r xs) rest)
    (λ (none : f x ≡ []).
    without f (p x) x (filter p xs) none ∙ rest ∙ sym (without f (r x) x (filter r xs) none))
    (All-head Q x xs all)
  where
    with-same : (f : Point → List ℕ) (b : Bool) (x : Point) (ys zs : List Point) → flat_map f ys ≡ flat_map f zs → flat_map f (cond b (x ∷ ys) ys) ≡ flat_map f (cond b (x ∷ zs) zs)
    with-same f true x ys zs same = ap (λ rest. f x ++ rest) same
    with-same f false x ys zs same = same

    without : (f : Point → List ℕ) (b : Bool) (x : Point) (ys : List Point) → f x ≡ [] → flat_map f (cond b (x ∷ ys) ys) ≡ flat_map f ys
    without f true x ys none = ap (λ first. first ++ flat_map f ys) none
    without f false x ys none = refl

-- a point whose bit is set is among them
pub row-has : (size : Extent) (row bits : ℕ) (q : Point) → IsOn size q → q.row ≡ row → bit_at bits q.column ≡ 1 → Contains (points_in size row bits) q
row-has size row bits q on same looks =
    contains-in q (points_in size row bits)
    (in-filter (λ (p : Point). bit_at bits p.column == 1) q (row_of size row) (is-set (bit_at bits q.column) looks) (subst (λ r. IsIn q (row_of size r)) same (in-row size q on)))

-- ---- the bits of a row

-- the bits of a row of a board of at most 52 columns: of those that changed, those that come and those that go; and what
-- stands after it
pub record AreBits (changed empty standing i : ℕ) : Type 0 where
  pub coming : bit_at (bit_and changed empty) i ≡ min (bit_at changed i) (bit_at empty i)
  pub going : bit_at (bit_and (bit_and changed standing) (bit_not w64 empty)) i ≡ min (min (bit_at changed i) (bit_at standing i)) (1 - bit_at empty i)
  pub left : bit_at (bit_or (bit_and standing (bit_not w64 changed)) (bit_and changed empty)) i
      ≡ max (min (bit_at standing i) (1 - bit_at changed i)) (min (bit_at changed i) (bit_at empty i))
  pub changed_bit : bit_at changed i < 2
  pub empty_bit : bit_at empty i < 2
  pub standing_bit : bit_at standing i < 2

bits-are : (changed empty standing i : ℕ) → changed < 2 ^ 64 → empty < 2 ^ 64 → i < 64 → AreBits changed empty standing i
bits-are changed empty standing i fits fits_empty low = record {
  coming = bit_at_and changed empty i;
  going = bit_at_and (bit_and changed standing) (bit_not w64 empty) i
      ∙ ap₂ min (bit_at_and changed standing i) (bit_at_not w64 empty i fits_empty low);
  left = bit_at_or (bit_and standing (bit_not w64 changed)) (bit_and changed empty) i
      ∙ ap₂ max (bit_at_and standing (bit_not w64 changed) i ∙ ap (min (bit_at standing i)) (bit_at_not w64 changed i fits low)) (bit_at_and changed empty i);
  changed_bit = bit_at-lt changed i;
  empty_bit = bit_at-lt empty i;
  standing_bit = bit_at-lt standing i;
}

-- what is read of a row of a side and a field: the bits that changed, those at which something may stay, and those that are empty
pub record IsRow (field : Kept) (side : Side) (row changed standing empty : ℕ) : Type 0 where
  pub inside : row < field.board.size.rows
  pub few : field.board.size.columns ≤ 52
  pub changed_is : changed ≡ slice_index side.changed.items row
  pub standing_is : standing ≡ slice_index side.standing.items row
  pub columns : AreEmptyColumns field.board.size (position_of field.board) row empty
  pub small_changed : changed < 2 ^ field.board.size.columns
  pub small_standing : standing < 2 ^ field.board.size.columns
  pub fits : changed < 2 ^ 64
  pub fits_empty : empty < 2 ^ 64

pub is-row : (field : Kept) (met : ℕ) (side : Side) (row at changed standing empty : ℕ) → AreStanding field.board.size met side → row < field.board.size.rows → field.board.size.columns ≤ 52 → at ≡ row →
    changed ≡ get_or side.changed.items at changed → standing ≡ get_or side.standing.items at standing → AreEmptyColumns field.board.size (position_of field.board) row empty →
    IsRow field side row changed standing empty
is-row field met side row at changed standing empty is inside few same changed_read standing_read columns =
    let size = field.board.size in
    let changed_is : changed ≡ slice_index side.changed.items row = get_or_read side.changed.items at changed (omega (arith, same, is.marks.rows, inside)) changed_read 0 ∙ ap (slice_index side.changed.items) same in
    let standing_is : standing ≡ slice_index side.standing.items row = get_or_read side.standing.items at standing (omega (arith, same, is.standing.rows, inside)) standing_read 0 ∙ ap (slice_index side.standing.items) same in
    let small : changed < 2 ^ size.columns = rw changed_is (All-get_or (λ r. r < 2 ^ size.columns) side.changed.items row 0 (omega (arith, is.marks.rows, inside)) is.marks.within) in
    record {
      inside = inside;
      few = few;
      changed_is = changed_is;
      standing_is = standing_is;
      columns = columns;
      small_changed = small;
      small_standing = rw standing_is (All-get_or (λ r. r < 2 ^ size.columns) side.standing.items row 0 (omega (arith, is.standing.rows, inside)) is.standing.within);
      fits = fits-columns changed size.columns small few;
      fits_empty = fits-columns empty size.columns columns.few few;
    }

module _ (field : Kept) (side : Side) (row changed standing empty : ℕ) where
  row-bits : IsRow field side row changed standing empty → (c : ℕ) → c < field.board.size.columns → AreBits changed empty standing c
  row-bits is c low = bits-are changed empty standing c is.fits is.fits_empty (omega (arith, low, is.few))

  pub going-small : IsRow field side row changed standing empty → bit_and (bit_and changed standing) (bit_not w64 empty) < 2 ^ field.board.size.columns
  going-small is = omega (arith, and_le_l (bit_and changed standing) (bit_not w64 empty), and_le_l changed standing, is.small_changed)

  pub coming-small : IsRow field side row changed standing empty → bit_and changed empty < 2 ^ field.board.size.columns
  coming-small is = omega (arith, and_le_l changed empty, is.small_changed)

  pub going-filled : IsRow field side row changed standing empty → AllFilled field.board row (bit_and (bit_and changed standing) (bit_not w64 empty))
  going-filled is c looks stands =
      let low = column-inside (bit_and (bit_and changed standing) (bit_not w64 empty)) c field.board.size.columns looks (going-small is) in
      let bits = row-bits is c low in
      absurd (omega (arith, bits.going, looks, bits.empty_bit, is.columns.each c low ∙ ap bit_of_empty stands))

  pub coming-empty : IsRow field side row changed standing empty → (c : ℕ) → bit_at (bit_and changed empty) c ≡ 1 →
      position_of field.board (record { column = c; row = row }) ≡ stone.Empty
  coming-empty is c looks =
      let low = column-inside (bit_and changed empty) c field.board.size.columns looks (coming-small is) in
      let bits = row-bits is c low in
      elim (position_of field.board (record { column = c; row = row })) as (λ s. position_of field.board (record { column = c; row = row }) ≡ s → s ≡ stone.Empty) [
        | stone.Empty ↦ λ stands. refl
        | stone.Black ↦ λ stands. absurd (omega (arith, bits.coming, looks, bits.changed_bit, is.columns.each c low ∙ ap bit_of_empty stands))
        | stone.White ↦ λ stands. absurd (omega (arith, bits.coming, looks, bits.changed_bit, is.columns.each c low ∙ ap bit_of_empty stands))
      ] refl

  pub coming-stands : IsRow field side row changed standing empty → (c : ℕ) → bit_at (bit_and changed empty) c ≡ 1 →
      bit_at (bit_or (bit_and standing (bit_not w64 changed)) (bit_and changed empty)) c ≡ 1
  coming-stands is c looks =
      let bits = row-bits is c (column-inside (bit_and changed empty) c field.board.size.columns looks (coming-small is)) in
      omega (arith, bits.left, bits.coming, looks, bits.changed_bit, bits.standing_bit)

-- ---- where something may stay

-- a row of the set of points at which something may stay is another now
pub standing-set : (size : Extent) (met : ℕ) (side new : Side) (row n : ℕ) → AreStanding size met side → row < size.rows → n < 2 ^ size.columns →
    AreMarks size new.changed.items → new.occasions ≡ side.occasions → new.points.items ≡ side.points.items → new.standing.items ≡ set side.standing.items row n →
    ((q : Point) → IsOn size q → q.row ≡ row → bit_at n q.column ≡ 0 → slice_index_or side.points.items (index_of size q) no_stays ≡ no_stays) →
    AreStanding size met new
standing-set size met side new row n is inside few marks occasions points standing none =
    let rows = side.standing.items in
    let marks_now : AreMarks size (set rows row n) = record {
      rows = length-set rows row n ∙ is.standing.rows;
      within = All-set (λ r. r < 2 ^ size.columns) rows row n few is.standing.within;
    } in
    record {
      room = ap length points ∙ is.room;
      marks = marks;
      stays = rw (occasions, points) is.stays;
      standing = rw standing marks_now;
      nothing = λ q on zero_bit.
          ap (λ all. slice_index_or all (index_of size q) no_stays) points
          ∙ ⊎_elim
          (λ (same : q.row ≡ row).
          none q on same
          (sym (ap (λ all. bit_at (slice_index all q.row) q.column) standing
          ∙ ap (λ r. bit_at (slice_index (set rows row n) r) q.column) same
          ∙ ap (λ m. bit_at m q.column) (get_or-set_same rows row n 0 (omega (arith, is.standing.rows, inside)))) ∙ zero_bit))
          (λ (other : q.row ≡ row → ⊥).
          is.nothing q on
          (sym (ap (λ all. bit_at (slice_index all q.row) q.column) standing
          ∙ ap (λ m. bit_at m q.column) (get_or-set_other rows row q.row n 0 other)) ∙ zero_bit))
          (cases_eq q.row row);
    }

module _ (field : Kept) (mover : Colour) where
  -- points that were left out, at which nothing stays and nothing comes, count as looked at
  pub looked-all : (points some : List Point) (before after : List Meeting) (side new : Side) → HasLooked field mover some [] before side after new →
      flat_map (here_on field mover) some ≡ flat_map (here_on field mover) points → All (λ q. Contains some q ⊎ StayOn field mover before side q) points →
      HasLooked field mover points [] before side after new
  looked-all points some before after side new looked same cover =
      let here = here_on field mover in
      let seen : looked.seen ≡ some = sym (append-nil looked.seen) ∙ looked.all in
      record {
        seen = points;
        all = append-nil points;
        standing = looked.standing;
        occasions = looked.occasions;
        there = looked.there;
        played = looked.played;
        meets = subst (λ patterns. Meets (shapes_of before) patterns (shapes_of after)) (ap (flat_map here) seen ∙ same) looked.meets;
        looks = λ q on known. ⊎_elim
            (λ (among : Contains points q). ⊎_elim
            (λ (is : Contains some q). looked.looks q on (inl (subst (λ ps. Contains ps q) (sym seen) is)))
            (λ (stay : StayOn field mover before side q). looked.looks q on (inr stay))
            (All-contains (λ p. Contains some p ⊎ StayOn field mover before side p) points q cover among))
            (λ (stay : StayOn field mover before side q). looked.looks q on (inr stay))
            known;
      }

  -- a point with a stone has no patterns, by the bits of empty points
  filled : (row empty c : ℕ) → c < field.board.size.columns → AreEmptyColumns field.board.size (position_of field.board) row empty →
      bit_at empty c ≡ 0 → here_on field mover (record { column = c; row = row }) ≡ []
  filled row empty c low columns none =
      here-filled field mover (record { column = c; row = row }) (λ stands. absurd (omega (arith, none, columns.each c low ∙ ap bit_of_empty stands)))

  -- the patterns of the points that come are those of all that changed
  coming-all : (row changed empty : ℕ) → field.board.size.columns ≤ 52 → changed < 2 ^ 64 → AreEmptyColumns field.board.size (position_of field.board) row empty →
      flat_map (here_on field mover) (points_in field.board.size row (bit_and changed empty)) ≡ flat_map (here_on field mover) (points_in field.board.size row changed)
  coming-all row changed empty few fits columns =
      let size = field.board.size in
      let here = here_on field mover in
      let some = bit_and changed empty in
      same-patterns here (λ q. bit_at some q.column == 1) (λ q. bit_at changed q.column == 1) (row_of size row)
      (row-all (λ q. ((bit_at some q.column == 1) ≡ (bit_at changed q.column == 1)) ⊎ (here q ≡ [])) row 0 size.columns
      (λ c low high.
      ⊎_elim
      (λ (none : bit_at empty c ≡ 0). inr (filled row empty c (omega (arith, high)) columns none))
      (λ (one : bit_at empty c ≡ 0 → ⊥).
      inl (ap (λ n. n == 1) (bit_at_and changed empty c ∙ omega (arith, bit_at-lt changed c, bit_at-lt empty c, one))))
      (cases_eq (bit_at empty c) 0)))

  -- those that go have none
  going-none : (row bits : ℕ) → ((c : ℕ) → c < field.board.size.columns → bit_at bits c ≡ 1 → here_on field mover (record { column = c; row = row }) ≡ []) →
      flat_map (here_on field mover) (points_in field.board.size row bits) ≡ []
  going-none row bits none =
      let size = field.board.size in
      let here = here_on field mover in
      same-patterns here (λ q. bit_at bits q.column == 1) (λ q. bit_at 0 q.column == 1) (row_of size row)
      (row-all (λ q. ((bit_at bits q.column == 1) ≡ (bit_at 0 q.column == 1)) ⊎ (here q ≡ [])) row 0 size.columns
      (λ c low high.
      ⊎_elim
      (λ (one : bit_at bits c ≡ 1). inr (none c (omega (arith, high)) one))
      (λ (other : bit_at bits c ≡ 1 → ⊥). inl (ap (λ n. n == 1) (sym (bit_at-zero c ∙ omega (arith, bit_at-lt bits c, other)))))
      (cases_eq (bit_at bits c) 1)))
      ∙ ap (flat_map here) (row-none size row 0 refl)

  -- where first those are looked at that go, and then those that come, all that changed were
  pub looked-row : (row changed standing empty : ℕ) (before middle after : List Meeting) (side between new : Side) → IsRow field side row changed standing empty →
      AreStanding field.board.size (length (shapes_of before)) side →
      HasLooked field mover (points_in field.board.size row (bit_and (bit_and changed standing) (bit_not w64 empty))) [] before side middle between →
      HasLooked field mover (points_in field.board.size row (bit_and changed empty)) [] middle between after new →
      HasLooked field mover (points_in field.board.size row changed) [] before side after new
  looked-row row changed standing empty before middle after side between new is standing_before first then =
      let size = field.board.size in
      let here = here_on field mover in
      let going = bit_and (bit_and changed standing) (bit_not w64 empty) in
      let coming = bit_and changed empty in
      let gone = points_in size row going in
      let come = points_in size row coming in
      let at : ℕ → Point = λ c. record { column = c; row = row } in
      let begun = looked-more field mover (gone ++ come) gone come before before middle side side between
      (looked-none field mover (gone ++ come) before side side standing_before refl refl) first in
      let both = looked-more field mover (gone ++ come) come [] before middle after side between new
      (subst (λ left. HasLooked field mover (gone ++ come) left before side middle between) (sym (append-nil come)) begun) then in
      looked-all (points_in size row changed) (gone ++ come) before after side new both
      (flat_map-append here gone come
      ∙ ap (λ ps. ps ++ flat_map here come)
      (going-none row going (λ c low one. here-filled field mover (at c) (going-filled field side row changed standing empty is c one)))
      ∙ coming-all row changed empty is.few is.fits is.columns)
      (all-kept (λ q. Contains (gone ++ come) q ⊎ StayOn field mover before side q) (λ q. bit_at changed q.column == 1) (row_of size row)
      (row-all (λ q. (bit_at changed q.column == 1) ≡ true → Contains (gone ++ come) q ⊎ StayOn field mover before side q) row 0 size.columns
      (λ c first_column high pass.
      let low : c < size.columns = omega (arith, high) in
      let on : IsOn size (at c) = (low, is.inside) in
      let bits = row-bits field side row changed standing empty is c low in
      let one : bit_at changed c ≡ 1 = is-set-back (bit_at changed c) pass in
      ⊎_elim
      (λ (comes : bit_at coming c ≡ 1). inl (Contains-append_right gone come (at c) (row-has size row coming (at c) on refl comes)))
      (λ (stays : bit_at coming c ≡ 1 → ⊥).
      ⊎_elim
      (λ (goes : bit_at going c ≡ 1). inl (Contains-append_left gone come (at c) (row-has size row going (at c) on refl goes)))
      (λ (stands : bit_at going c ≡ 1 → ⊥).
      let none : bit_at empty c ≡ 0 = omega (arith, bits.coming, bits.empty_bit, one, stays) in
      let closed : bit_at standing c ≡ 0 = omega (arith, bits.going, bits.standing_bit, one, none, stands) in
      inr (ap (patterns_staying (shapes_of before)) (standing_before.nothing (at c) on (ap (λ n. bit_at n c) (sym is.standing_is) ∙ closed)) ∙ sym (filled row empty c low is.columns none)))
      (cases_eq (bit_at going c) 1))
      (cases_eq (bit_at coming c) 1))))

  -- where those were looked at that go, something may stay at those that come, and at the others as before
  pub stands-now : (row changed standing empty : ℕ) (before middle : List Meeting) (side between new : Side) → IsRow field side row changed standing empty →
      HasLooked field mover (points_in field.board.size row (bit_and (bit_and changed standing) (bit_not w64 empty))) [] before side middle between →
      between.standing ≡ side.standing → AreMarks field.board.size new.changed.items → new.occasions ≡ between.occasions → new.points.items ≡ between.points.items →
      new.standing.items ≡ set between.standing.items row (bit_or (bit_and standing (bit_not w64 changed)) (bit_and changed empty)) →
      AreStanding field.board.size (length (shapes_of middle)) new
  stands-now row changed standing empty before middle side between new is looked stood marks occasions points now =
      let size = field.board.size in
      let going = bit_and (bit_and changed standing) (bit_not w64 empty) in
      standing-set size (length (shapes_of middle)) between new row (bit_or (bit_and standing (bit_not w64 changed)) (bit_and changed empty)) looked.standing is.inside
      (or_lt size.columns (bit_and standing (bit_not w64 changed)) (bit_and changed empty)
      (omega (arith, and_le_l standing (bit_not w64 changed), is.small_standing)) (coming-small field side row changed standing empty is))
      marks occasions points now
      (λ q on same none.
      let bits = row-bits field side row changed standing empty is q.column on.0 in
      ⊎_elim
      (λ (goes : bit_at going q.column ≡ 1).
      none-filled field mover q (shapes_of middle) (slice_index_or between.points.items (index_of size q) no_stays)
      (looked.looks q on (inl (subst (λ ps. Contains ps q) (sym (sym (append-nil looked.seen) ∙ looked.all)) (row-has size row going q on same goes))))
      (λ stands. going-filled field side row changed standing empty is q.column goes
      (ap (position_of field.board) (ap (λ (r : ℕ). column-of q r) (sym same)) ∙ stands)))
      (λ (stays : bit_at going q.column ≡ 1 → ⊥).
      looked.standing.nothing q on
      (ap (λ (v : Vec ℕ Global). bit_at (slice_index v.items q.row) q.column) stood
      ∙ ap (λ r. bit_at (slice_index side.standing.items r) q.column) same
      ∙ ap (λ n. bit_at n q.column) (sym is.standing_is)
      ∙ omega (arith, none, stays, bits.left, bits.going, bits.changed_bit, bits.empty_bit, bits.standing_bit)))
      (cases_eq (bit_at going q.column) 1))

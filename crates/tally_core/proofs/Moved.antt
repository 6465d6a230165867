-- What stays at a point stays there while its words are the same, and the points whose words become others join the sets.
use Rattle.std.proofs.Common.{◌≡◌, ℕ, ◌^◌, ◌<◌, ◌⊎◌, inl, inr, Bool, true, false, cond, ◌++◌, List, [], ◌∷◌, length, slice_index, slice_index_or, bit_or, All, refl, ap, ap₂, sym, subst, ◌∙◌, ⊎_elim, arith}
use Rattle.std.specs.Int.{bit_at}
use Rattle.std.specs.List.{flat_map}
use Rattle.std.proofs.lemmas.Nat.{or_lt}
use Rattle.std.proofs.lemmas.Nat.Bits.{bit_at_or, bit_at-lt}
use Rattle.std.proofs.lemmas.List.Elements.{All-from_get_or, All-get_or}
use Rattle.go_board.specs.Extent.{Extent}
use Rattle.go_board.specs.Point.{IsOn, index_of}
use Rattle.go_board.specs.Position.{Position}
use Rattle.go_board.specs.Board.{position_of}
use Rattle.go_board.specs.declared.points.Point.{Point}
use Rattle.go_board.specs.declared.points.Colour.{Colour}
use Rattle.go_board.specs.declared.points.Stone.{Stone}
use Rattle.shape_core.specs.declared.words.Kind.{Kind}
use Rattle.shape_core.specs.declared.words.Kind.TheVariants as kind
use Rattle.shape_core.specs.declared.words.Kinds.{Kinds}
use Rattle.shape_core.specs.declared.words.Kinds.TheVariants as which
use Rattle.shape_core.specs.Symmetry.{canonical_of}
use Rattle.shape_core.specs.Word.{code_at}
use Rattle.shape_core.specs.Around.{word_around}
use Rattle.shape_core.specs.Field.{Kept, Includes, IsMarked, AreJoined}
use Rattle.shape_core.specs.KeptLists.{AreMarks}
use Rattle.shape_core.specs.Tracks.{Tracks}
use Rattle.shape_core.proofs.Agreeing.{middle, same_stones}
use Rattle.tally_core.specs.Occasions.{is_empty}
use Rattle.tally_core.specs.Counts.{kinds_of, patterns_at}
use Rattle.tally_core.specs.Inner.Standing.{AreStays, StayThere, patterns_here, IsSide, no_stays}
use Rattle.tally_core.specs.declared.sides.Side.{Side}

-- ---- sets that others join

bits-joined : (a b k : ℕ) → (bit_at a k ≡ 1) ⊎ (bit_at b k ≡ 1) → bit_at (bit_or a b) k ≡ 1
bits-joined a b k h =
    bit_at_or a b k
    ∙ ⊎_elim
    (λ (left : bit_at a k ≡ 1). omega (arith, left, bit_at-lt b k))
    (λ (right : bit_at b k ≡ 1). omega (arith, right, bit_at-lt a k))
    h

pub joined-there : (marks before after : List ℕ) (q : Point) → AreJoined marks before after → IsMarked before q ⊎ IsMarked marks q → IsMarked after q
joined-there marks before after q joined h =
    ap (λ n. bit_at n q.column) (joined.joined q.row) ∙ bits-joined (slice_index before q.row) (slice_index marks q.row) q.column h

pub joined-marks : (size : Extent) (marks before after : List ℕ) → AreJoined marks before after → AreMarks size marks → AreMarks size before → AreMarks size after
joined-marks size marks before after joined new old = record {
  rows = joined.rows ∙ old.rows;
  within = All-from_get_or (λ row. row < 2 ^ size.columns) after 0
      (λ i inside. subst (λ n. n < 2 ^ size.columns) (sym (joined.joined i))
      (or_lt size.columns (slice_index before i) (slice_index marks i)
      (All-get_or (λ row. row < 2 ^ size.columns) before i 0 (omega (arith, inside, joined.rows)) old.within)
      (All-get_or (λ row. row < 2 ^ size.columns) marks i 0 (omega (arith, inside, joined.rows, old.rows, new.rows)) new.within)));
}

-- ---- patterns of points whose words are the same

at-same : (kinds : Kinds) (size : Extent) (p r : Position) (mover : Colour) (q : Point) →
    ((k : Kind) → Includes kinds k → word_around k size r q ≡ word_around k size p q) → patterns_at (kinds_of kinds) size r mover q ≡ patterns_at (kinds_of kinds) size p mover q
at-same which.Squares size p r mover q same = ap (λ w. canonical_of w mover ∷ []) (same kind.Square tt)
at-same which.Both size p r mover q same = ap₂ (λ w v. canonical_of w mover ∷ canonical_of v mover ∷ []) (same kind.Square tt) (same kind.Diamond tt)

square-kept : (kinds : Kinds) → Includes kinds kind.Square
square-kept which.Squares = tt
square-kept which.Both = tt

here-at : (f g : Point → List ℕ) (q : Point) (b : Bool) → f q ≡ g q → flat_map f (cond b (q ∷ []) []) ≡ flat_map g (cond b (q ∷ []) [])
here-at f g q true same = ap (λ ps. ps ++ []) same
here-at f g q false same = refl

here-same : (kinds : Kinds) (size : Extent) (p r : Position) (mover : Colour) (q : Point) → IsOn size q →
    ((k : Kind) → Includes kinds k → word_around k size r q ≡ word_around k size p q) → patterns_here kinds size r mover q ≡ patterns_here kinds size p mover q
here-same kinds size p r mover q on same =
    let stone : r q ≡ p q = same_stones (r q) (p q) (sym (middle size r q on) ∙ ap (λ w. code_at w 12) (same kind.Square (square-kept kinds)) ∙ middle size p q on) in
    ap (λ (s : Stone). flat_map (patterns_at (kinds_of kinds) size r mover) (cond (is_empty s) (q ∷ []) [])) stone
    ∙ here-at (patterns_at (kinds_of kinds) size r mover) (patterns_at (kinds_of kinds) size p mover) q (is_empty (p q)) (at-same kinds size p r mover q same)

squares-same : (f g : Kind → ℕ) (k : Kind) → Includes which.Squares k → f kind.Square ≡ g kind.Square → f k ≡ g k
squares-same f g kind.Square includes same = same
squares-same f g kind.Diamond includes same = absurd includes

kinds-same : (f g : Kind → ℕ) (k : Kind) → f kind.Square ≡ g kind.Square → f kind.Diamond ≡ g kind.Diamond → f k ≡ g k
kinds-same f g kind.Square square diamond = square
kinds-same f g kind.Diamond square diamond = diamond

-- either all words are the same, or it is so
both-same : (kinds : Kinds) (f g : Kind → ℕ) (P : Type 0) → ((k : Kind) → Includes kinds k → (f k ≡ g k) ⊎ P) → ((k : Kind) → Includes kinds k → f k ≡ g k) ⊎ P
both-same which.Squares f g P h =
    ⊎_elim (λ (same : f kind.Square ≡ g kind.Square). inl (λ k includes. squares-same f g k includes same)) (λ (p : P). inr p) (h kind.Square tt)
both-same which.Both f g P h =
    ⊎_elim
    (λ (square : f kind.Square ≡ g kind.Square).
    ⊎_elim (λ (diamond : f kind.Diamond ≡ g kind.Diamond). inl (λ k includes. kinds-same f g k square diamond)) (λ (p : P). inr p) (h kind.Diamond tt))
    (λ (p : P). inr p)
    (h kind.Square tt)

-- the words of a point are the same, or it was marked
same-or-marked : (before after : Kept) (q : Point) → IsOn before.board.size q → Tracks before after →
    ((k : Kind) → Includes before.kinds k → word_around k before.board.size (position_of after.board) q ≡ word_around k before.board.size (position_of before.board) q)
    ⊎ IsMarked after.changed q
same-or-marked before after q on tracks =
    both-same before.kinds (λ k. word_around k before.board.size (position_of after.board) q) (λ k. word_around k before.board.size (position_of before.board) q) (IsMarked after.changed q)
    (λ k includes. tracks.marks.differing k includes q on)

-- a side, once an action was done and what it changed has joined the set
pub side-moved : (before after : Kept) (mover : Colour) (shapes : List ℕ) (side moved : Side) →
    IsSide before.kinds before.board.size (position_of before.board) mover shapes side → Tracks before after → AreMarks before.board.size after.changed →
    moved.occasions ≡ side.occasions → moved.points.items ≡ side.points.items → moved.standing.items ≡ side.standing.items → AreJoined after.changed side.changed.items moved.changed.items →
    IsSide before.kinds before.board.size (position_of after.board) mover shapes moved
side-moved before after mover shapes side moved is tracks marks occasions points standing joined =
    let size = before.board.size in
    record {
      standing = record {
        room = ap length points ∙ is.standing.room;
        marks = joined-marks size after.changed side.changed.items moved.changed.items joined marks is.standing.marks;
        stays = subst (λ n. All (AreStays (length shapes) n) moved.points.items) (sym occasions)
            (subst (All (AreStays (length shapes) side.occasions)) (sym points) is.standing.stays);
        standing = rw standing is.standing.standing;
        nothing = λ q on none.
            ap (λ all. slice_index_or all (index_of size q) no_stays) points
            ∙ is.standing.nothing q on (ap (λ all. bit_at (slice_index all q.row) q.column) (sym standing) ∙ none);
      };
      pending = λ q on. ⊎_elim
          (λ (was : IsMarked side.changed.items q). inl (joined-there after.changed side.changed.items moved.changed.items q joined (inl was)))
          (λ (stay : StayThere before.kinds size (position_of before.board) mover shapes side.points.items q).
          ⊎_elim
          (λ (same : (k : Kind) → Includes before.kinds k → word_around k size (position_of after.board) q ≡ word_around k size (position_of before.board) q).
          inr (subst (λ list. StayThere before.kinds size (position_of after.board) mover shapes list q) (sym points)
          (stay ∙ sym (here-same before.kinds size (position_of before.board) (position_of after.board) mover q on same))))
          (λ (changed : IsMarked after.changed q). inl (joined-there after.changed side.changed.items moved.changed.items q joined (inr changed)))
          (same-or-marked before after q on tracks))
          (is.pending q on);
    }

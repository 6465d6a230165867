-- Points that have to be looked at again once an action was done.
use Rattle.std.proofs.Common.{◌≡◌, ℕ, ◌<◌, ◌^◌, ◌⊎◌, inl, inr, ⊎_elim, Bool, true, false, cond, List, [], ◌∷◌, ◌++◌, slice_index, filter, refl, ap, ap₂, sym, subst, ◌∙◌, arith}
use Rattle.std.specs.List.{flat_map}
use Rattle.std.specs.Int.{bit_at}
use Rattle.std.proofs.lemmas.List.Elements.{All-get_or, All-from_get_or}
use Rattle.go_board.specs.Extent.{Extent}
use Rattle.go_board.specs.Position.{Position}
use Rattle.go_board.specs.Board.{Stones, position_of}
use Rattle.go_board.specs.Point.{IsOn}
use Rattle.go_board.specs.declared.points.Point.{Point}
use Rattle.go_board.specs.declared.points.Colour.{Colour}
use Rattle.go_board.specs.declared.points.Stone.{Stone}
use Rattle.shape_core.specs.declared.words.Kind.{Kind}
use Rattle.shape_core.specs.declared.words.Kind.TheVariants as kind
use Rattle.shape_core.specs.declared.words.Kinds.{Kinds}
use Rattle.shape_core.specs.declared.words.Kinds.TheVariants as which
use Rattle.shape_core.specs.Symmetry.{canonical_of}
use Rattle.shape_core.specs.Word.{code_at, kind_of}
use Rattle.shape_core.specs.Around.{word_around}
use Rattle.shape_core.specs.Field.{Kept, Includes, IsMarked, AreJoined}
use Rattle.shape_core.specs.KeptLists.{AreMarks}
use Rattle.shape_core.specs.Tracks.{Tracks}
use Rattle.shape_core.proofs.Agreeing.{middle, same_stones}
use Rattle.tally_core.specs.Occasions.{is_empty}
use Rattle.tally_core.proofs.Moved.{joined-there, joined-marks}
use Rattle.hits_core.specs.Wanted.{is_wanted, wanted_at}
use Rattle.hits_core.specs.Inner.Watching.{KeepsWanted, wanted_over, HasNone, AreOpen}
use Rattle.hits_core.proofs.Wanting.{one-judged}

-- a canonical word is of the kind that was looked at
abbrev pub KindsStay : Type 0
KindsStay = ((word : ℕ) (mover : Colour) → kind_of (canonical_of word mover) ≡ kind_of word)
    × ((k : Kind) (size : Extent) (position : Position) (point : Point) → kind_of (word_around k size position point) ≡ k)

-- the canonical word of a point
abbrev word_at : Kind → Extent → Position → Colour → Point → ℕ
word_at k size position mover q = canonical_of (word_around k size position q) mover

-- no diamond is wanted
abbrev NoDiamonds : List ℕ → Type 0
NoDiamonds words = (word : ℕ) → kind_of word ≡ kind.Diamond → is_wanted words word ≡ false

-- where no diamond is wanted, what is wanted at a point depends on its square alone
wanted-square : KindsStay → (words : List ℕ) (size : Extent) (position : Position) (mover : Colour) (q : Point) → NoDiamonds words →
    wanted_at words size position mover q ≡ filter (is_wanted words) (word_at kind.Square size position mover q ∷ []) ++ []
wanted-square stay words size position mover q none =
    sym (one-judged (is_wanted words) (word_at kind.Square size position mover q) (word_at kind.Diamond size position mover q)
    (none (word_at kind.Diamond size position mover q) (stay.0 (word_around kind.Diamond size position q) mover ∙ stay.1 kind.Diamond size position q)))

-- words that are the same of each kind that is kept
abbrev AreSameWords : Kept → Position → Point → Type 0
AreSameWords field after q =
    (k : Kind) → Includes field.kinds k → word_around k field.board.size after q ≡ word_around k field.board.size (position_of field.board) q

square-same : (kinds : Kinds) (P : Kind → Type 0) → ((k : Kind) → Includes kinds k → P k) → P kind.Square
square-same which.Squares P h = h kind.Square tt
square-same which.Both P h = h kind.Square tt

wanted-same : KindsStay → (kinds : Kinds) (words : List ℕ) (size : Extent) (p r : Position) (mover : Colour) (q : Point) → (kinds ≡ which.Squares → NoDiamonds words) →
    ((k : Kind) → Includes kinds k → word_around k size r q ≡ word_around k size p q) → wanted_at words size r mover q ≡ wanted_at words size p mover q
wanted-same stay which.Squares words size p r mover q keeps same =
    wanted-square stay words size r mover q (keeps refl)
    ∙ ap (λ w. filter (is_wanted words) (canonical_of w mover ∷ []) ++ []) (same kind.Square tt)
    ∙ sym (wanted-square stay words size p mover q (keeps refl))
wanted-same stay which.Both words size p r mover q keeps same =
    ap₂ (λ w v. filter (is_wanted words) (canonical_of w mover ∷ canonical_of v mover ∷ [])) (same kind.Square tt) (same kind.Diamond tt)

over-same : (f g : Point → List ℕ) (q : Point) (b : Bool) → f q ≡ g q → flat_map f (cond b (q ∷ []) []) ≡ flat_map g (cond b (q ∷ []) [])
over-same f g q true same = ap (λ ps. ps ++ []) same
over-same f g q false same = refl

-- a point whose words are the same has none where it had none
none-stays : KindsStay → (words : List ℕ) (before after : Kept) (mover : Colour) (q : Point) → IsOn before.board.size q → KeepsWanted before words → after.board.size ≡ before.board.size →
    AreSameWords before (position_of after.board) q → HasNone words before mover q → HasNone words after mover q
none-stays stay words before after mover q on keeps sized same none =
    let size = before.board.size in
    let p = position_of before.board in
    let r = position_of after.board in
    let stone : r q ≡ p q = same_stones (r q) (p q)
    (sym (middle size r q on) ∙ ap (λ w. code_at w 12) (square-same before.kinds (λ k. word_around k size r q ≡ word_around k size p q) same) ∙ middle size p q on) in
    ap (λ (s : Extent). wanted_over words s r mover (q ∷ [])) sized
    ∙ ap (λ (s : Stone). flat_map (wanted_at words size r mover) (cond (is_empty s) (q ∷ []) [])) stone
    ∙ over-same (wanted_at words size r mover) (wanted_at words size p mover) q (is_empty (p q)) (wanted-same stay before.kinds words size p r mover q keeps same)
    ∙ none

-- either all words that are kept are the same, or the point is marked
either : (kinds : Kinds) (S : Kind → Type 0) (M : Type 0) → ((k : Kind) → Includes kinds k → S k ⊎ M) → ((k : Kind) → Includes kinds k → S k) ⊎ M
either which.Squares S M h = ⊎_elim (λ (s : S kind.Square). inl (squares s)) (λ (m : M). inr m) (h kind.Square tt)
  where
    squares : S kind.Square → (k : Kind) → Includes which.Squares k → S k
    squares s kind.Square includes = s
    squares s kind.Diamond includes = absurd includes
either which.Both S M h =
    ⊎_elim
    (λ (s : S kind.Square). ⊎_elim (λ (d : S kind.Diamond). inl (both s d)) (λ (m : M). inr m) (h kind.Diamond tt))
    (λ (m : M). inr m)
    (h kind.Square tt)
  where
    both : S kind.Square → S kind.Diamond → (k : Kind) → Includes which.Both k → S k
    both s d kind.Square includes = s
    both s d kind.Diamond includes = d

-- the points that changed have joined the set
pub open-moved : KindsStay → (words : List ℕ) (before after : Kept) (mover : Colour) (open_rows moved : List ℕ) → KeepsWanted before words → AreOpen words before mover open_rows →
    Tracks before after → AreMarks before.board.size after.changed → AreJoined after.changed open_rows moved → AreOpen words after mover moved
open-moved stay words before after mover open_rows moved keeps are tracks marks joined =
    let size = before.board.size in
    let set : AreMarks size open_rows = record { rows = are.rows; within = All-from_get_or (λ n. n < 2 ^ size.columns) open_rows 0 (λ i inside. (are.each i (omega (arith, inside, are.rows))).few) } in
    let now = joined-marks size after.changed open_rows moved joined marks set in
    record {
      rows = now.rows ∙ ap (λ (s : Extent). s.rows) (sym tracks.size);
      each = λ row below.
          let inside : row < size.rows = subst (λ (s : Extent). row < s.rows) tracks.size below in
          record {
            few = subst (λ (s : Extent). slice_index moved row < 2 ^ s.columns) (sym tracks.size) (All-get_or (λ n. n < 2 ^ size.columns) moved row 0 (omega (arith, now.rows, inside)) now.within);
            each = λ column within.
                let q : Point = record { column = column; row = row } in
                let here : column < size.columns = subst (λ (s : Extent). column < s.columns) tracks.size within in
                ⊎_elim
                (λ (was : bit_at (slice_index open_rows row) column ≡ 1). inl (joined-there after.changed open_rows moved q joined (inl was)))
                (λ (none : HasNone words before mover q).
                ⊎_elim
                (λ (same : AreSameWords before (position_of after.board) q). inr (none-stays stay words before after mover q (here, inside) keeps tracks.size same none))
                (λ (marked : IsMarked after.changed q). inl (joined-there after.changed open_rows moved q joined (inr marked)))
                (either before.kinds (λ k. word_around k size (position_of after.board) q ≡ word_around k size (position_of before.board) q) (IsMarked after.changed q)
                (λ k includes. tracks.marks.differing k includes q (here, inside))))
                ((are.each row inside).each column here);
          };
    }

-- it is the board alone that matters
pub open-same : (words : List ℕ) (field now : Kept) (mover : Colour) (open_rows : List ℕ) → now.board ≡ field.board → AreOpen words field mover open_rows → AreOpen words now mover open_rows
open-same words field now mover open_rows same are =
    let of : Stones → Type 0 = λ board. AreOpen words (record { board = board; kinds = field.kinds; changed = field.changed }) mover open_rows in
    let there : of now.board = subst of (sym same) are in
    record { rows = there.rows; each = λ row below. let is = there.each row below in record { few = is.few; each = is.each } }

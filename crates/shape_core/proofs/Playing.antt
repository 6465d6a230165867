-- Fields after a stone is set or a move is played: words that follow, and marks.
use Rattle.std.proofs.Common.{◌≡◌, ℕ, List, slice_index, sym, refl, subst, ◌∙◌, ⊎_elim, ◌⊎◌, inl, inr}
use Rattle.go_board.specs.Extent.{Extent}
use Rattle.go_board.specs.Point.{IsOn, index_of}
use Rattle.go_board.specs.Position.{Position}
use Rattle.go_board.specs.Board.{Stones, position_of}
use Rattle.go_board.specs.declared.points.Point.{Point}
use Rattle.shape_core.specs.declared.words.Kind.{Kind}
use Rattle.shape_core.specs.declared.words.Kind.TheVariants as kind
use Rattle.shape_core.specs.declared.words.Kinds.{Kinds}
use Rattle.shape_core.specs.declared.words.Kinds.TheVariants as kinds
use Rattle.shape_core.specs.Around.{word_around}
use Rattle.shape_core.specs.Field.{Includes, IsMarked, MarksChanges}
use Rattle.shape_core.specs.Inner.KeptLists.{AreWords, DifferingAreMarked}
use Rattle.shape_core.specs.Inner.Keeping.{Follows, Changes}
use Rattle.shape_core.specs.declared.kept.KeptWords.{KeptWords}
use Rattle.shape_core.proofs.Agreeing.{Agree}

includes_both : (which : Kinds) → Includes which kind.Diamond → which ≡ kinds.Both
includes_both kinds.Both h = refl
includes_both kinds.Squares h = absurd h

same_word : (k : Kind) (size : Extent) (before after : Position) (old new changed : List ℕ) → AreWords k size before old → AreWords k size after new → DifferingAreMarked size old new changed → (q : Point) → IsOn size q →
    (word_around k size after q ≡ word_around k size before q) ⊎ IsMarked changed q
same_word k size before after old new changed was is marked q on =
    ⊎_elim
    (λ (e : slice_index new (index_of size q) ≡ slice_index old (index_of size q)). inl (sym (is.each q on) ∙ e ∙ was.each q on))
    (λ (m : IsMarked changed q). inr m)
    (marked q on)

-- a board whose kept words follow it before and after a change has the points whose words differ marked
pub marks_changes : (before after : Stones) (first last : KeptWords) → first.size ≡ before.size →
    Follows first (position_of before) → Follows last (position_of after) → Changes first last →
    MarksChanges (record { board = before; kinds = first.kinds; changed = first.changed.items }) (record { board = after; kinds = last.kinds; changed = last.changed.items })
marks_changes before after first last e was is change =
    let old = position_of before in
    let new = position_of after in
    let squares = subst (λ s. AreWords kind.Square s new last.squares.items) change.size is.squares_follow in
    let diamonds = λ (both : first.kinds ≡ kinds.Both). subst (λ s. AreWords kind.Diamond s new last.diamonds.items) change.size (is.diamonds_follow (change.kinds ∙ both)) in
    record {
      stay = change.stay;
      differing = λ k. elim k as (λ k. Includes first.kinds k → (q : Point) → IsOn before.size q → (word_around k before.size new q ≡ word_around k before.size old q) ⊎ IsMarked last.changed.items q) [
        | kind.Square ↦ λ h. subst (λ s. (q : Point) → IsOn s q → (word_around kind.Square s new q ≡ word_around kind.Square s old q) ⊎ IsMarked last.changed.items q) e
            (same_word kind.Square first.size old new first.squares.items last.squares.items last.changed.items was.squares_follow squares change.squares)
        | kind.Diamond ↦ λ h. let both = includes_both first.kinds h in
            subst (λ s. (q : Point) → IsOn s q → (word_around kind.Diamond s new q ≡ word_around kind.Diamond s old q) ⊎ IsMarked last.changed.items q) e
            (same_word kind.Diamond first.size old new first.diamonds.items last.diamonds.items last.changed.items (was.diamonds_follow both) (diamonds both) (change.diamonds both))
      ];
    }

differing_twice : (size : Extent) (first second third changed later : List ℕ) → DifferingAreMarked size first second changed → ((q : Point) → IsMarked changed q → IsMarked later q) → DifferingAreMarked size second third later → DifferingAreMarked size first third later
differing_twice size first second third changed later a stay b = λ q on.
    ⊎_elim
    (λ (e : slice_index second (index_of size q) ≡ slice_index first (index_of size q)). ⊎_elim
    (λ (f : slice_index third (index_of size q) ≡ slice_index second (index_of size q)). inl (f ∙ e))
    (λ (m : IsMarked later q). inr m)
    (b q on))
    (λ (m : IsMarked changed q). inr (stay q m))
    (a q on)

-- two changes, one after the other, are one
pub Changes-twice : (first second third : KeptWords) → Changes first second → Changes second third → Changes first third
Changes-twice first second third a b =
    record {
      size = b.size ∙ a.size;
      kinds = b.kinds ∙ a.kinds;
      stay = λ q was. b.stay q (a.stay q was);
      squares = differing_twice first.size first.squares.items second.squares.items third.squares.items second.changed.items third.changed.items a.squares b.stay (rw a.size at b.squares);
      diamonds = λ both.
          differing_twice first.size first.diamonds.items second.diamonds.items third.diamonds.items second.changed.items third.changed.items (a.diamonds both) b.stay (rw a.size at (b.diamonds (a.kinds ∙ both)));
    }

pub Changes-same : (kept : KeptWords) → Changes kept kept
Changes-same kept =
    record { size = refl; kinds = refl; stay = λ q was. was; squares = λ q on. inl refl; diamonds = λ both q on. inl refl }

pub Agree-at : (s t : Extent) (p q : Position) → s ≡ t → Agree s p q → Agree t p q
Agree-at s t p q e same = subst (λ u. Agree u p q) e same

-- kept words of which squares and then diamonds were changed
pub Changes-of_both : (before after : KeptWords) (squares marked diamonds marked_later : List ℕ) → after.size ≡ before.size → after.kinds ≡ before.kinds →
    after.squares.items ≡ squares → after.diamonds.items ≡ diamonds → after.changed.items ≡ marked_later →
    ((q : Point) → IsMarked before.changed.items q → IsMarked marked q) → DifferingAreMarked before.size before.squares.items squares marked →
    ((q : Point) → IsMarked marked q → IsMarked marked_later q) → DifferingAreMarked before.size before.diamonds.items diamonds marked_later →
    Changes before after
Changes-of_both before after squares marked diamonds marked_later size kinds e_squares e_diamonds e_marks stay differing stay_later differing_later =
    record {
      size = size;
      kinds = kinds;
      stay = λ q was. subst (λ ms. IsMarked ms q) (sym e_marks) (stay_later q (stay q was));
      squares = rw (e_squares, e_marks) (λ q on. ⊎_elim
          (λ (e : slice_index squares (index_of before.size q) ≡ slice_index before.squares.items (index_of before.size q)). inl e)
          (λ (m : IsMarked marked q). inr (stay_later q m))
          (differing q on));
      diamonds = λ both. rw (e_diamonds, e_marks) differing_later;
    }

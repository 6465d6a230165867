-- A field that changes: it keeps its size and its kinds, and marks where a word becomes another, and no point far away.
use Rattle.std.specs.Prelude.{◌≡◌, refl, List}
use Rattle.std.proofs.Common.{◌∙◌, sym, subst, inl, inr, ⊎_elim}
use Rattle.go_board.specs.Extent.{Extent}
use Rattle.go_board.specs.Point.{IsOn}
use Rattle.go_board.specs.Board.{position_of}
use Rattle.shape_core.specs.declared.words.Kinds.{Kinds}
use Rattle.shape_core.specs.Around.{word_around}
use Rattle.go_board.specs.declared.points.Point.{Point}
use Rattle.shape_core.specs.Field.{Kept, Includes, IsMarked, MarksChanges, MarksNear, reach_of}

-- the second is the first after changes
pub record Tracks (before after : Kept) : Type 0 where
  pub size : after.board.size ≡ before.board.size
  pub kinds : after.kinds ≡ before.kinds
  pub marks : MarksChanges before after

-- no point becomes marked that is not near one of these
abbrev pub MarksOnlyNear : List Point → Kept → Kept → Type 0
MarksOnlyNear points before after = MarksNear (reach_of before.kinds) points before.changed after.changed

pub tracks_itself : (field : Kept) → Tracks field field
tracks_itself field = record {
  size = refl;
  kinds = refl;
  marks = record { stay = λ q h. h; differing = λ kind includes q on. inl refl };
}

-- changes, and then more of them
pub tracks_on : (before between after : Kept) → Tracks before between → Tracks between after → Tracks before after
tracks_on before between after h k = record {
  size = k.size ∙ h.size;
  kinds = k.kinds ∙ h.kinds;
  marks = record {
    stay = λ q marked. k.marks.stay q (h.marks.stay q marked);
    differing = λ kind includes q on. ⊎_elim
        (λ (same : word_around kind before.board.size (position_of between.board) q ≡ word_around kind before.board.size (position_of before.board) q).
        ⊎_elim
        (λ (again : word_around kind between.board.size (position_of after.board) q ≡ word_around kind between.board.size (position_of between.board) q).
        inl (subst (λ (size : Extent). word_around kind size (position_of after.board) q ≡ word_around kind size (position_of between.board) q) h.size again ∙ same))
        (λ (marked : IsMarked after.changed q). inr marked)
        (k.marks.differing kind (subst (λ (kinds : Kinds). Includes kinds kind) (sym h.kinds) includes) q (subst (λ (size : Extent). IsOn size q) (sym h.size) on)))
        (λ (marked : IsMarked between.changed q). inr (k.marks.stay q marked))
        (h.marks.differing kind includes q on);
  };
}

use Rattle.std.proofs.Common.{◌≡◌, ℕ, ◌*◌, ◌⊎◌, [], ◌∷◌, true, length, take, bit_xor, slice_index}
use Rattle.std.specs.List.{list_all}
use Rattle.go_board.specs.declared.points.Point.{Point}
use Rattle.go_board.specs.declared.points.Stone.{Stone}
use Rattle.go_board.specs.Point.{IsOn, index_of}
use Rattle.go_board.specs.Position.{Position}
use Rattle.shape_core.specs.Inner.Table.{is_away_within, cells_of, rows_of}
use Rattle.shape_core.specs.Word.{word_of}
use Rattle.shape_core.specs.Around.{stone_code}
use Rattle.shape_core.specs.Field.{IsMarked, MarksNear}
use Rattle.shape_core.specs.KeptLists.{AreMarks}
use Rattle.shape_core.specs.Inner.KeptLists.{AreWords, AreOfKind}
use Rattle.shape_core.proofs.Mixing.{mixed_round}
use Rattle.shape_core.proofs.keeping.recode.Given as goal

abbrev pub invariant-loop-index : goal.invariant-loop-index
invariant-loop-index l = record {
  count : length l.words ≡ l.size.columns * l.size.rows;
  kinds : AreOfKind l.kind l.words;
  marks : AreMarks l.size l.changed;
  stay : (q : Point) → IsMarked l.initial.changed q → IsMarked l.changed q;
  near : (reach : ℕ) → list_all (is_away_within reach) (cells_of (rows_of l.kind)) ≡ true → MarksNear reach (l.point ∷ []) l.initial.changed l.changed;
  differing : (q : Point) → IsOn l.size q → (slice_index l.words (index_of l.size q) ≡ slice_index l.initial.words (index_of l.size q)) ⊎ IsMarked l.changed q;
  mixing : (position : Position) (stone : Stone) → l.change ≡ bit_xor (stone_code (position l.point)) (stone_code stone) →
      AreWords l.kind l.size position l.initial.words → (q : Point) → IsOn l.size q →
      slice_index l.words (index_of l.size q)
      ≡ word_of l.kind (mixed_round (length (cells_of (take l.index (rows_of l.kind)))) l.size position l.point stone q (cells_of (rows_of l.kind)));
}

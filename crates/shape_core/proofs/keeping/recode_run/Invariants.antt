use Rattle.std.proofs.Common.{◌≡◌, ◌≤◌, ◌-◌, ◌*◌, length, slice_index}
use Rattle.go_board.specs.declared.points.Point.{Point}
use Rattle.go_board.specs.Point.{IsOn, index_of}
use Rattle.shape_core.specs.Inner.Table.{IsInRun}
use Rattle.shape_core.specs.Inner.Word.{with_change}
use Rattle.shape_core.specs.Inner.KeptLists.{AreOfKind}
use Rattle.shape_core.proofs.keeping.recode_run.Given as goal

abbrev pub invariant-loop-column : goal.invariant-loop-column
invariant-loop-column l = record {
  count : length l.words ≡ l.size.columns * l.size.rows;
  kinds : AreOfKind l.kind l.words;
  begun : l.from.column ≤ l.column;
  there : (q : Point) → IsOn l.size q → IsInRun l.from.row l.from.column l.column q →
      slice_index l.words (index_of l.size q) ≡ with_change (slice_index l.initial.words (index_of l.size q)) (l.last - q.column) l.change;
  elsewhere : (q : Point) → IsOn l.size q → (IsInRun l.from.row l.from.column l.column q → ⊥) →
      slice_index l.words (index_of l.size q) ≡ slice_index l.initial.words (index_of l.size q);
}

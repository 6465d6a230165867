use Rattle.std.proofs.Common.{◌≡◌, ◌*◌, ◌%◌, ◌/◌, ◌<◌, ap, ◌∙◌, arith}
use Rattle.std.proofs.lemmas.Nat.{mod-mul-add, div-mul-add, mul-add-lt}
use Rattle.go_board.specs.Extent.{Extent}
use Rattle.go_board.specs.Board.{position_of}
use Rattle.go_board.specs.Point.{index_of}
use Rattle.shape_core.specs.Around.{word_around}
use Rattle.shape_core.specs.Word.{kind_of}
use Rattle.std.proofs.lemmas.List.Elements.{All-from_get_or}
use Rattle.shape_core.proofs.Reach.{kind_of-word_around}
use Rattle.shape_core.proofs.Marking.{same_point_from}
use Rattle.shape_core.proofs.kept.words_of.Goals as goal

pub returns-clause-words : goal.returns-clause-words
returns-clause-words c =
    let size = c.args.board.now.size in
    let whole : c.area.result ≡ size.columns * size.rows = c.area.ensures.value ∙ ap (λ (s : Extent). s.columns * s.rows) c.size-size.ensures.value in
    let all : c.loop-index.index ≡ size.columns * size.rows = omega (arith, whole) in
    record {
      count = c.loop-index.invariant.0 ∙ all;
      each = λ q on.
          let below : index_of size q < c.loop-index.index = omega (arith, all, mul-add-lt q.row size.columns q.column size.rows on.1 on.0) in
          c.loop-index.invariant.1 (index_of size q) below
          ∙ ap (word_around c.args.kind size (position_of c.args.board.now))
          (same_point_from (record { column = index_of size q % size.columns; row = index_of size q / size.columns }) q (mod-mul-add q.row size.columns q.column on.0) (div-mul-add q.row size.columns q.column on.0));
    }

pub returns-clause-kinds : goal.returns-clause-kinds
returns-clause-kinds c =
    let words = c.loop-index.words.items in
    All-from_get_or (λ w. kind_of w ≡ c.args.kind) words 0
    (λ i l. ap kind_of (c.loop-index.invariant.1 i (omega (arith, c.loop-index.invariant.0, l))) ∙ kind_of-word_around c.args.kind c.args.board.now.size (position_of c.args.board.now) _)

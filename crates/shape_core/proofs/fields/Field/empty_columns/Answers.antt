use Rattle.std.proofs.Common.{◌≡◌, ◌<◌, ◌^◌, length, slice_index, ap, sym, ◌∙◌, arith}
use Rattle.std.specs.Int.{bit_at}
use Rattle.std.proofs.lemmas.List.{get_or_read}
use Rattle.std.proofs.lemmas.List.Elements.{All-get_or}
use Rattle.shape_core.specs.Field.{AreEmptyColumns}
use Rattle.go_board.specs.Board.{position_of}
use Rattle.shape_core.proofs.fields.Field.empty_columns.Goals as goal

pub returns-clause-columns : goal.returns-clause-columns
returns-clause-columns c =
    let board = c.self.inside.board in
    let rows = c.self.inside.empties.rows.items in
    let row = c.args.row in
    let are = c.self.invariant.are_empty in
    let inside : row < board.size.rows = rw (sym c.self.view_is) at c.requires in
    let at : c.from.result ≡ row = c.from.ensures in
    let within : row < length rows = omega (arith, are.marks.rows, inside) in
    let read : c.index.result.now ≡ slice_index rows row =
    get_or_read rows c.from.result c.index.result.now (omega (arith, at, within)) c.index.ensures 0 ∙ ap (slice_index rows) at in
    let columns : AreEmptyColumns board.size (position_of board) row c.index.result.now = record {
      few = rw read (All-get_or (λ r. r < 2 ^ board.size.columns) rows row 0 within are.marks.within);
      each = λ column on. ap (λ n. bit_at n column) read ∙ are.each (record { column = column; row = row }) (on, inside);
    } in
    rw (sym c.self.view_is) columns

use Rattle.std.proofs.Common.{◌≡◌, ◌≤◌, ◌<◌, ◌+◌, ◌-◌, get_or, length, take, take_all, slice_index, refl, ap, ◌∙◌, arith, inl, inr, ⊎_elim}
use Rattle.std.proofs.lemmas.List.Sums.{AllPass-from_list_all}
use Rattle.go_board.specs.Point.{index_of}
use Rattle.shape_core.specs.Field.{IsMarked}
use Rattle.shape_core.specs.Inner.Table.{SeesInRow, is_away_within, cells_of, rows_of}
use Rattle.shape_core.proofs.Mixing.{sees_in_row_or_not, mixed_before, mixed_after, mixed_row}
use Rattle.shape_core.proofs.Rows.{rows_cells, rows_offsets, row_near, cells_more, cells_fit, sees_there}
use Rattle.shape_core.proofs.Nearness.{within_reach, near_one}
use Rattle.shape_core.proofs.keeping.recode.Goals as goal

pub loop-index-init : goal.loop-index-init
loop-index-init c =
    let k = c.args.kind in
    record {
      count = c.requires.words;
      kinds = c.requires.kinds;
      marks = c.requires.marks;
      stay = λ q was. was;
      near = λ reach within q was. inl was;
      differing = λ q on. inl refl;
      mixing = λ position stone code words q on.
          words.each q on ∙ mixed_before k c.args.size position c.args.point stone q (cells_of (rows_of k)) (rows_cells k) (rows_offsets k);
    }

pub loop-index-preserved : goal.loop-index-preserved
loop-index-preserved c =
    let size = c.args.size in
    let point = c.args.point in
    let rows = rows_of c.args.kind in
    let i = c.loop-index.index in
    let within : i < length rows = omega (arith, c.loop-index-test.true, c.row_count-index-end.ensures) in
    let row = get_or rows i (0, 0) in
    let before = c.loop-index.invariant in
    let side : row.0 ≤ 3 = omega (arith, (row_near c.args.kind i within).0) in
    let fits = cells_fit rows i within in
    record {
      count = c.recode_row.auto.words ∙ before.count;
      kinds = c.recode_row.ensures.kinds;
      marks = c.recode_row.ensures.marks;
      stay = λ q was. c.recode_row.ensures.stay q (before.stay q was);
      near = λ reach reaches q is. ⊎_elim
          (λ (was : IsMarked c.loop-index.changed q). before.near reach reaches q was)
          (λ (sees : SeesInRow q row point).
          let cell = length (cells_of (take i rows)) + (point.column + row.0 - q.column) in
          let reached = AllPass-from_list_all (is_away_within reach) (cells_of rows) reaches cell (0, 0) (omega (arith, fits, sees.1, sees.2)) in
          inr (near_one reach point q (within_reach reach point q (get_or (cells_of rows) cell (0, 0)) (sees_there rows i q point within side sees) reached)))
          (c.recode_row.ensures.only q is);
      differing = λ q on. ⊎_elim
          (λ (sees : SeesInRow q row point). inr (c.recode_row.ensures.there q on sees).1)
          (λ (blind : SeesInRow q row point → ⊥). ⊎_elim
          (λ (same : slice_index c.loop-index.words (index_of size q) ≡ slice_index c.args.words.now (index_of size q)). inl (c.recode_row.ensures.elsewhere q on blind ∙ same))
          (λ (was : IsMarked c.loop-index.changed q). inr (c.recode_row.ensures.stay q was))
          (before.differing q on))
          (sees_in_row_or_not q row point);
      mixing = λ position stone change words q on.
          rw (cells_more rows i within)
          (mixed_row c.args.kind size position point stone q rows i (slice_index c.loop-index.words (index_of size q)) (slice_index c.recode_row.new.words (index_of size q)) c.args.change
          (rows_cells c.args.kind) within side c.requires.on_board (before.mixing position stone change words q on) change
          (λ sees. (c.recode_row.ensures.there q on sees).0)
          (c.recode_row.ensures.elsewhere q on));
    }

pub returns-clause-follow : goal.returns-clause-follow
returns-clause-follow c = λ position stone change words.
    let k = c.args.kind in
    let rows = rows_of k in
    let ended : length rows ≤ c.loop-index.index = omega (arith, c.loop-index-test.false, c.row_count-index-end.ensures) in
    let all = ap (λ some. length (cells_of some)) (take_all c.loop-index.index rows ended) ∙ rows_cells k in
    record {
      count = c.loop-index.invariant.count;
      each = λ q on. c.loop-index.invariant.mixing position stone change words q on
          ∙ mixed_after k c.args.size position c.args.point stone q (cells_of rows) (length (cells_of (take c.loop-index.index rows))) (rows_cells k) (omega (arith, all)) (rows_offsets k);
    }

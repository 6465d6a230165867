use Rattle.std.proofs.Common.{◌≡◌, ◌-◌, ◌+◌, ◌<◌, set, ap, sym, subst, arith}
use Rattle.std.specs.List.{flat_map}
use Rattle.go_board.specs.Extent.{Extent}
use Rattle.shape_core.specs.Word.{count_from}
use Rattle.tally_core.specs.Counts.{row_of, points_of}
use Rattle.hits_core.specs.Inner.Finding.{AddsUpTo}
use Rattle.hits_core.specs.Inner.Watching.{hits_over, AreOpen}
use Rattle.hits_core.proofs.Growing.{adds-begin, adds-on, adds-end}
use Rattle.hits_core.proofs.Opening.{rows-first, open-set}
use Rattle.hits_core.proofs.watching.see.Goals as goal

pub loop-row-init : goal.loop-row-init
loop-row-init c =
    let words = c.args.wanted.now in
    let field = c.args.field.now in
    let size = field.board.size in
    let whole : c.rows-row-end.result - 0 ≡ size.rows = omega (arith, c.rows-row-end.ensures.value, ap (λ (s : Extent). s.rows) c.size.ensures.value) in
    record {
      up = subst (λ n. AddsUpTo c.args.found.now c.args.found.now (hits_over words field c.args.moment (points_of size)) (hits_over words field c.args.moment (flat_map (row_of size) (count_from 0 n))))
          (sym whole)
          (adds-begin c.args.found.now (hits_over words field c.args.moment (points_of size)));
      rows = c.requires.open;
    }

pub loop-row-preserved : goal.loop-row-preserved
loop-row-preserved c =
    let words = c.args.wanted.now in
    let field = c.args.field.now in
    let moment = c.args.moment in
    let size = field.board.size in
    let row = c.loop-row.row in
    let last = c.rows-row-end.result in
    let is = c.loop-row.invariant in
    let all = hits_over words field moment (points_of size) in
    let inside : row < size.rows = omega (arith, c.loop-row-test.true, c.rows-row-end.ensures.value, ap (λ (s : Extent). s.rows) c.size.ensures.value) in
    record {
      up = adds-on c.args.found.now c.loop-row.found c.see_row.new.found all (hits_over words field moment (row_of size row))
          (hits_over words field moment (flat_map (row_of size) (count_from (row + 1) (last - (row + 1)))))
          (subst (AddsUpTo c.args.found.now c.loop-row.found all) (rows-first words field moment row last c.loop-row-test.true) is.up) c.in_ok-open_rows.ensures.grown;
      rows = subst (λ k. AreOpen words field moment.mover (set c.loop-row.open_rows k c.in_ok-open_rows.field-0)) (sym c.from-at.ensures)
          (open-set words field moment.mover c.loop-row.open_rows row c.in_ok-open_rows.field-0 inside is.rows c.in_ok-open_rows.ensures.open);
    }

pub returns-clause-grown : goal.returns-clause-grown
returns-clause-grown c =
    let words = c.args.wanted.now in
    let field = c.args.field.now in
    let size = field.board.size in
    let none : c.rows-row-end.result - c.loop-row.row ≡ 0 = omega (arith, c.loop-row-test.false) in
    adds-end c.args.found.now c.loop-row.found (hits_over words field c.args.moment (points_of size)) _
    (ap (λ n. hits_over words field c.args.moment (flat_map (row_of size) (count_from c.loop-row.row n))) none) c.loop-row.invariant.up

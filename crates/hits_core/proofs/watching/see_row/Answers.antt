use Rattle.std.proofs.Common.{◌≡◌, ◌-◌, ◌+◌, ◌≤◌, ◌<◌, map, [], ◌∷◌, ℕ, ap, sym, subst, arith}
use Rattle.go_board.specs.Extent.{Extent}
use Rattle.go_board.specs.declared.points.Point.{Point}
use Rattle.shape_core.specs.Word.{count_from}
use Rattle.tally_core.specs.Counts.{row_of}
use Rattle.hits_core.specs.Inner.Finding.{GrowsBy, AddsUpTo}
use Rattle.hits_core.specs.Inner.Watching.{hits_over, IsOpenRow}
use Rattle.hits_core.proofs.Growing.{grows-none, adds-begin, adds-on, adds-end}
use Rattle.hits_core.proofs.Opening.{none-over-row, row-first, before-begins, before-steps, before-ends}
use Rattle.hits_core.proofs.watching.see_row.Goals as goal

pub returns-then-bits-eq0-clause-grown : goal.returns-then-bits-eq0-clause-grown
returns-then-bits-eq0-clause-grown c =
    let words = c.args.wanted.now in
    let field = c.args.field.now in
    subst (GrowsBy c.args.found.now c.args.found.now)
    (sym (none-over-row words field c.args.moment c.args.row (subst (IsOpenRow words field c.args.moment.mover c.args.row) c.if-bits-eq0.true c.requires.open)))
    (grows-none c.args.found.now)

pub loop-column-init : goal.loop-column-init
loop-column-init c =
    let words = c.args.wanted.now in
    let field = c.args.field.now in
    let at : ℕ → Point = λ k. record { column = k; row = c.args.row } in
    let whole : c.columns-column-end.result - 0 ≡ field.board.size.columns = omega (arith, c.columns-column-end.ensures.value, ap (λ (s : Extent). s.columns) c.size.ensures.value) in
    record {
      up = subst (λ n. AddsUpTo c.args.found.now c.args.found.now (hits_over words field c.args.moment (row_of field.board.size c.args.row)) (hits_over words field c.args.moment (map at (count_from 0 n))))
          (sym whole)
          (adds-begin c.args.found.now (hits_over words field c.args.moment (row_of field.board.size c.args.row)));
      before = before-begins words field c.args.moment.mover c.args.row;
    }

pub loop-column-preserved : goal.loop-column-preserved
loop-column-preserved c =
    let words = c.args.wanted.now in
    let field = c.args.field.now in
    let moment = c.args.moment in
    let row = c.args.row in
    let column = c.loop-column.column in
    let last = c.columns-column-end.result in
    let at : ℕ → Point = λ k. record { column = k; row = row } in
    let is = c.loop-column.invariant in
    let all = hits_over words field moment (row_of field.board.size row) in
    let inside : column < field.board.size.columns = omega (arith, c.loop-column-test.true, c.columns-column-end.ensures.value, ap (λ (s : Extent). s.columns) c.size.ensures.value) in
    record {
      up = adds-on c.args.found.now c.loop-column.found c.see_bit.new.found all (hits_over words field moment (at column ∷ []))
          (hits_over words field moment (map at (count_from (column + 1) (last - (column + 1)))))
          (subst (AddsUpTo c.args.found.now c.loop-column.found all) (row-first words field moment row column last c.loop-column-test.true) is.up) c.in_ok-left.ensures.grown;
      before = before-steps words field moment.mover row column c.loop-column.left c.in_ok-left.field-0 inside is.before c.in_ok-left.ensures.bit;
    }

pub returns-clause-grown : goal.returns-clause-grown
returns-clause-grown c =
    let words = c.args.wanted.now in
    let field = c.args.field.now in
    let at : ℕ → Point = λ k. record { column = k; row = c.args.row } in
    let none : c.columns-column-end.result - c.loop-column.column ≡ 0 = omega (arith, c.loop-column-test.false) in
    adds-end c.args.found.now c.loop-column.found (hits_over words field c.args.moment (row_of field.board.size c.args.row)) _
    (ap (λ n. hits_over words field c.args.moment (map at (count_from c.loop-column.column n))) none) c.loop-column.invariant.up

pub returns-clause-open : goal.returns-clause-open
returns-clause-open c =
    let field = c.args.field.now in
    let all : field.board.size.columns ≤ c.loop-column.column = omega (arith, c.loop-column-test.false, c.columns-column-end.ensures.value, ap (λ (s : Extent). s.columns) c.size.ensures.value) in
    before-ends c.args.wanted.now field c.args.moment.mover c.args.row c.loop-column.column c.loop-column.left all c.loop-column.invariant.before

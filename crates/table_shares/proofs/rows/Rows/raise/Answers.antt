use Rattle.std.proofs.Common.{◌≡◌, ◌+◌, ◌∙◌, length, ◌<◌, refl, ap, sym, arith}
use Rattle.table_shares.proofs.Common.{get_or_default, Row, blank, row_at, sum_by-set, raised}
use Rattle.probe_core.specs.declared.calls.Answer.TheVariants as answer
use Rattle.table_shares.proofs.Found.{numbers_of, put}
use Rattle.table_shares.proofs.rows.Rows.raise.Goals as goal
use Rattle.table_shares.proofs.rows.Rows.raise.Goals.{After-raise_row}

-- the row that is raised, as it was read
row-is : (c : After-raise_row) → c.index_mut.result.now ≡ row_at c.self.inside.rows.items c.in-Some.place
row-is c = c.index_mut.ensures.value ∙ get_or_default c.self.inside.rows.items c.in-Some.place c.index_mut.result.now (blank 0 0)
    (rw c.self.view_is c.in-Some.ensures.some.0)

pub invariant_of-self : goal.invariant_of-self
invariant_of-self c =
    let rows = c.self.inside.rows.items in
    let place = c.in-Some.place in
    let inside : place < length rows = rw c.self.view_is c.in-Some.ensures.some.0 in
    let row = raised (row_at rows place) c.args.meeting c.args.game in
    rw (c.raise_row.ensures, row-is (goal.at.invariant_of-self c).After-raise_row) (
      put c.self.invariant.0 place row inside refl,
      omega (arith, sum_by-set (λ (r : Row). r.there + r.played) rows place row (blank 0 0) inside, c.self.invariant.1),
    )

pub returns : goal.returns
returns c =
    let place = c.in-Some.place in
    let some = c.in-Some.ensures.some in
    let has = c.requires.row in
    let number : has.0 ≡ c.in-Number.number = cc in
    let here = (rw c.self.view_is at (numbers_of c.self.invariant.0)) has.2.place place has.2.within some.0
    (has.2.number_is ∙ number ∙ sym some.1) in
    rw (c.raise_row.ensures, row-is (goal.at.returns c).After-raise_row, c.self.view_is) (record {
      place = place;
      within = some.0;
      is_of = (c.in-Number.is ∙ ap answer.Number (sym some.1), rw here at has.2.shape_is);
      rows = refl;
    })

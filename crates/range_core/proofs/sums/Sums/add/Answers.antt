use Rattle.std.proofs.Common.{◌≡◌, ◌+◌, ◌<◌, ℕ, List, Bool, false, not, slice_index_or, ap, sym, subst, ◌∙◌, arith}
use Rattle.std.proofs.lemmas.Bool.Decides.{nat_tests}
use Rattle.shape_dict.specs.declared.entries.Entry.{Entry}
use Rattle.range_core.specs.Rows.{is_taken, row_at, IsFound}
use Rattle.range_core.specs.Inner.Sums.{sums_factor}
use Rattle.range_core.proofs.RowTotals.{put_sums, summed_shape, summed_taken}
use Rattle.range_core.proofs.Ways.{read_at, rows_put}
use Rattle.range_core.proofs.sums.Sums.add.Goals.{After-word}
use Rattle.range_core.proofs.sums.Sums.add.Goals as goal

-- an entry counts something
counts_some : (entry : Entry) (free : Bool) → free ≡ not (is_taken entry) → free ≡ false → 0 < entry.there + entry.played
counts_some entry free is counts = Prim.grind (arith, nat_tests)

-- what was found and read
found_row : (factor : ℕ) (rows list : List Entry) (shape place : ℕ) (row : Entry) → list ≡ rows → IsFound factor list shape place → row ≡ slice_index_or rows place row → IsFound factor rows shape place × (row ≡ row_at rows place)
found_row factor rows list shape place row same found read =
    let here = subst (λ (seen : List Entry). IsFound factor seen shape place) same found in
    (here, read_at rows place row read here.within)

pub invariant_of-self : goal.invariant_of-self
invariant_of-self c =
    let rows = c.self.inside.rows.items in
    let place = c.in-Some.place in
    let more = c.in-Some-summed.more in
    let entry = c.args.entry.now in
    let f = found_row sums_factor rows c.as_slice.result.now entry.shape place c.index.result.now c.as_slice.ensures.value c.in-Some.ensures.found c.index.ensures in
    let is = c.in-Some-summed.ensures in
    let some = counts_some entry c.is_free.result c.is_free.ensures c.if-is_free.false in
    let taken = ap is_taken is ∙ summed_taken c.index.result.now entry some in
    let shape : more.shape ≡ entry.shape = ap (λ (e : Entry). e.shape) is ∙ summed_shape c.index.result.now entry in
    rows_put rows place more c.self.invariant (rw shape f.0) taken (c.word.ensures.small, c.word.ensures.least)

pub returns : goal.returns
returns c shape =
    let rows = c.self.inside.rows.items in
    let place = c.in-Some.place in
    let entry = c.args.entry.now in
    let f = found_row sums_factor rows c.as_slice.result.now entry.shape place c.index.result.now c.as_slice.ensures.value c.in-Some.ensures.found c.index.ensures in
    let some = counts_some entry c.is_free.result c.is_free.ensures c.if-is_free.false in
    rw (sym c.self.view_is) (put_sums rows place entry c.index.result.now c.in-Some-summed.more f.0 some f.1 c.in-Some-summed.ensures shape)

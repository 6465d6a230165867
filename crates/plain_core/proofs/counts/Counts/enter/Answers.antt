use Rattle.std.proofs.Common.{◌≡◌, ◌+◌, ◌<◌, ◌≤◌, Bool, true, false, not, cond, ℕ, List, slice_index_or, refl, ap, ap₂, sym, subst, ◌∙◌, arith}
use Rattle.std.proofs.lemmas.Bool.Decides.{nat_tests}
use mir.Val.{bool_byte}
use Rattle.shape_dict.specs.declared.entries.Entry.{Entry}
use Rattle.range_core.specs.Places.{place_factor}
use Rattle.range_core.specs.Rows.{is_taken, row_at, IsFound}
use Rattle.plain_core.proofs.RowLookups.{put_counts, put_fault, put_length, taken_few, counted_taken}
use Rattle.range_core.proofs.Ways.{read_at, rows_put}
use Rattle.plain_core.proofs.counts.Counts.enter.Goals as goal

byte_is : (b : Bool) → bool_byte b ≡ cond b 1 0
byte_is true = refl
byte_is false = refl

one_at_most : (b : Bool) → bool_byte b ≤ 1
one_at_most true = omega arith
one_at_most false = omega arith

-- an entry counts something
counts_some : (entry : Entry) (free : Bool) → free ≡ not (is_taken entry) → free ≡ false → 0 < entry.there + entry.played
counts_some entry free is counts = Prim.grind (arith, nat_tests)

-- what was found and read
found_row : (factor : ℕ) (rows list : List Entry) (shape place : ℕ) (row : Entry) → list ≡ rows → IsFound factor list shape place → row ≡ slice_index_or rows place row → IsFound factor rows shape place × (row ≡ row_at rows place)
found_row factor rows list shape place row same found read =
    let here = subst (λ (seen : List Entry). IsFound factor seen shape place) same found in
    (here, read_at rows place row read here.within)

pub returns-in_default-counted-clause-fault : goal.returns-in_default-counted-clause-fault
returns-in_default-counted-clause-fault c =
    let rows = c.self.inside.rows.items in
    let f = found_row place_factor rows c.as_slice.result.now c.args.entry.now.shape c.in-Some.place c.index.result.now c.as_slice.ensures.value c.in-Some.ensures.found c.index.ensures in
    rw (sym c.self.view_is) (put_fault rows c.in-Some.place c.args.entry.now f.0 (rw (← f.1) c.in_default-counted.ensures.none))

pub overflow_add-self : goal.overflow_add-self
overflow_add-self c = omega (arith, taken_few c.self.inside.rows.items, one_at_most c.is_free-2.result, c.self.invariant.1, c.self.inside.rows.small)

pub returns-clause-ok : goal.returns-clause-ok
returns-clause-ok c =
    let rows = c.self.inside.rows.items in
    let f = found_row place_factor rows c.as_slice.result.now c.args.entry.now.shape c.in-Some.place c.index.result.now c.as_slice.ensures.value c.in-Some.ensures.found c.index.ensures in
    rw (sym c.self.view_is)
    (put_counts rows c.in-Some.place c.args.entry.now c.index.result.now c.in-Some-counted.more f.0 (counts_some c.args.entry.now c.is_free.result c.is_free.ensures c.if-is_free.false) f.1 c.in-Some-counted.ensures.some)

pub invariant_of-self : goal.invariant_of-self
invariant_of-self c =
    let rows = c.self.inside.rows.items in
    let place = c.in-Some.place in
    let more = c.in-Some-counted.more in
    let f = found_row place_factor rows c.as_slice.result.now c.args.entry.now.shape place c.index.result.now c.as_slice.ensures.value c.in-Some.ensures.found c.index.ensures in
    let is = c.in-Some-counted.ensures.some in
    let taken = ap is_taken is ∙ counted_taken c.index.result.now c.args.entry.now (counts_some c.args.entry.now c.is_free.result c.is_free.ensures c.if-is_free.false) in
    let shape : more.shape ≡ c.args.entry.now.shape = ap (λ (e : Entry). e.shape) is in (
      rows_put rows place more c.self.invariant.0 (rw shape f.0) taken (rw shape (c.word.ensures.small, c.word.ensures.least)),
      ap₂ (λ n b. n + b) c.self.invariant.1 (byte_is c.is_free-2.result ∙ ap (λ b. cond b 1 0) (c.is_free-2.ensures ∙ ap (λ r. not (is_taken r)) f.1)) ∙ sym (put_length rows place more f.0.within taken),
    )

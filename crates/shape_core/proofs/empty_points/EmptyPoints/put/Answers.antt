use Rattle.std.proofs.Common.{◌≡◌, ◌<◌, ◌*◌, ◌%◌, ◌^◌, length, slice_index, w64, bit_or, bit_and, ap, sym, ◌∙◌, ⊎_elim, arith}
use Rattle.std.specs.Int.{bit_at, bit_not}
use Rattle.std.proofs.lemmas.List.{get_or_read}
use Rattle.std.proofs.lemmas.List.Elements.{All-get_or}
use Rattle.std.proofs.lemmas.Nat.{or_lt, and_le_l, pow_below}
use Rattle.std.proofs.lemmas.Nat.Bits.{bit_at_set_same, bit_at_set_other, bit_at_clear_same, bit_at_clear_other}
use Rattle.go_board.specs.declared.points.Stone.TheVariants as stones
use Rattle.shape_core.specs.Field.{bit_of_empty}
use Rattle.shape_core.proofs.EmptyPoints.{put-row}
use Rattle.shape_core.proofs.empty_points.EmptyPoints.put.Goals as goal

pub returns-in-Empty-clause-follow : goal.returns-in-Empty-clause-follow
returns-in-Empty-clause-follow c = λ size position extent on are.
    let rows = c.args.self.now.rows.items in
    let p = c.args.point in
    let old = c.index_mut-row.result.now in
    let at : c.from.result ≡ p.row = c.from.ensures in
    let within : c.from.result < length rows = omega (arith, at, are.marks.rows, on.1) in
    let read : old ≡ slice_index rows p.row = get_or_read rows c.from.result old within c.index_mut-row.ensures.value 0 ∙ ap (slice_index rows) at in
    let small : old < 2 ^ size.columns = rw read (All-get_or (λ r. r < 2 ^ size.columns) rows p.row 0 (omega (arith, at, within)) are.marks.within) in
    let low : p.column < 64 = omega (arith, on.0, extent.few_columns) in
    let bit = pow_below p.column size.columns on.0 in
    let one : 1 * 2 ^ p.column % 2 ^ 64 < 2 ^ size.columns = omega (arith, bit, pow_below p.column 64 low) in
    rw at
    (put-row size position rows p c.args.stone (bit_or old (1 * 2 ^ p.column % 2 ^ 64)) on
    (or_lt size.columns old (1 * 2 ^ p.column % 2 ^ 64) small one)
    (bit_at_set_same w64 old p.column low ∙ ap bit_of_empty (sym c.in-Empty.is))
    (λ i within_i other. bit_at_set_other w64 old p.column low i other ∙ ap (λ n. bit_at n i) read)
    are)

pub returns-in-Black-clause-follow : goal.returns-in-Black-clause-follow
returns-in-Black-clause-follow c = λ size position extent on are.
    let rows = c.args.self.now.rows.items in
    let p = c.args.point in
    let old = c.index_mut-row.result.now in
    let at : c.from.result ≡ p.row = c.from.ensures in
    let within : c.from.result < length rows = omega (arith, at, are.marks.rows, on.1) in
    let read : old ≡ slice_index rows p.row = get_or_read rows c.from.result old within c.index_mut-row.ensures.value 0 ∙ ap (slice_index rows) at in
    let small : old < 2 ^ size.columns = rw read (All-get_or (λ r. r < 2 ^ size.columns) rows p.row 0 (omega (arith, at, within)) are.marks.within) in
    let low : p.column < 64 = omega (arith, on.0, extent.few_columns) in
    let mask = bit_not w64 (1 * 2 ^ p.column % 2 ^ 64) in
    let stone : 0 ≡ bit_of_empty c.args.stone =
    ⊎_elim (λ (black : c.args.stone ≡ stones.Black). ap bit_of_empty (sym black)) (λ (white : c.args.stone ≡ stones.White). ap bit_of_empty (sym white)) c.in-Black.is in
    rw at
    (put-row size position rows p c.args.stone (bit_and old mask) on
    (omega (arith, small, and_le_l old mask))
    (bit_at_clear_same w64 old p.column low ∙ stone)
    (λ i within_i other. bit_at_clear_other w64 old p.column low i (omega (arith, within_i, extent.few_columns)) other ∙ ap (λ n. bit_at n i) read)
    are)

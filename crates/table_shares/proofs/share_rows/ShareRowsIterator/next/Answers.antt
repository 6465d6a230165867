use Rattle.std.proofs.Common.{◌+◌, ◌<◌, ◌≤◌, ℕ, zero, suc, List, [], ◌∷◌, length, nat_le, cond, ◌≡◌, refl, arith}
use Rattle.table_shares.proofs.Common.{count_by, nat_tests, Row, row_at}
use Rattle.tally_core.proofs.DoubleCounting.{count-cons}
use Rattle.table_shares.proofs.Found.{row_among, row_there}
use Rattle.table_shares.proofs.share_rows.ShareRowsIterator.next.Goals as goal

-- rows of numbers from one on
abbrev count_from : List Row → ℕ → ℕ
count_from rows from = count_by (λ (row : Row). nat_le from row.number) rows

count_step : (row : Row) (rows : List Row) (from : ℕ) →
    count_from (row ∷ rows) from ≡ cond (nat_le from row.number) 1 0 + count_from rows from
count_step row rows from = count-cons (λ (r : Row). nat_le from r.number) row rows

no_more : (rows : List Row) (from later : ℕ) → from ≤ later → count_from rows later ≤ count_from rows from
no_more [] from later above = omega arith
no_more (row ∷ rows) from later above =
    Prim.grind (arith, nat_tests, count_step row rows later, count_step row rows from, no_more rows from later above)

-- fewer rows are left past one of these
fewer : (rows : List Row) (from place : ℕ) → place < length rows → from ≤ (row_at rows place).number →
    count_from rows ((row_at rows place).number + 1) < count_from rows from
fewer [] from place inside high = absurd (omega arith)
fewer (row ∷ rows) from zero inside high =
    let rest = no_more rows from (row.number + 1) (omega arith) in
    Prim.grind (arith, nat_tests, count_step row rows (row.number + 1), count_step row rows from, rest)
fewer (row ∷ rows) from (suc place) inside high =
    let at = (row_at rows place).number in
    let rest = fewer rows from place (omega arith) high in
    Prim.grind (arith, nat_tests, count_step row rows (at + 1), count_step row rows from, rest)

pub returns-in_err-row-clause-steps : goal.returns-in_err-row-clause-steps
returns-in_err-row-clause-steps c = rw (c.from_residual.ensures, ← c.self.view_is) (c.in_err-row.ensures.least, refl)

pub returns-clause-steps : goal.returns-clause-steps
returns-clause-steps c = rw (← c.self.view_is) (c.in_ok-row.ensures.least, refl)

pub returns-clause-goes : goal.returns-clause-goes
returns-clause-goes c =
    let row = c.in_ok-row.row in
    let rows = c.self.inside.rows.now in
    let from = c.self.inside.from in
    let least = c.in_ok-row.ensures.least in
    let among = row_among rows row.number row least.1 in
    let there = row_there rows row among in
    let less = rw there at (fewer rows from among.0 among.1 (rw there least.0)) in
    rw (← c.self.view_is) (record { on = λ finite. (tt, tt, less); keeps = tt; rests = λ finite. tt })

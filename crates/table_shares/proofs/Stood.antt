-- Rows that are compared with what a table has, number by number, and what is told of them.
use Rattle.std.proofs.Common.{◌≡◌, ℕ, ◌+◌, ◌<◌, ◌≤◌, false, not, List, length, Option, Some, None, sym, subst, arith, Contains, ⊎_elim, refl, inl, inr}
use Rattle.table_shares.proofs.Common.{find, is_stranger, cases_lt, nat_tests, IsNumber, Happened, content_of, IsLegal, length-content, Row, stranger_in, row_of, is_shape, shape_at, Stand, StandBelow, all_rows, TellsAt, IsBeyondFault, Known, one_number, one_key, Held, all_games, Covers, AreOneEach, IsGatherFault, IsStandFault, IsListFault, AreVisited, Differs}
use Rattle.table_shares.specs.Rows.{AreBelow}
use Rattle.std.proofs.Math.ListN.{get_or-eq_default}
use Rattle.harvest_faults.specs.declared.faults.HarvestFault.{HarvestFault}
use Rattle.harvest_faults.specs.declared.faults.HarvestFault.TheVariants as fault
use Rattle.table_shares.specs.Agreeing.{AskedAll}
use Rattle.table_shares.proofs.Totalled.{large_pattern, nothing_passes}

-- ---- no stranger is found
-- what a test of a pattern tells
pub like_one : (found : Option ℕ) (shape : ℕ) → not (is_shape found shape) ≡ false → found ≡ Some shape
like_one None shape h = absurd cc
like_one (Some one) shape h = Prim.grind (arith, nat_tests)

-- a row of the number is then of the pattern
pub like_all : (rows : List Row) (number : ℕ) (found : Option ℕ) (row : Row) → stranger_in rows number found ≡ None → Contains rows row → row.number ≡ number → found ≡ Some row.shape
like_all rows number found row none among same =
    let nothing : find (is_stranger number found) rows ≡ None = Prim.grind (arith) in
    like_one found row.shape (Prim.grind (arith, nat_tests, nothing_passes (is_stranger number found) rows row nothing among))

-- ---- number by number
pub stand_more : (n : ℕ) (seen : List Happened) (rows : List Row) (number : ℕ) (found : Option ℕ) → TellsAt n seen number found →
    stranger_in rows number found ≡ None → StandBelow n seen rows number → StandBelow n seen rows (number + 1)
stand_more n seen rows number found told none h row among low = ⊎_elim
    (λ (before : row.number < number). h row among before)
    (λ (last : number ≤ row.number).
    let same : row.number ≡ number = omega arith in
    rw same (rw (like_all rows number found row none among same) at told))
    (cases_lt row.number number)

-- a number that is none of the table's shows nothing
pub nothing_at : (n : ℕ) (seen : List Happened) (number : ℕ) → n ≤ number → None ≡ shape_at n seen number
nothing_at n seen number high =
    let long : length (content_of n seen) ≡ n = length-content n seen in
    sym (get_or-eq_default (content_of n seen) None (let l : length (content_of n seen) ≤ number = omega arith in l))

-- ---- all rows
-- two rows of the patterns of a table are of one number exactly where they are of one pattern
pub one_each : (n : ℕ) (seen : List Happened) (rows : List Row) → IsLegal n seen → Stand n seen rows → AreOneEach rows
one_each n seen rows legal stand one other first second = (
  λ number. one_key n seen one.shape other.shape one.number (stand one first) (subst (IsNumber (content_of n seen) other.shape) (sym number) (stand other second)),
  λ shape. one_number n seen one.shape one.number other.number legal (stand one first) (subst (λ s. IsNumber (content_of n seen) s other.number) (sym shape) (stand other second)),
)

-- ---- after all numbers
-- no row is of a number beyond the table's
pub all_stand : {O : Type 0} {n slots : ℕ} {rows : List Row} {first new : Known O} {differs : Option Differs} → slots ≡ n → AreBelow slots rows →
    AreVisited n rows n first new differs → Stand n new.seen rows
all_stand {n = n} {rows = rows} {new = new} same below h = λ row among. h.stand row among (subst (λ k. AreBelow k rows) same below row among)

-- or some is
pub beyond_stands : (n slots : ℕ) (seen : List Happened) (rows : List Row) (found : HarvestFault) → slots ≡ n → StandBelow n seen rows n → IsBeyondFault slots rows found → IsStandFault n seen rows found
beyond_stands n slots seen rows (fault.Stranger number of_share None) same h f = record {
  first = f.1;
  some = f.2;
  table = nothing_at n seen number (omega (arith, same, f.0));
  least = λ row among low. ⊎_elim
      (λ (before : row.number < n). h row among before)
      (λ (beyond : n ≤ row.number). absurd (omega (arith, low, beyond, same, f.3 row among)))
      (cases_lt row.number n);
}
beyond_stands n slots seen rows _ same h f = absurd f

-- rows of another pattern than the table has at their number are told
pub stand_fault : {O : Type 0} (n games : ℕ) (shares : List Held) (first new : Known O) (found : HarvestFault) → Covers games (all_games shares) →
    IsStandFault n new.seen (all_rows shares) found → IsGatherFault n games shares first new found
stand_fault n games shares first new (fault.Stranger number of_share of_table) covers h = (covers, h)
stand_fault n games shares first new _ covers h = absurd h

-- and a sum that is too large, where all are of the table's patterns and the games that were marked agree
pub list_fault : {O : Type 0} (n games : ℕ) (shares : List Held) (first new : Known O) (found : HarvestFault) → IsLegal n new.seen → Covers games (all_games shares) →
    Stand n new.seen (all_rows shares) → AskedAll n (all_rows shares) first new → IsListFault (all_rows shares) found → IsGatherFault n games shares first new found
list_fault n games shares first new fault.Memory legal covers stand asked h = tt
list_fault n games shares first new fault.Overflow legal covers stand asked h =
    let rows = all_rows shares in
    let large = large_pattern rows h.0 (row_of rows h.0) refl (one_each n new.seen rows legal stand) h.1 in
    (covers, stand, asked, ⊎_elim (λ there. inl there) (λ played. inr (inl played)) large)
list_fault n games shares first new _ legal covers stand asked h = absurd h

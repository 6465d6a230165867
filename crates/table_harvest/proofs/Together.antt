-- The shares of all threads, their refusals and their calls, looked at together.
use Rattle.std.proofs.Common.{◌≡◌, ℕ, zero, suc, ◌⊎◌, inl, inr, List, [], ◌∷◌, Option, Some, None, refl, ap, sym, subst, ◌∙◌, arith, ⊎_elim, All, Contains}
use Rattle.std.specs.List.{cons_option}
use Rattle.std.proofs.lemmas.List.{get_or_default}
use Rattle.std.proofs.lemmas.List.Elements.{All-contains, Contains-append_left, Contains-append_right, Contains-append_cases, Contains-get_or}
use Rattle.shape_core.specs.declared.words.Kinds.{Kinds}
use Rattle.probe_core.specs.declared.calls.Call.TheVariants as asked
use Rattle.probe_core.specs.declared.calls.Answer.TheVariants as answer
use Rattle.slot_table.specs.declared.entries.Happened.{Happened}
use Rattle.slot_table.specs.declared.entries.Happened.TheVariants as call
use Rattle.slot_table.specs.Passes.{Numbers, Known}
use Rattle.gather_core.specs.declared.rows.Row.{Row}
use Rattle.harvest_faults.specs.declared.faults.HarvestFault.{HarvestFault}
use Rattle.harvest_faults.specs.declared.faults.HarvestFault.TheVariants as fault
use Rattle.table_shares.specs.Rows.{row_at, blank}
use Rattle.table_shares.specs.Making.{HasRow}
use Rattle.gather_core.specs.Gathering.{all_rows}
use Rattle.table_harvest.specs.declared.working.Worked.{Worked}
use Rattle.table_harvest.specs.InTable.{StandsIn, HasItsRows, IsInTable}
use Rattle.table_harvest.specs.Working.{IsCallIn, IsRefused}
use Rattle.harvest_core.specs.Harvest.{IsRead}
use Rattle.table_harvest.specs.Inner.Parted.{shares_of, refusals_of}
use Rattle.table_harvest.specs.Inner.Threads.{StandsAmong, AgreesWithTable}
use Rattle.table_harvest.specs.Inner.Harvest.{AreTogether}
use Rattle.table_harvest.proofs.InTable.{contains_cons}
use Rattle.table_harvest.proofs.Limited.{never_refused}

-- ---- rows of one share among those of all
pub rest_contains : {X : Type 0} (x : X) (xs : List X) (y : X) → Contains (x ∷ xs) y → (x ≡ y) ⊎ Contains xs y
rest_contains x xs y (zero, low, is) = inl is
rest_contains x xs y (suc k, low, is) = inr (k, omega arith, is)

-- a row of all is one of some share
row_of_one : (worked : List Worked) (row : Row) → Contains (all_rows (shares_of worked)) row → (one : Worked) × Contains worked one × Contains one.share.rows row
row_of_one [] row among = absurd (let low = among.1 in omega arith)
row_of_one (one ∷ worked) row among = ⊎_elim
    (λ (here : Contains one.share.rows row). (one, (0, omega arith, refl), here))
    (λ (there : Contains (all_rows (shares_of worked)) row). (let found = row_of_one worked row there in (found.0, contains_cons one worked found.0 found.1, found.2)))
    (Contains-append_cases one.share.rows (all_rows (shares_of worked)) row among)

-- and the other way round
row_of_all : (worked : List Worked) (one : Worked) (row : Row) → Contains worked one → Contains one.share.rows row → Contains (all_rows (shares_of worked)) row
row_of_all [] one row among mine = absurd (let low = among.1 in omega arith)
row_of_all (first ∷ worked) one row among mine = ⊎_elim
    (λ (here : first ≡ one). Contains-append_left first.share.rows (all_rows (shares_of worked)) row (subst (λ (w : Worked). Contains w.share.rows row) (sym here) mine))
    (λ (there : Contains worked one). Contains-append_right first.share.rows (all_rows (shares_of worked)) row (row_of_all worked one row there mine))
    (rest_contains first worked one among)

-- a row of a number and pattern
pub row_there : (rows : List Row) (number shape : ℕ) → HasRow rows number shape → (row : Row) × Contains rows row × (row.number ≡ number) × (row.shape ≡ shape)
row_there rows number shape h = (row_at rows h.place, Contains-get_or rows h.place (blank 0 0) h.within, h.number_is, h.shape_is)

has_row : (rows : List Row) (row : Row) → Contains rows row → HasRow rows row.number row.shape
has_row rows row among =
    let here : row_at rows among.0 ≡ row = get_or_default rows among.0 (blank 0 0) row among.1 ∙ among.2 in
    record { place = among.0; within = among.1; number_is = ap (λ (r : Row). r.number) here; shape_is = ap (λ (r : Row). r.shape) here }

-- what stands in the rows of one share stands in those of all
stands_in_all : (worked : List Worked) (one : Worked) (e : Happened) → Contains worked one → StandsIn one.share.rows e → StandsIn (all_rows (shares_of worked)) e
stands_in_all worked one (call.Asked (asked.Enter key) (answer.Number p)) among h =
    let row = row_there one.share.rows p key h in
    subst (λ q. HasRow (all_rows (shares_of worked)) q key) row.2
    (subst (λ s. HasRow (all_rows (shares_of worked)) row.0.number s) row.3 (has_row (all_rows (shares_of worked)) row.0 (row_of_all worked one row.0 among row.1)))
stands_in_all worked one (call.Asked (asked.Enter key) answer.Absent) among h = tt
stands_in_all worked one (call.Asked (asked.Enter key) answer.Full) among h = tt
stands_in_all worked one (call.Asked (asked.LookUp key) found) among h = tt
stands_in_all worked one (call.Marked p game) among h = record { row = h.row; among = row_of_all worked one h.row among h.among; number_is = h.number_is; by = h.by }
stands_in_all worked one (call.First p found) among h = tt

-- ---- refusals
-- what was refused to one is among all refusals
pub refused_among : (worked : List Worked) (one : Worked) (found : HarvestFault) → Contains worked one → one.refused ≡ Some found → Contains (refusals_of worked) found
refused_among [] one found among is = absurd (let low = among.1 in omega arith)
refused_among (first ∷ worked) one found among is = ⊎_elim
    (λ (here : first ≡ one).
    subst (λ (o : Option HarvestFault). Contains (cons_option o (refusals_of worked)) found) (sym (ap (λ (w : Worked). w.refused) here ∙ is))
    (let first_one : Contains (found ∷ refusals_of worked) found = (0, omega arith, refl) in first_one))
    (λ (there : Contains worked one). behind first.refused (refused_among worked one found there is))
    (rest_contains first worked one among)
  where
    behind : (o : Option HarvestFault) → Contains (refusals_of worked) found → Contains (cons_option o (refusals_of worked)) found
    behind None h = h
    behind (Some other) h = contains_cons other (refusals_of worked) found h

-- of an input that can be read nothing but memory and a number is refused
has_its_rows : (bytes : List ℕ) (kinds : Kinds) (refused : Option HarvestFault) → IsRead bytes → IsRefused bytes kinds refused → (refused ≡ Some fault.Memory → ⊥) → HasItsRows refused
has_its_rows bytes kinds None read is other = tt
has_its_rows bytes kinds (Some fault.Memory) read is other = absurd (other refl)
has_its_rows bytes kinds (Some (fault.Full game word)) read is other = tt
has_its_rows bytes kinds (Some fault.Overflow) read is other = never_refused bytes kinds read is
has_its_rows bytes kinds (Some (fault.Stranger number of_share of_table)) read is other = absurd is
has_its_rows bytes kinds (Some (fault.Missing game)) read is other = absurd is
has_its_rows bytes kinds (Some (fault.Twice game)) read is other = absurd is
has_its_rows bytes kinds (Some fault.BadSettings) read is other = absurd is
has_its_rows bytes kinds (Some (fault.Sgf found)) read is other = absurd is
has_its_rows bytes kinds (Some (fault.Marks number of_shares of_table)) read is other = absurd is

-- where memory was refused to no one, all that was counted stands together in the table
pub together : {O : Type 0} (table : Numbers O) (bytes : List ℕ) (kinds : Kinds) (earlier : List Happened) (pass : Known O) (worked : List Worked) → IsRead bytes →
    All (λ (one : Worked). IsRefused bytes kinds one.refused) worked → (Contains (refusals_of worked) fault.Memory → ⊥) → AgreesWithTable table bytes kinds earlier pass worked →
    AreTogether table.slots earlier pass (all_rows (shares_of worked))
together table bytes kinds earlier pass worked read refused fine h =
    let n = table.slots in
    let of = λ (one : Worked) (among : Contains worked one). All-contains (IsInTable n pass.seen []) worked one h.in_table among in
    record {
      stands = λ row among. let one = row_of_one worked row among in (of one.0 one.1).stands row one.2;
      marked = λ row among game is. let one = row_of_one worked row among in (of one.0 one.1).marked row one.2 game is;
      calls = λ e there. ⊎_elim
          (λ (old : Contains earlier e). inl old)
          (λ (new : IsCallIn n pass.seen bytes kinds e × StandsAmong worked e).
          let one = new.1.one in
          let mine = All-contains (λ (w : Worked). IsRefused bytes kinds w.refused) worked one refused new.1.among in
          inr (stands_in_all worked one e new.1.among
          (new.1.stands (has_its_rows bytes kinds one.refused read mine (λ is. fine (refused_among worked one fault.Memory new.1.among is))))))
          (h.calls e there);
    }

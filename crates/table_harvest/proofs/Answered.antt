-- What a harvest's pass knows afterwards, and what that leaves of the faults.
use Rattle.std.proofs.Common.{◌≡◌, ℕ, inl, inr, List, [], ◌∷◌, Some, None, Option, Result, Ok, Err, IfErr, refl, ap, sym, subst, ◌∙◌, arith, ⊎_elim, All, Contains}
use Rattle.std.specs.List.{cons_option}
use Rattle.std.proofs.lemmas.List.Elements.{All-weaker, All-contains, Contains-append_left}
use Rattle.shape_core.specs.declared.words.Kinds.{Kinds}
use Rattle.probe_core.specs.declared.calls.Call.TheVariants as asked
use Rattle.probe_core.specs.declared.calls.Answer.TheVariants as answer
use Rattle.slot_table.specs.declared.entries.Happened.{Happened}
use Rattle.slot_table.specs.declared.entries.Happened.TheVariants as call
use Rattle.slot_table.specs.Passes.{Numbers, Known, IsPassOf, IsAlone, Met, calls_of}
use Rattle.slot_table.proofs.Meetings.{met_calls}
use Rattle.slot_table.proofs.Enters.{was_entered}
use Rattle.slot_table.proofs.Histories.{begins_itself, begins_through}
use Rattle.slot_table.specs.Stakes.{IsWhole}
use Rattle.gather_core.specs.Entering.{IsCall}
use Rattle.table_shares.specs.Asking.{AsksOnly}
use Rattle.table_shares.proofs.Entered.{calls_are}
use Rattle.harvest_faults.specs.declared.faults.HarvestFault.{HarvestFault}
use Rattle.harvest_faults.specs.declared.faults.HarvestFault.TheVariants as fault
use Rattle.table_harvest.specs.declared.working.Worked.{Worked}
use Rattle.table_harvest.specs.InTable.{IsInTable, IsFullOf}
use Rattle.table_harvest.specs.Working.{IsCallIn}
use Rattle.table_harvest.specs.Harvest.{HasHarvested, IsHarvestFault, IsRefusedAlone}
use Rattle.table_harvest.specs.Inner.Parted.{refusals_of}
use Rattle.table_harvest.specs.Inner.Threads.{StandsAmong, AgreesWithTable}
use Rattle.table_harvest.proofs.InTable.{call_in_kept, still_in_table, contains_cons}
use Rattle.table_harvest.proofs.Together.{rest_contains}

-- ---- what a pass knows
pub harvested_self : {O : Type 0} (n : ℕ) (bytes : List ℕ) (kinds : Kinds) (pass : Known O) → HasHarvested n bytes kinds pass pass
harvested_self n bytes kinds pass = record {
  begins = begins_itself pass.seen;
  keeps = record { numbers = λ key p number. number; marks = λ p game at_most. at_most };
  kept = λ e there. there;
  calls = λ e there. inl there;
}

-- the calls of all threads come to it
pub harvested_met : {O : Type 0} (table : Numbers O) (bytes : List ℕ) (kinds : Kinds) (old other both : Known O) (worked : List Worked) →
    IsPassOf table old → AgreesWithTable table bytes kinds [] other worked → Met table.slots old other both →
    HasHarvested table.slots bytes kinds old both
harvested_met table bytes kinds old other both worked is agrees met =
    let n = table.slots in
    let split = λ (e : Happened). met_calls table old other both e is agrees.is_of met in
    record {
      begins = met.after_one;
      keeps = met.keeps_one;
      kept = λ e was. (split e).1 (inl was);
      calls = λ e there. ⊎_elim
          (λ (mine : Contains (calls_of old) e). inl mine)
          (λ (theirs : Contains (calls_of other) e). inr (⊎_elim
          (λ (none : Contains [] e). absurd (let low = none.1 in omega arith))
          (λ (one : IsCallIn n other.seen bytes kinds e × StandsAmong worked e). call_in_kept n other.seen both.seen bytes kinds met.keeps_other e one.0)
          (agrees.calls e theirs)))
          ((split e).0 there);
    }

pub agrees_met : {O : Type 0} (table : Numbers O) (bytes : List ℕ) (kinds : Kinds) (old other both : Known O) (worked : List Worked) →
    IsPassOf table old → IsPassOf table both → AgreesWithTable table bytes kinds [] other worked →
    Met table.slots old other both → AgreesWithTable table bytes kinds (calls_of old) both worked
agrees_met table bytes kinds old other both worked is both_is agrees met =
    let n = table.slots in
    let split = λ (e : Happened). met_calls table old other both e is agrees.is_of met in
    record {
      is_of = both_is;
      calls = λ e there. ⊎_elim
          (λ (mine : Contains (calls_of old) e). inl mine)
          (λ (theirs : Contains (calls_of other) e). inr (⊎_elim
          (λ (none : Contains [] e). absurd (let low = none.1 in omega arith))
          (λ (one : IsCallIn n other.seen bytes kinds e × StandsAmong worked e). (call_in_kept n other.seen both.seen bytes kinds met.keeps_other e one.0, one.1))
          (agrees.calls e theirs)))
          ((split e).0 there);
      kept = λ e was. (split e).1 (inl was);
      in_table = All-weaker (IsInTable n other.seen []) (IsInTable n both.seen []) (λ w i. still_in_table n other.seen both.seen [] w met.keeps_other i) worked agrees.in_table;
    }

-- then it only asks
pub harvested_asked : {O : Type 0} (n : ℕ) (bytes : List ℕ) (kinds : Kinds) (old mid new : Known O) → HasHarvested n bytes kinds old mid → AsksOnly n mid new → HasHarvested n bytes kinds old new
harvested_asked n bytes kinds old mid new h asks =
    let later = asks.later in
    record {
      begins = begins_through old.seen mid.seen new.seen h.begins later.begins;
      keeps = record {
        numbers = λ key p number. later.keeps.numbers key p (h.keeps.numbers key p number);
        marks = λ p game at_most. later.keeps.marks p game (h.keeps.marks p game at_most);
      };
      kept = λ e was. subst (λ (es : List Happened). Contains es e) (sym later.calls) (Contains-append_left (calls_of mid) asks.made e (h.kept e was));
      calls = λ e there. ⊎_elim
          (λ (before : Contains (calls_of mid) e). ⊎_elim
          (λ (was : Contains (calls_of old) e). inl was)
          (λ (one : IsCallIn n mid.seen bytes kinds e). inr (call_in_kept n mid.seen new.seen bytes kinds later.keeps e one))
          (h.calls e before))
          (λ (one : IsCall (λ _ _. ⊥) (λ _ _. ⊥) e). inr (only_asks e one))
          (calls_are n (λ _ _. ⊥) (λ _ _. ⊥) mid new asks e there);
    }
  where
    only_asks : (e : Happened) → IsCall (λ _ _. ⊥) (λ _ _. ⊥) e → IsCallIn n new.seen bytes kinds e
    only_asks (call.Asked (asked.Enter key) found) one = absurd one
    only_asks (call.Asked (asked.LookUp key) found) one = tt
    only_asks (call.Marked number game) one = absurd one
    only_asks (call.First number found) one = tt

-- ---- refusals
-- what was refused was refused to someone
by_refusal : (worked : List Worked) (one : Worked) (found : HarvestFault) (refused : Option HarvestFault) → one.refused ≡ refused →
    (Contains (refusals_of worked) found → (other : Worked) × Contains worked other × (other.refused ≡ Some found)) → Contains (cons_option refused (refusals_of worked)) found →
    (other : Worked) × Contains (one ∷ worked) other × (other.refused ≡ Some found)
by_refusal worked one found None is rest there = let other = rest there in (other.0, contains_cons one worked other.0 other.1, other.2)
by_refusal worked one found (Some first) is rest there = ⊎_elim
    (λ (here : first ≡ found). (one, (let at : Contains (one ∷ worked) one = (0, omega arith, refl) in at), is ∙ ap (λ f. Some f) here))
    (λ (behind : Contains (refusals_of worked) found). (let other = rest behind in (other.0, contains_cons one worked other.0 other.1, other.2)))
    (rest_contains first (refusals_of worked) found there)

refused_to : (worked : List Worked) (found : HarvestFault) → Contains (refusals_of worked) found → (one : Worked) × Contains worked one × (one.refused ≡ Some found)
refused_to [] found among = absurd (let low = among.1 in omega arith)
refused_to (one ∷ worked) found among = by_refusal worked one found one.refused refl (λ behind. refused_to worked found behind) among

-- the table is full where a number was refused
pub full_where_refused : (n : ℕ) (seen : List Happened) (worked : List Worked) (found : HarvestFault) → All (IsInTable n seen []) worked → Contains (refusals_of worked) found → IsFullOf n seen (Some found)
full_where_refused n seen worked found in_table among game word is =
    let one = refused_to worked found among in
    (All-contains (IsInTable n seen []) worked one.0 in_table one.1).full game word (one.2 ∙ is)

-- ---- a table that nobody else uses
no_call : (e : Happened) → Contains [] e → ⊥
no_call e none = absurd (let low = none.1 in omega arith)

-- there no key and no mark is another's
pub refused_alone : {O : Type 0} (n : ℕ) (bytes : List ℕ) (kinds : Kinds) (earlier : List Happened) (after : Known O) (found : HarvestFault) → earlier ≡ [] →
    ((found ≡ fault.Memory → ⊥) → IsWhole after.stake) → IsAlone after → IsHarvestFault n bytes kinds earlier after found → IsRefusedAlone n bytes kinds found
refused_alone n bytes kinds earlier after fault.Memory none whole alone h = tt
refused_alone n bytes kinds earlier after (fault.Sgf found) none whole alone h = h
refused_alone n bytes kinds earlier after (fault.Full game word) none whole alone h = h
refused_alone n bytes kinds earlier after (fault.Stranger number None (Some key)) none whole alone h =
    let all = alone (whole (λ is. absurd cc)) in
    let entered = was_entered n after.seen key number h.1.number_is in
    let one : Happened = call.Asked (asked.Enter key) (answer.Number number) in
    let mine = h.1.others (subst (λ (es : List Happened). Contains es one) (sym all) entered) in
    no_call one (subst (λ (es : List Happened). Contains es one) none mine)
refused_alone n bytes kinds earlier after (fault.Stranger number None None) none whole alone h = absurd h
refused_alone n bytes kinds earlier after (fault.Stranger number (Some row) of_table) none whole alone h = absurd h
refused_alone n bytes kinds earlier after (fault.Marks number of_shares (Some game)) none whole alone h =
    let all = alone (whole (λ is. absurd cc)) in
    let one : Happened = call.Marked number game in
    let mine = h.2.others (subst (λ (es : List Happened). Contains es one) (sym all) h.2.marked) in
    no_call one (subst (λ (es : List Happened). Contains es one) none mine)
refused_alone n bytes kinds earlier after (fault.Marks number of_shares None) none whole alone h = absurd h
refused_alone n bytes kinds earlier after (fault.Missing game) none whole alone h = absurd h
refused_alone n bytes kinds earlier after (fault.Twice game) none whole alone h = absurd h
refused_alone n bytes kinds earlier after fault.BadSettings none whole alone h = absurd h
refused_alone n bytes kinds earlier after fault.Overflow none whole alone h = absurd h

pub answered_alone : {O T : Type 0} (n : ℕ) (bytes : List ℕ) (kinds : Kinds) (earlier : List Happened) (after : Known O) (r : Result T HarvestFault) → earlier ≡ [] →
    ((r ≡ Err fault.Memory → ⊥) → IsWhole after.stake) → IsAlone after → IfErr r (IsHarvestFault n bytes kinds earlier after) → IfErr r (IsRefusedAlone n bytes kinds)
answered_alone n bytes kinds earlier after (Ok x) none whole alone h = tt
answered_alone n bytes kinds earlier after (Err found) none whole alone h = refused_alone n bytes kinds earlier after found none (λ other. whole (λ is. other (same_err found fault.Memory is))) alone h
  where
    same_err : {T : Type 0} (a b : HarvestFault) → ◌≡◌ {A = Result T HarvestFault} (Err a) (Err b) → a ≡ b
    same_err a b is = cc

use Rattle.std.proofs.Common.{◌≡◌, ◌++◌, ◌⊎◌, ℕ, List, [], Err, IfSome, IfErr, ap, sym, subst, ◌∙◌, ⊎_elim}
use Rattle.slot_table.specs.Passes.{Known, calls_of}
use Rattle.slot_table.specs.Stakes.{IsAsMuch, halved, half_of}
use Rattle.harvest_faults.specs.declared.faults.HarvestFault.TheVariants as fault
use Rattle.table_harvest.specs.Harvest.{HasHarvested, IsRefusedAlone}
use Rattle.table_harvest.proofs.Answered.{answered_alone}
use Rattle.table_harvest.proofs.harvesting.harvest_on.Goals as goal

pub returns-clause-calls : goal.returns-clause-calls
returns-clause-calls g c =
    let n = c.args.table.now.slots in
    let h = subst (λ (p : Known _). HasHarvested n c.args.bytes.now c.kinds-2.result p c.conclude.new.pass) c.split.ensures.same c.conclude.ensures.calls in
    subst (λ ks. HasHarvested n c.args.bytes.now ks c.args.pass.now c.conclude.new.pass) c.kinds-2.ensures
    (record { begins = h.begins; keeps = h.keeps; kept = h.kept; calls = h.calls })

pub returns-clause-stake : goal.returns-clause-stake
returns-clause-stake g c fine =
    let old = c.args.pass.now in
    let results = c.in_ok-results.results in
    let mid : c.split.new.pass.stake ≡ halved old.stake = ap (λ (p : Known _). p.stake) c.split.ensures.same in
    let given : c.begin.result.begun.value.stake ≡ half_of old.stake = ap (λ (p : Known _). p.stake) c.begin.ensures.begun ∙ c.split.ensures.stake in
    let back : IsAsMuch results.pass.stake (half_of old.stake) = subst (IsAsMuch results.pass.stake) given (c.in_ok-results.ensures.results.stake_is
    (λ is. ⊎_elim (λ one. fine one) (λ one. fine one) (subst (λ o. IfSome o (λ found. (c.conclude.result ≡ Err found) ⊎ (c.conclude.result ≡ Err fault.Memory))) is c.conclude.ensures.input))) in
    subst (λ (s : List ℕ). IsAsMuch s old.stake) (sym (c.conclude.ensures.stake ∙ ap (λ (s : List ℕ). s ++ results.pass.stake) mid))
    (c.stakes_come_together.ensures.halves old.stake results.pass.stake back)

pub returns-clause-alone : goal.returns-clause-alone
returns-clause-alone g c whole none =
    let n = c.args.table.now.slots in
    let old = c.args.pass.now in
    let mid : calls_of c.split.new.pass ≡ [] = ap (λ (p : Known _). calls_of p) c.split.ensures.same ∙ none in
    subst (λ ks. IfErr c.conclude.result (IsRefusedAlone n c.args.bytes.now ks)) c.kinds-2.ensures
    (answered_alone n c.args.bytes.now c.kinds-2.result (calls_of c.split.new.pass) c.conclude.new.pass c.conclude.result mid
    (λ fine. c.stakes_come_together.ensures.whole c.conclude.new.pass.stake old.stake (returns-clause-stake g c fine) whole) c.conclude.ensures.alone c.conclude.ensures.fault)

use Rattle.std.proofs.Common.{List, ◌++◌, ap, sym, ◌∙◌}
use Rattle.gather_core.specs.Shares.{Held}
use Rattle.harvest_faults.specs.declared.faults.HarvestFault.{HarvestFault}
use Rattle.table_harvest.specs.Inner.Parted.{shares_of, refusals_of}
use Rattle.table_harvest.specs.declared.working.Worked.{Worked}
use Rattle.table_harvest.proofs.Parted.{shares_on, refusals_on}
use Rattle.table_harvest.proofs.parting.part.Goals as goal

pub loop-one-preserved : goal.loop-one-preserved
loop-one-preserved c =
    let old = c.loop-one.parted in
    let rest = c.next.new.self.rest.items in
    let one = c.in-Some.one in
    let here = sym c.in-Some.ensures.steps.0 in
    record {
      shares = ap (λ (xs : List Held). xs ++ shares_of rest) c.in_ok-take.ensures.shares
          ∙ shares_on old.shares.items one rest
          ∙ ap (λ (ws : List Worked). old.shares.items ++ shares_of ws) here
          ∙ c.loop-one.invariant.shares;
      refusals = ap (λ (xs : List HarvestFault). xs ++ refusals_of rest) c.in_ok-take.ensures.refusals
          ∙ refusals_on old.refusals.items one rest
          ∙ ap (λ (ws : List Worked). old.refusals.items ++ refusals_of ws) here
          ∙ c.loop-one.invariant.refusals;
    }

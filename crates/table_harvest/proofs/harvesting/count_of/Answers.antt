use Rattle.std.proofs.Common.{refl}
use Rattle.std.proofs.lemmas.Result.{err_from_is_err_and}
use Rattle.gather_core.specs.Gathering.{all_rows}
use Rattle.table_harvest.proofs.Concluded.{ungathered}
use Rattle.table_harvest.proofs.Limited.{all_of_input}
use Rattle.harvest_core.proofs.Harvested.{games_within, harvested}
use Rattle.table_harvest.proofs.Numbered.{numbered}
use Rattle.table_harvest.proofs.harvesting.count_of.Goals as goal

pub gather-requires-clause-games : goal.gather-requires-clause-games
gather-requires-clause-games g c = λ κs lives.
    games_within c.requires.worked.0 c.args.kinds c.args.shares.now c.args.report (all_of_input c.requires.worked.0 c.args.kinds c.args.shares.now c.requires.worked.2) c.requires.worked.1

pub returns-in_err-gathered-clause-fault : goal.returns-in_err-gathered-clause-fault
returns-in_err-gathered-clause-fault g c bytes earlier read worked once together =
    let p = err_from_is_err_and c.from_residual.result c.from_residual.ensures.1 in
    rw (p.1, p.2) (ungathered c.args.table.now.slots bytes c.args.kinds earlier c.args.pass.now c.gather.new.pass (all_rows c.args.shares.now)
    (c.args.report, read) together c.args.report c.args.shares.now c.in_err-gathered.field-0.0 refl read worked once c.gather.ensures.later.later.keeps c.in_err-gathered.ensures.fault)

pub returns-clause-harvest : goal.returns-clause-harvest
returns-clause-harvest g c bytes read worked =
    let parts = numbered c.args.table.now.slots c.gather.new.pass.seen c.args.kinds c.args.report.games c.args.shares.now c.in_ok-gathered.gathered
    c.in_ok-gathered.ensures.stand c.in_ok-gathered.ensures.gathered in
    rw c.in_ok-dictionary.ensures (record {
      counted_is = harvested bytes c.args.kinds c.args.shares.now c.args.report c.in_ok-gathered.gathered (all_of_input bytes c.args.kinds c.args.shares.now worked) read c.in_ok-gathered.ensures.covers c.in_ok-gathered.ensures.gathered;
      numbered = parts.0;
      few = parts.1;
    })

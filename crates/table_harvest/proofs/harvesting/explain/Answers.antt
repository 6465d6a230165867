use Rattle.std.proofs.Common.{Some, ap, refl, subst}
use Rattle.gather_core.specs.Gathering.{all_rows}
use Rattle.table_harvest.specs.Working.{IsRefusal}
use Rattle.table_harvest.proofs.Concluded.{explained, refused_for}
use Rattle.table_harvest.proofs.harvesting.explain.Goals as goal

pub returns-in-Full-clause-why : goal.returns-in-Full-clause-why
returns-in-Full-clause-why g c bytes kinds earlier read worked pattern full together =
    let why = full c.in-Full.game c.in-Full.word (ap (λ f. Some f) c.in-Full.is) in
    explained c.args.table.now.slots bytes kinds earlier c.args.pass.now c.confirm_full.new.pass (all_rows c.args.shares.now) read together c.args.shares.now c.in-Full.game c.in-Full.word c.confirm_full.result refl
    c.confirm_full.ensures.pass.legal worked (subst (IsRefusal bytes kinds) c.in-Full.is pattern) why.0 why.1 c.confirm_full.ensures.later c.confirm_full.ensures.confirmed

pub returns-in_default-clause-why : goal.returns-in_default-clause-why
returns-in_default-clause-why g c bytes kinds earlier read worked why full together =
    refused_for c.args.table.now.slots bytes kinds earlier c.args.pass.now c.args.refused c.in_default.not-Full read why

use Rattle.std.proofs.Common.{◌≡◌, inl, inr, List, [], IfNone, IfErr, refl, sym, subst, ◌∙◌, arith, All, Contains}
use Rattle.std.proofs.lemmas.Bool.{false≢true}
use Rattle.std.proofs.lemmas.List.Elements.{All-contains, All-weaker}
use Rattle.std.proofs.lemmas.Result.{err_from_is_err_and}
use Rattle.game_core.specs.Games.{HasReadAll}
use Rattle.harvest_faults.specs.declared.faults.HarvestFault.{HarvestFault}
use Rattle.harvest_faults.specs.declared.faults.HarvestFault.TheVariants as fault
use Rattle.gather_core.specs.Gathering.{all_rows}
use Rattle.gather_core.specs.Covering.{all_games}
use Rattle.table_shares.specs.GatherFaults.{IsGatherFault}
use Rattle.gather_core.specs.Shares.{Held}
use Rattle.slot_table.specs.Passes.{calls_of}
use Rattle.table_harvest.specs.declared.working.Worked.{Worked}
use Rattle.harvest_core.specs.Working.{IsWorked}
use Rattle.table_harvest.specs.Working.{IsRefused, IsRefusal}
use Rattle.harvest_core.specs.Harvest.{IsRead}
use Rattle.table_harvest.specs.Inner.Parted.{refusals_of, IsWorst}
use Rattle.table_harvest.specs.Inner.Reading.{IsOnceEach}
use Rattle.table_harvest.specs.Inner.Harvest.{AreTogether, IsExplained}
use Rattle.table_harvest.specs.Inner.Working.{IsWorkOf}
use Rattle.table_harvest.proofs.Answered.{harvested_met, harvested_asked, agrees_met, full_where_refused}
use Rattle.table_harvest.proofs.Concluded.{told_none}
use Rattle.table_harvest.proofs.Parted.{shares_worked, refusals_worked}
use Rattle.table_harvest.proofs.Together.{together}
use Rattle.table_harvest.proofs.harvesting.conclude.Goals as goal

pub returns-in_err-shares-clause-calls : goal.returns-in_err-shares-clause-calls
returns-in_err-shares-clause-calls g c =
    harvested_met c.args.table.now c.args.bytes.now c.args.kinds c.args.pass.now c.args.results.pass c.absorb.new.pass c.args.results.worked.items
    c.requires.pass c.requires.results.1.counted c.absorb.ensures.met

pub returns-in_err-shares-clause-refused : goal.returns-in_err-shares-clause-refused
returns-in_err-shares-clause-refused g c none =
    let p = err_from_is_err_and c.from_residual.result c.from_residual.ensures.1 in
    rw (p.1, p.2) (c.absorb.new.pass, inl refl)

pub returns-then-want_memory-clause-calls : goal.returns-then-want_memory-clause-calls
returns-then-want_memory-clause-calls g c =
    harvested_met c.args.table.now c.args.bytes.now c.args.kinds c.args.pass.now c.args.results.pass c.absorb.new.pass c.args.results.worked.items
    c.requires.pass c.requires.results.1.counted c.absorb.ensures.met

pub returns-then-want_memory-clause-refused : goal.returns-then-want_memory-clause-refused
returns-then-want_memory-clause-refused g c none = (c.absorb.new.pass, inl refl)

pub returns-in-Some-clause-calls : goal.returns-in-Some-clause-calls
returns-in-Some-clause-calls g c =
    harvested_met c.args.table.now c.args.bytes.now c.args.kinds c.args.pass.now c.args.results.pass c.absorb.new.pass c.args.results.worked.items
    c.requires.pass c.requires.results.1.counted c.absorb.ensures.met

pub returns-in-Some-worst-clause-calls : goal.returns-in-Some-worst-clause-calls
returns-in-Some-worst-clause-calls g c =
    harvested_asked c.args.table.now.slots c.args.bytes.now c.args.kinds c.args.pass.now c.absorb.new.pass c.explain.new.pass
    (harvested_met c.args.table.now c.args.bytes.now c.args.kinds c.args.pass.now c.args.results.pass c.absorb.new.pass c.args.results.worked.items
    c.requires.pass c.requires.results.1.counted c.absorb.ensures.met) c.explain.ensures.later

pub returns-clause-calls : goal.returns-clause-calls
returns-clause-calls g c =
    harvested_asked c.args.table.now.slots c.args.bytes.now c.args.kinds c.args.pass.now c.absorb.new.pass c.count_of.new.pass
    (harvested_met c.args.table.now c.args.bytes.now c.args.kinds c.args.pass.now c.args.results.pass c.absorb.new.pass c.args.results.worked.items
    c.requires.pass c.requires.results.1.counted c.absorb.ensures.met) c.count_of.ensures.later

pub returns-in-Some-worst-clause-fault : goal.returns-in-Some-worst-clause-fault
returns-in-Some-worst-clause-fault g c =
    let n = c.args.table.now.slots in
    let bytes = c.args.bytes.now in
    let kinds = c.args.kinds in
    let worked = c.args.results.worked.items in
    let results = c.requires.results.1 in
    let both = c.absorb.new.pass in
    let shares_are = c.deref-in-Some-worst.ensures.value ∙ c.in_ok-shares.ensures.shares in
    let refusals_are = c.deref-2.ensures.value ∙ c.in_ok-shares.ensures.refusals in
    let shares = subst (λ ss. All (IsWorked bytes kinds) ss) (sym shares_are) (shares_worked bytes kinds worked results.worked_is) in
    let among : Contains (refusals_of worked) c.in-Some-worst.refused = subst (λ (rs : List HarvestFault). Contains rs c.in-Some-worst.refused) refusals_are c.in-Some-worst.ensures.among in
    let read : IsRead bytes = (c.args.results.report, subst (λ o. IfNone o (HasReadAll bytes c.args.results.report)) c.in_default.is results.all) in
    let agrees = agrees_met c.args.table.now bytes kinds c.args.pass.now c.args.results.pass both worked c.requires.pass c.absorb.ensures.pass results.counted c.absorb.ensures.met in
    let fine : Contains (refusals_of worked) fault.Memory → ⊥ =
    λ wants. absurd (false≢true (sym c.if-want_memory.false ∙ c.want_memory.ensures.1
    (subst (λ (rs : List HarvestFault). Contains rs fault.Memory) (sym (c.deref.ensures.value ∙ c.in_ok-shares.ensures.refusals)) wants))) in
    let all = together c.args.table.now bytes kinds (calls_of c.args.pass.now) both worked read
    (All-weaker (IsWorkOf bytes kinds) (λ (one : Worked). IsRefused bytes kinds one.refused) (λ w h. h.1) worked results.worked_is) fine agrees in
    c.explain.ensures.why bytes kinds (calls_of c.args.pass.now) read shares
    (All-contains (IsRefusal bytes kinds) (refusals_of worked) c.in-Some-worst.refused (refusals_worked bytes kinds worked results.worked_is) among)
    (full_where_refused n both.seen worked c.in-Some-worst.refused agrees.in_table among)
    (subst (λ (ss : List Held). AreTogether n (calls_of c.args.pass.now) both (all_rows ss)) (sym shares_are) all)

pub count_of-requires-clause-worked : goal.count_of-requires-clause-worked
count_of-requires-clause-worked g c = λ κs lives.
    let bytes = c.args.bytes.now in
    let kinds = c.args.kinds in
    let results = c.requires.results.1 in (
      bytes,
      subst (λ o. IfNone o (HasReadAll bytes c.args.results.report)) c.in_default.is results.all,
      subst (λ ss. All (IsWorked bytes kinds) ss) (sym (c.deref-in-None.ensures.value ∙ c.in_ok-shares.ensures.shares)) (shares_worked bytes kinds c.args.results.worked.items results.worked_is),
    )

pub returns-in-Some-worst-clause-refused : goal.returns-in-Some-worst-clause-refused
returns-in-Some-worst-clause-refused g c none =
    let refused = c.in-Some-worst.refused in (
      c.absorb.new.pass,
      inr (inl (record {
        first = refused;
        worst = subst (λ rs. IsWorst rs refused) (c.deref-2.ensures.value ∙ c.in_ok-shares.ensures.refusals) c.in-Some-worst.ensures;
        explained = subst (λ ss. IsExplained c.args.table.now.slots c.explain.new.pass.seen ss refused c.explain.result) (c.deref-in-Some-worst.ensures.value ∙ c.in_ok-shares.ensures.shares) c.explain.ensures.explained;
      })),
    )

pub returns-clause-refused : goal.returns-clause-refused
returns-clause-refused g c none =
    let n = c.args.table.now.slots in
    told_none n c.args.results c.absorb.new.pass c.count_of.new.pass c.count_of.result (sym (c.deref-2.ensures.value ∙ c.in_ok-shares.ensures.refusals) ∙ c.in-None.ensures)
    (subst (λ ss. IfErr c.count_of.result (IsGatherFault n c.args.results.report.games ss c.absorb.new.pass c.count_of.new.pass))
    (c.deref-in-None.ensures.value ∙ c.in_ok-shares.ensures.shares) c.count_of.ensures.gathered)

pub returns-clause-harvest : goal.returns-clause-harvest
returns-clause-harvest g c =
    let bytes = c.args.bytes.now in
    let kinds = c.args.kinds in
    let results = c.requires.results.1 in
    c.count_of.ensures.harvest bytes
    (subst (λ o. IfNone o (HasReadAll bytes c.args.results.report)) c.in_default.is results.all)
    (subst (λ ss. All (IsWorked bytes kinds) ss) (sym (c.deref-in-None.ensures.value ∙ c.in_ok-shares.ensures.shares)) (shares_worked bytes kinds c.args.results.worked.items results.worked_is))

pub returns-clause-fault : goal.returns-clause-fault
returns-clause-fault g c =
    let bytes = c.args.bytes.now in
    let kinds = c.args.kinds in
    let worked = c.args.results.worked.items in
    let results = c.requires.results.1 in
    let both = c.absorb.new.pass in
    let shares_are = c.deref-in-None.ensures.value ∙ c.in_ok-shares.ensures.shares in
    let none : refusals_of worked ≡ [] = sym (c.deref-2.ensures.value ∙ c.in_ok-shares.ensures.refusals) ∙ c.in-None.ensures in
    let all = subst (λ o. IfNone o (HasReadAll bytes c.args.results.report)) c.in_default.is results.all in
    let agrees = agrees_met c.args.table.now bytes kinds c.args.pass.now c.args.results.pass both worked c.requires.pass c.absorb.ensures.pass results.counted c.absorb.ensures.met in
    let fine : Contains (refusals_of worked) fault.Memory → ⊥ =
    λ wants. (let had : Contains [] fault.Memory = subst (λ (rs : List HarvestFault). Contains rs fault.Memory) none wants in let low = had.1 in absurd (omega arith)) in
    let stand = together c.args.table.now bytes kinds (calls_of c.args.pass.now) both worked (c.args.results.report, all)
    (All-weaker (IsWorkOf bytes kinds) (λ (one : Worked). IsRefused bytes kinds one.refused) (λ w h. h.1) worked results.worked_is) fine agrees in
    c.count_of.ensures.fault bytes (calls_of c.args.pass.now) all
    (subst (λ ss. All (IsWorked bytes kinds) ss) (sym shares_are) (shares_worked bytes kinds worked results.worked_is))
    (subst (λ (ss : List Held). IsOnceEach c.args.results.report.games (all_games ss)) (sym shares_are) (results.covers c.in_default.is none))
    (subst (λ (ss : List Held). AreTogether c.args.table.now.slots (calls_of c.args.pass.now) both (all_rows ss)) (sym shares_are) stand)

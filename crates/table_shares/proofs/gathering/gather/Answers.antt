use Rattle.std.proofs.Common.{◌≡◌, ◌≤◌, ◌^◌, sym, subst, ◌∙◌, inr}
use Rattle.table_shares.proofs.Common.{err_from_is_err_and, IfErr-weaker, IfOk-weaker, all_rows, all_moves, IsGatherFault}
use Rattle.harvest_faults.specs.declared.faults.HarvestFault.TheVariants as fault
use Rattle.table_shares.proofs.Stood.{one_each, all_stand, beyond_stands, stand_fault, list_fault}
use Rattle.table_shares.proofs.gathering.gather.Goals as goal

pub returns-in_err-differs-clause-fault : goal.returns-in_err-differs-clause-fault
returns-in_err-differs-clause-fault g c =
    let p = err_from_is_err_and c.from_residual-in_err-differs.result c.from_residual-in_err-differs.ensures.1 in
    rw (p.1, p.2) (stand_fault c.args.table.now.slots c.args.games c.args.shares.now c.args.pass.now c.visit_all.new.pass c.in_err-differs.field-0.0
    c.in_ok-check_games.ensures.ok c.in_err-differs.ensures.fault)

pub returns-in_err-check_beyond-clause-fault : goal.returns-in_err-check_beyond-clause-fault
returns-in_err-check_beyond-clause-fault g c =
    let n = c.args.table.now.slots in
    let new = c.visit_all.new.pass in
    let found = c.in_err-check_beyond.field-0.0 in
    let p = err_from_is_err_and c.from_residual-in_err-check_beyond.result c.from_residual-in_err-check_beyond.ensures.1 in
    let beyond = beyond_stands n c.slots-slots.result new.seen (all_rows c.args.shares.now) found (c.slots-slots.ensures.value ∙ c.capacity.ensures.slots)
    c.in_ok-differs.ensures.ok.stand c.in_err-check_beyond.ensures.fault in
    rw (p.1, p.2) (stand_fault n c.args.games c.args.shares.now c.args.pass.now new found c.in_ok-check_games.ensures.ok beyond)

pub returns-in-Some-clause-fault : goal.returns-in-Some-clause-fault
returns-in-Some-clause-fault g c =
    let visited = c.in_ok-differs.ensures.ok in
    let stand = all_stand (c.slots-slots.ensures.value ∙ c.capacity.ensures.slots) c.in_ok-check_beyond.ensures.ok visited in
    rw c.marks_fault.ensures (c.in_ok-check_games.ensures.ok, stand, rw c.in-Some.is at visited.agree)

pub entries_of-requires-clause-below : goal.entries_of-requires-clause-below
entries_of-requires-clause-below g c row among = c.in_ok-check_beyond.ensures.ok row among

pub entries_of-requires-clause-each : goal.entries_of-requires-clause-each
entries_of-requires-clause-each g c =
    let rows = all_rows c.args.shares.now in
    let stand = all_stand (c.slots-slots.ensures.value ∙ c.capacity.ensures.slots) c.in_ok-check_beyond.ensures.ok c.in_ok-differs.ensures.ok in
    one_each c.args.table.now.slots c.visit_all.new.pass.seen rows c.visit_all.ensures.pass.legal stand

pub returns-in_err-entries-clause-fault : goal.returns-in_err-entries-clause-fault
returns-in_err-entries-clause-fault g c =
    let n = c.args.table.now.slots in
    let new = c.visit_all.new.pass in
    let visited = c.in_ok-differs.ensures.ok in
    let stand = all_stand (c.slots-slots.ensures.value ∙ c.capacity.ensures.slots) c.in_ok-check_beyond.ensures.ok visited in
    let p = err_from_is_err_and c.from_residual-in_err-entries.result c.from_residual-in_err-entries.ensures.1 in
    rw (p.1, p.2) (list_fault n c.args.games c.args.shares.now c.args.pass.now new c.in_err-entries.field-0.0 c.visit_all.ensures.pass.legal
    c.in_ok-check_games.ensures.ok stand (rw c.in_default.is at visited.agree) c.in_err-entries.ensures.fault)

pub returns-clause-stand : goal.returns-clause-stand
returns-clause-stand g c =
    IfOk-weaker c.add_up.result _ _
    (λ _ _. all_stand (c.slots-slots.ensures.value ∙ c.capacity.ensures.slots) c.in_ok-check_beyond.ensures.ok c.in_ok-differs.ensures.ok) c.add_up.ensures.ok

pub returns-clause-fault : goal.returns-clause-fault
returns-clause-fault g c =
    let shares = c.args.shares.now in
    let IsFault = IsGatherFault c.args.table.now.slots c.args.games shares c.args.pass.now c.visit_all.new.pass in
    let stand = all_stand (c.slots-slots.ensures.value ∙ c.capacity.ensures.slots) c.in_ok-check_beyond.ensures.ok c.in_ok-differs.ensures.ok in
    let asked = rw c.in_default.is at c.in_ok-differs.ensures.ok.agree in
    IfErr-weaker c.add_up.result (λ found. (found ≡ fault.Overflow) × (2 ^ 64 ≤ all_moves shares)) IsFault
    (λ found f. subst IsFault (sym f.0) (c.in_ok-check_games.ensures.ok, stand, asked, inr (inr f.1))) c.add_up.ensures.fault

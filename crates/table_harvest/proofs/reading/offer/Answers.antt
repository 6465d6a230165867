use Rattle.std.proofs.Common.{◌≡◌, List, [], append-nil, sym, subst}
use Rattle.slot_table.specs.declared.entries.Happened.{Happened}
use Rattle.slot_table.proofs.Later.{later_self}
use Rattle.game_core.specs.Games.{WrittenGame}
use Rattle.job_core.specs.declared.items.Item.{Item}
use Rattle.job_core.specs.declared.items.Item.TheVariants.{Job}
use Rattle.table_harvest.specs.InTable.{IsInTable}
use Rattle.harvest_core.specs.Working.{IsWorked}
use Rattle.table_harvest.specs.Working.{IsRefused, CallsIn}
use Rattle.table_harvest.proofs.CallsIn.{game_in_input, no_calls_in}
use Rattle.table_harvest.proofs.reading.offer.Goals as goal

same_job : (x : Item) (back job : WrittenGame) → x ≡ Job back → x ≡ Job job → back ≡ job
same_job x back job one other = cc

pub returns-in-Err-Job-clause-refused : goal.returns-in-Err-Job-clause-refused
returns-in-Err-Job-clause-refused g c kinds w stood r =
    let same : c.in-Err-Job.back ≡ c.args.job = same_job c.in-Err-Job.field-0 c.in-Err-Job.back c.args.job c.in-Err-Job.field-0-is c.in-Err-Job.ensures.0 in
    let old = c.args.worked.now in
    let new = c.count.new.self in
    subst (λ (j : WrittenGame). IsRefused j.bytes kinds new.refused) same
    (c.count.ensures.refused kinds (subst (λ (j : WrittenGame). IsWorked j.bytes kinds old.share) (sym same) w) stood
    (subst (λ (j : WrittenGame). IsRefused j.bytes kinds old.refused) (sym same) r))

pub returns-in-Err-Job-clause-calls : goal.returns-in-Err-Job-clause-calls
returns-in-Err-Job-clause-calls g c kinds of =
    let n = c.args.own.now.table.now.slots in
    let same : c.in-Err-Job.back ≡ c.args.job = same_job c.in-Err-Job.field-0 c.in-Err-Job.back c.args.job c.in-Err-Job.field-0-is c.in-Err-Job.ensures.0 in
    subst (λ (j : WrittenGame). CallsIn n j.bytes kinds c.args.own.now.pass c.count.new.pass) same
    (game_in_input n c.in-Err-Job.back.bytes kinds c.in-Err-Job.back.game c.args.own.now.pass c.count.new.pass (c.count.ensures.later kinds of))

pub returns-in-Ok-clause-calls : goal.returns-in-Ok-clause-calls
returns-in-Ok-clause-calls g c kinds of =
    no_calls_in c.args.own.now.table.now.slots c.args.job.bytes kinds c.args.own.now.pass

pub returns-in-Ok-clause-table : goal.returns-in-Ok-clause-table
returns-in-Ok-clause-table g c calls h =
    let n = c.args.own.now.table.now.slots in
    ([], later_self n c.args.own.now.pass, subst (λ (es : List Happened). IsInTable n c.args.own.now.pass.seen es c.args.worked.now) (sym (append-nil calls)) h)

pub returns-in-Err-End-clause-calls : goal.returns-in-Err-End-clause-calls
returns-in-Err-End-clause-calls g c kinds of =
    no_calls_in c.args.own.now.table.now.slots c.args.job.bytes kinds c.args.own.now.pass

pub returns-in-Err-End-clause-table : goal.returns-in-Err-End-clause-table
returns-in-Err-End-clause-table g c calls h =
    let n = c.args.own.now.table.now.slots in
    ([], later_self n c.args.own.now.pass, subst (λ (es : List Happened). IsInTable n c.args.own.now.pass.seen es c.args.worked.now) (sym (append-nil calls)) h)

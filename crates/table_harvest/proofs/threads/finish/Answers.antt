use Rattle.std.proofs.Common.{◌≡◌, [], ap, sym, subst, ◌∙◌}
use Rattle.slot_table.proofs.Later.{later_self}
use Rattle.job_core.specs.declared.knowledge.Knowledge.{Knowledge}
use Rattle.table_harvest.specs.declared.workers.Worker.{Worker}
use Rattle.table_harvest.specs.Working.{IsRefused}
use Rattle.table_harvest.proofs.CallsIn.{no_calls_in}
use Rattle.table_harvest.proofs.InTable.{begins_in_table}
use Rattle.table_harvest.proofs.threads.finish.Goals as goal

pub returns-clause-reading : goal.returns-clause-reading
returns-clause-reading g c =
    let own = c.args.own in
    let bytes = c.args.games.bytes in
    let n = own.table.now.slots in
    let endpoint = c.close.new.endpoint in
    let worked = c.begin.result in
    let begun = c.begin.ensures in
    let closed : endpoint ≡ record own.endpoint { put = endpoint.put; ends_put = endpoint.ends_put } =
    c.close.ensures ∙ ap (λ (v : Knowledge). (let d : Knowledge = record own.endpoint { put = v.put; ends_put = v.ends_put } in d)) (sym c.close.ensures) in
    record {
      own_is = ap (λ (d : Knowledge). (let x : Worker g.row.O.Denot g.row.G.Denot = record own { endpoint = d } in x)) closed;
      pass = c.requires.pass;
      number = begun.worker;
      worked_is = (begun.worked bytes, subst (IsRefused bytes own.kinds) (sym begun.refused) tt);
      calls = no_calls_in n bytes own.kinds own.pass;
      table = ([], later_self n own.pass, begins_in_table n own.pass.seen worked begun.rows begun.refused);
      all = tt;
      dealt = tt;
      fault_is = tt;
    }

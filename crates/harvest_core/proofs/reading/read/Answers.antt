use Rattle.std.proofs.Common.{◌≡◌, ◌++◌, OnOk, sym, subst, ◌∙◌}
use Rattle.game_core.specs.Games.{HasReadAll}
use Rattle.game_core.specs.declared.reports.Report.{Report}
use Rattle.harvest_core.specs.Inner.Dealt.{IsOnceEach}
use Rattle.harvest_core.proofs.Working.{goes_through, still_at_work}
use Rattle.harvest_core.proofs.Dealt.{dealt_at_work, endpoint_of_reading, counted_in_reading, once_in_reading}
use Rattle.harvest_core.proofs.reading.read.Goals as goal

pub work-requires-clause-work : goal.work-requires-clause-work
work-requires-clause-work g c κs lives =
    let shared = c.args.shared.now in
    let dealt = c.deal_all-outcome.new.own in
    still_at_work shared dealt c.close.new.own c.close.ensures
    (dealt_at_work shared c.args.own.endpoint dealt c.deal_all-outcome.new.games.report.games c.deal_all-outcome.ensures.endpoint c.requires.own.nothing.1 c.deal_all-outcome.ensures.dealt
    (sym c.requires.own.step.1 ∙ c.requires.bytes))

pub returns : goal.returns
returns g c =
    let shared = c.args.shared.now in
    let bytes = shared.bytes.now in
    let first = c.args.own.endpoint in
    let dealt = c.deal_all-outcome.new.own in
    let high = c.deal_all-outcome.new.games.report.games in
    let put = c.deal_all-outcome.ensures.endpoint in
    let none = c.requires.own.nothing.1 in
    let h = c.deal_all-outcome.ensures.dealt in
    let last = c.work.result in
    let on = goes_through shared dealt c.close.new.own last c.close.ensures c.work.ensures.on in
    let report : c.report.result ≡ c.deal_all-outcome.new.games.report = c.report.ensures.report in
    record {
      endpoint = endpoint_of_reading shared first dealt high put none h last on;
      back = h.back;
      counted = counted_in_reading shared first dealt high put none h last on;
      once = subst (λ (r : Report). IsOnceEach r.games (last.endpoint.put ++ h.back)) (sym report) (once_in_reading shared first dealt high put none h last on);
      ended = c.work.ensures.end;
      all = subst (λ (r : Report). OnOk c.deal_all-outcome.result (HasReadAll bytes r)) (sym report) c.deal_all-outcome.ensures.all;
      fault_is = c.deal_all-outcome.ensures.fault;
    }

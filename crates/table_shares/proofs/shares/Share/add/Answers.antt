use Rattle.table_shares.proofs.Common.{err_from_is_err_and, IsKept, IsPrepared}
use Rattle.std.proofs.Common.{ap, subst}
use Rattle.go_board.specs.Extent.{IsExtent}
use Rattle.table_shares.specs.Inner.Ledgers.{Totals, totals_of}
use Rattle.table_shares.proofs.Added.{held_as, prepared, kept_share, counted, grown, marked, calls_for, count_fault, entered_after}
use Rattle.gather_core.proofs.Added.{share_with}
use Rattle.table_shares.proofs.shares.Share.add.Goals as goal
use Rattle.table_shares.proofs.shares.Share.add.Goals.{After-as_slice-answers, After-prepare}

-- once the game was prepared the share has rows besides, and is the same in all else
kept-as : (g : _) (c : After-prepare g) →
    IsKept c.args.table.now.slots c.prepare.new.pass.seen c.args.game_record.now
    (held_as c.self.inside.worker c.self.inside.workings.walk.kinds (totals_of c.self.inside.ledger))
    (held_as c.self.inside.worker c.prepare.new.self.walk.kinds (record (totals_of c.self.inside.ledger) { rows = c.prepare.new.rows }))
kept-as g c = prepared c.self.inside.worker (totals_of c.self.inside.ledger) c.prepare.ensures.fresh c.prepare.ensures.kinds

-- what was walked, answered and rowed, by the slices that the last steps take
ready-as : (g : _) (c : After-as_slice-answers g) →
    IsPrepared c.args.table.now.slots c.prepare.new.pass.seen c.self.inside.workings.walk.kinds c.args.game_record.now
    c.meetings-meetings.result.now c.as_slice-answers.result.now c.prepare.new.rows c.in_ok-moves.moves
ready-as g c = rw (c.meetings-meetings.ensures, c.as_slice-answers.ensures.value) c.in_ok-moves.ensures.ok

pub invariant_of-self : goal.invariant_of-self
invariant_of-self g c = kept_share (kept-as g (goal.at.invariant_of-self g c).After-prepare) c.self.invariant

pub returns-in_err-moves-clause-kept : goal.returns-in_err-moves-clause-kept
returns-in_err-moves-clause-kept g c =
    rw ((err_from_is_err_and c.from_residual.result c.from_residual.ensures.1).1, ← c.self.view_is)
    (kept-as g (goal.at.returns-in_err-moves-clause-kept g c).After-prepare)

pub invariant_of-self-in_err-count : goal.invariant_of-self-in_err-count
invariant_of-self-in_err-count g c =
    let same = c.in_err-count.ensures.err in
    rw (ap (λ (t : Totals). t.games) same, ap (λ (t : Totals). t.moves) same, ap (λ (t : Totals). t.rows) same)
    (kept_share (kept-as g (goal.at.invariant_of-self-in_err-count g c).After-prepare) c.self.invariant)

pub returns-in_err-count-clause-kept : goal.returns-in_err-count-clause-kept
returns-in_err-count-clause-kept g c =
    let p = err_from_is_err_and c.from_residual-in_err-count.result c.from_residual-in_err-count.ensures.1 in
    let same = c.in_err-count.ensures.err in
    rw (p.1, ← c.self.view_is, ap (λ (t : Totals). t.games) same, ap (λ (t : Totals). t.moves) same, ap (λ (t : Totals). t.rows) same)
    (kept-as g (goal.at.returns-in_err-count-clause-kept g c).After-prepare)

pub returns-in_err-count-clause-fault : goal.returns-in_err-count-clause-fault
returns-in_err-count-clause-fault g c =
    let p = err_from_is_err_and c.from_residual-in_err-count.result c.from_residual-in_err-count.ensures.1 in
    let ready = ready-as g (goal.at.returns-in_err-count-clause-fault g c).After-as_slice-answers in
    let new = held_as c.self.inside.worker c.prepare.new.self.walk.kinds (totals_of c.count.new.self) in
    rw (p.1, p.2, ← c.self.view_is) (count_fault (kept-as g (goal.at.returns-in_err-count-clause-fault g c).After-prepare)
    c.args.game new c.in_err-count.field-0.0 ready.walked c.in_err-count.ensures.fault)

pub returns-in_err-count-clause-enters : goal.returns-in_err-count-clause-enters
returns-in_err-count-clause-enters g c =
    let p = err_from_is_err_and c.from_residual-in_err-count.result c.from_residual-in_err-count.ensures.1 in
    rw (p.1, p.2, ← c.self.view_is, ap (λ (t : Totals). t.rows) c.in_err-count.ensures.err)
    (entered_after c.prepare.new.rows c.in_err-count.field-0.0 c.in_ok-moves.ensures.rowed)

pub returns-clause-added : goal.returns-clause-added
returns-clause-added g c =
    let kept = kept-as g (goal.at.returns-clause-added g c).After-prepare in
    rw (← c.self.view_is)
    (counted kept (ready-as g (goal.at.returns-clause-added g c).After-as_slice-answers) c.in_ok-count.ensures.ok (subst IsExtent c.size.ensures c.columns.ensures.size))

pub invariant_of-self-2 : goal.invariant_of-self-2
invariant_of-self-2 g c =
    let kept = kept-as g (goal.at.invariant_of-self-2 g c).After-prepare in
    share_with
    (counted kept (ready-as g (goal.at.invariant_of-self-2 g c).After-as_slice-answers) c.in_ok-count.ensures.ok (subst IsExtent c.size.ensures c.columns.ensures.size)) c.self.invariant

pub returns-clause-grown : goal.returns-clause-grown
returns-clause-grown g c =
    let kept = kept-as g (goal.at.returns-clause-grown g c).After-prepare in
    let ready = ready-as g (goal.at.returns-clause-grown g c).After-as_slice-answers in
    rw (← c.self.view_is) (grown kept ready c.in_ok-count.ensures.ok c.mark_all.ensures.marks.later.keeps)

pub returns-clause-marked : goal.returns-clause-marked
returns-clause-marked g c =
    let kept = kept-as g (goal.at.returns-clause-marked g c).After-prepare in
    let ready = ready-as g (goal.at.returns-clause-marked g c).After-as_slice-answers in
    rw (← c.self.view_is)
    (marked kept ready c.in_ok-count.ensures.ok (subst IsExtent c.size.ensures c.columns.ensures.size) c.mark_all.ensures.marks.later.keeps c.mark_all.ensures.marked)

pub returns-clause-calls : goal.returns-clause-calls
returns-clause-calls g c =
    let ready = ready-as g (goal.at.returns-clause-calls g c).After-as_slice-answers in
    let later = c.mark_all.ensures.marks in
    rw (← c.self.view_is) (calls_for ready c.in_ok-count.ensures.ok.rows c.in_ok-moves.ensures.rowed later later.later.keeps)

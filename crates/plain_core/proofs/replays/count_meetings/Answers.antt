use Rattle.std.proofs.Common.{ℕ, List, subst}
use Rattle.std.proofs.lemmas.List.{take_all}
use Rattle.plain_core.specs.Inner.Count.{Count}
use Rattle.plain_core.specs.Inner.Counter.{count_in, used, IsCountingFault, IsMeetingsFault, CountsMeetings}
use Rattle.tally_core.specs.Inner.Times.{one_pattern}
use Rattle.tally_core.specs.Walk.{there_among, played_among}
use Rattle.plain_core.proofs.Used.{fault-later}
use Rattle.tally_core.proofs.HandedOn.{passed_up}
use Rattle.plain_core.proofs.Adding.{next-within}
use Rattle.plain_core.proofs.replays.count_meetings.Goals as goal

pub returns-in_err-add-clause-fault : goal.returns-in_err-add-clause-fault
returns-in_err-add-clause-fault c =
    let game = c.args.game in
    let meetings = c.args.meetings.now in
    let before = count_in c.args.counts.now in
    let meeting = c.index-meetings-i.result in
    let found = c.in_err-add.field-0.0 in
    let added = used game (one_pattern meeting.shape meeting.there) (one_pattern meeting.shape meeting.played) (count_in c.loop-i.counts) in
    let fault = subst (λ (list : List (ℕ × Count)). IsCountingFault 0 (used game (one_pattern meeting.shape meeting.there) (one_pattern meeting.shape meeting.played) (count_in list)) found)
    c.expect.ensures c.in_err-add.ensures.fault in
    passed_up c.from_residual.result found (IsMeetingsFault game meetings before) c.from_residual.ensures.1
    (fault-later found 0 0 added (used game (there_among meetings) (played_among meetings) before)
    (λ shape. next-within game meetings c.loop-i.i meeting before (count_in c.loop-i.counts) shape c.loop-i-test.true c.index-meetings-i.is c.loop-i.invariant)
    fault)

pub returns-clause-ok : goal.returns-clause-ok
returns-clause-ok c =
    let meetings = c.args.meetings.now in
    subst (λ (list : List _). CountsMeetings c.args.game list (count_in c.args.counts.now) (count_in c.loop-i.counts)) (take_all c.loop-i.i meetings c.loop-i-test.false) c.loop-i.invariant

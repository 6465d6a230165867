use Rattle.std.proofs.Common.{◌*◌, length, ap, arith}
use Rattle.plain_core.specs.Inner.Counter.{count_in, uses_at, used, IsCountingFault, CountsMeetings}
use Rattle.tally_core.specs.Walk.{there_among, played_among}
use Rattle.plain_core.proofs.Used.{fault-later}
use Rattle.tally_core.proofs.HandedOn.{passed_up}
use Rattle.plain_core.proofs.Walked.{counts-walked, meetings-grow}
use Rattle.plain_core.proofs.replays.count_game.Goals as goal

pub returns-in_err-count_meetings-clause-fault : goal.returns-in_err-count_meetings-clause-fault
returns-in_err-count_meetings-clause-fault c =
    let game = c.args.game in
    let most = 5410 * length c.args.game_record.now.actions in
    let before = count_in c.args.counts.now in
    let meetings = c.walk.new.self.meetings in
    let found = c.in_err-count_meetings.field-0.0 in
    passed_up c.from_residual-in_err-count_meetings.result found (IsCountingFault most before) c.from_residual-in_err-count_meetings.ensures.1
    (fault-later found 0 most (used game (there_among meetings) (played_among meetings) before) before
    (λ shape. omega (arith, meetings-grow game most meetings before shape c.in_ok-moves.ensures.small))
    (rw c.meetings.ensures at c.in_err-count_meetings.ensures.fault))

pub returns-clause-counts : goal.returns-clause-counts
returns-clause-counts c =
    counts-walked c.args.walk.now.kinds c.args.game_record.now c.args.game (count_in c.args.counts.now) (count_in c.count_meetings.new.counts) c.walk.new.self.meetings c.in_ok-moves.moves
    c.in_ok-moves.ensures.walked c.in_ok-moves.ensures.among (rw c.meetings.ensures at c.in_ok-count_meetings.ensures.ok)

pub returns-clause-grows : goal.returns-clause-grows
returns-clause-grows c shape =
    let counted : CountsMeetings c.args.game c.walk.new.self.meetings (count_in c.args.counts.now) (count_in c.count_meetings.new.counts) = rw c.meetings.ensures at c.in_ok-count_meetings.ensures.ok in
    omega (
      arith,
      ap uses_at (counted shape),
      meetings-grow c.args.game (5410 * length c.args.game_record.now.actions) c.walk.new.self.meetings (count_in c.args.counts.now) shape c.in_ok-moves.ensures.small,
    )

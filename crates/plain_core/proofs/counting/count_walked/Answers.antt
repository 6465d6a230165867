use Rattle.std.proofs.Common.{◌≡◌, ◌+◌, refl}
use Rattle.tally_core.specs.declared.faults.TallyFault.TheVariants as fault
use Rattle.tally_core.proofs.HandedOn.{passed_up}
use Rattle.plain_core.proofs.WalkedGames.{counts_one, within_one, memory_alone}
use Rattle.plain_core.proofs.counting.count_walked.Goals as goal

pub returns-in_err-count_meetings-clause-fault : goal.returns-in_err-count_meetings-clause-fault
returns-in_err-count_meetings-clause-fault c =
    let found = c.in_err-count_meetings.field-0.0 in
    passed_up c.from_residual.result found (λ why. why ≡ fault.Memory) c.from_residual.ensures.1
    (memory_alone found c.new-game.result c.requires.walked.0 c.args.walked.now c.args.counter.now c.requires.walked.1 c.requires.small c.requires.within
    (rw c.as_slice.ensures.value at c.in_err-count_meetings.ensures.fault))

pub returns-clause-counted : goal.returns-clause-counted
returns-clause-counted c kinds is up_to = counts_one kinds c.args.walked.now c.args.counter.now
    (record { counts = c.count_meetings.new.counts; moves = c.args.counter.now.moves + c.args.walked.now.moves })
    is (rw (c.as_slice.ensures.value, c.new-game.ensures, c.game.ensures.number) at c.in_ok-count_meetings.ensures.ok) refl up_to

pub returns-clause-within : goal.returns-clause-within
returns-clause-within c = within_one c.requires.walked.0 c.args.walked.now c.args.counter.now
    (record { counts = c.count_meetings.new.counts; moves = c.args.counter.now.moves + c.args.walked.now.moves })
    c.requires.walked.1 (rw (c.as_slice.ensures.value, c.new-game.ensures, c.game.ensures.number) at c.in_ok-count_meetings.ensures.ok) refl c.requires.within

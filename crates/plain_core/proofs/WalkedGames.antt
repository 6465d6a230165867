-- Games that were walked, and are counted after that.
use Rattle.std.proofs.Common.{◌≡◌, ℕ, ◌+◌, ◌*◌, ◌≤◌, List, length, Option, Some, refl, ap, arith}
use Rattle.sgf_core.specs.Limit.{most_bytes}
use Rattle.shape_core.specs.declared.words.Kinds.{Kinds}
use Rattle.plain_core.specs.declared.counting.Counter.{Counter}
use Rattle.plain_core.specs.declared.walkers.WalkedGame.{WalkedGame}
use Rattle.tally_core.specs.declared.faults.TallyFault.{TallyFault}
use Rattle.tally_core.specs.declared.faults.TallyFault.TheVariants as fault
use Rattle.plain_core.specs.Inner.Counter.{count_in, uses_at, CountsMeetings, IsMeetingsFault}
use Rattle.plain_core.specs.Inner.Counting.{CountsUpTo, IsWithin}
use Rattle.plain_core.specs.Inner.Walkers.{IsWalked}
use Rattle.plain_core.proofs.NextGame.{counts_game}
use Rattle.plain_core.proofs.Walked.{counts-walked, meetings-grow}

-- one game more is counted
pub counts_one : (kinds : Kinds) (walked : WalkedGame) (before after : Counter) → IsWalked kinds walked →
    CountsMeetings (Some walked.job.game) walked.meetings.items (count_in before.counts) (count_in after.counts) →
    after.moves ≡ before.moves + walked.moves →
    CountsUpTo kinds walked.job.bytes walked.job.game before → CountsUpTo kinds walked.job.bytes (walked.job.game + 1) after
counts_one kinds walked before after is counted moves up_to =
    counts_game kinds walked.job.bytes walked.job.game walked.job.at walked.job.end walked.job.actions before after walked.moves
    is.game up_to
    (counts-walked kinds walked.job.actions (Some walked.job.game) (count_in before.counts) (count_in after.counts) walked.meetings.items walked.moves
    is.walk is.among counted)
    moves

pub within_one : (kinds : Kinds) (walked : WalkedGame) (before after : Counter) → IsWalked kinds walked →
    CountsMeetings (Some walked.job.game) walked.meetings.items (count_in before.counts) (count_in after.counts) →
    after.moves ≡ before.moves + walked.moves →
    IsWithin walked.job.at before → IsWithin walked.job.end after
within_one kinds walked before after is counted moves within = record {
  moves = omega (arith, moves, is.few, is.fits, within.moves);
  uses = λ shape. omega (
    arith,
    ap uses_at (counted shape),
    meetings-grow (Some walked.job.game) (5410 * length walked.job.actions.actions) walked.meetings.items (count_in before.counts) shape is.small,
    within.uses shape,
    is.fits,
  );
}

-- no count of an input that is not too large is too large
pub memory_alone : (found : TallyFault) (number : Option ℕ) (kinds : Kinds) (walked : WalkedGame) (before : Counter) → IsWalked kinds walked →
    length walked.job.bytes ≤ most_bytes → IsWithin walked.job.at before →
    IsMeetingsFault number walked.meetings.items (count_in before.counts) found → found ≡ fault.Memory
memory_alone fault.Memory number kinds walked before is small within h = refl
memory_alone fault.Overflow number kinds walked before is small within h =
    absurd (omega (
      arith,
      h.1,
      meetings-grow number (5410 * length walked.job.actions.actions) walked.meetings.items (count_in before.counts) h.0 is.small,
      within.uses h.0,
      is.fits,
      is.in_input,
      small,
    ))
memory_alone fault.BadSettings number kinds walked before is small within h = absurd h
memory_alone (fault.Sgf found) number kinds walked before is small within h = absurd h

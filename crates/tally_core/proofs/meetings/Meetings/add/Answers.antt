use Rattle.std.proofs.Common.{List, length, ap, arith, length-append}
use Rattle.tally_core.specs.declared.meetings.Meeting.{Meeting}
use Rattle.tally_core.proofs.meetings.Meetings.add.Goals as goal

pub returns-in_ok-push_growing-clause-small : goal.returns-in_ok-push_growing-clause-small
returns-in_ok-push_growing-clause-small c =
    omega (
      arith,
      ap (λ (m : List Meeting). length m) c.in_ok-push_growing.ensures.added,
      length-append {A = Meeting},
      c.in_ok-push_growing.ensures.few,
      ap (λ (m : List Meeting). length m) c.self.view_is,
      c.len-at.ensures,
    )

use Rattle.std.proofs.Common.{ap, ◌∙◌}
use Rattle.range_core.specs.Totals.{together, total_of, count_at}
use Rattle.range_core.proofs.place_lists.append_to.Goals.{then-is_full, else-is_full}
use Rattle.range_core.proofs.place_lists.append_to.Goals as goal

pub returns-clause-added : goal.returns-clause-added
returns-clause-added c shape =
    c.in_ok-push.ensures.added shape
    ∙ ap (λ t. together t (count_at shape c.args.entry)) (elim c.if-is_full.branch [
      | then-is_full w ↦ ap (total_of shape) w.list-is ∙ w.make_room.ensures shape
      | else-is_full w ↦ ap (total_of shape) w.list-is
    ])

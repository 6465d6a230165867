use Rattle.std.proofs.Common.{◌∙◌}
use Rattle.std.proofs.lemmas.Result.{on_ok_weaker}
use Rattle.tally_parts.specs.Parts.{kinds_for}
use Rattle.tally_parts.proofs.Filled.{part_good}
use Rattle.tally_parts.proofs.Kept.{part_spilled}
use Rattle.tally_parts.proofs.runs.spill_all.Goals as goal

pub returns-clause-spilled : goal.returns-clause-spilled
returns-clause-spilled g c = λ all i many first.
    let feed = c.spill_full.new.feed in
    let part = c.spill_full.new.part.items in
    let h = c.in_ok-spill_full.ensures.spilled all i many first in
    let counted = c.in_ok-last.ensures.counted h.filled.in_part (part_good all h.before feed part h.spilled.begun h.filled) (c.as_slice.ensures.value ∙ h.filled.joined_is) in
    on_ok_weaker c.spill.result (λ kept. part_spilled (kinds_for c.args.plan.text) all feed _ _ _ _ part c.in_ok-last.last h counted c.in_ok-last.ensures.small kept) c.spill.ensures.kept

use Rattle.std.proofs.Common.{[], ◌∷◌, append_assoc, arith}
use Rattle.batch_core.specs.Batch.{parting_byte}
use Rattle.batch_core.proofs.Joined.{joined_more}
use Rattle.batch_core.proofs.texts.push_text.Goals as goal

pub returns-clause-pushed : goal.returns-clause-pushed
returns-clause-pushed c before is =
    let text = c.args.text.now in
    let both = append_assoc c.args.texts.now.items text (parting_byte ∷ []) in
    grind (arith, both, is, joined_more before text, c.reserve.ensures.items, c.in_ok-extend_from_slice.ensures.items, c.push_reserved.ensures.items)

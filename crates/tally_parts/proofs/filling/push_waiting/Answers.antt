use Rattle.std.proofs.Common.{ℕ, List, [], ◌∷◌, ap, sym, ◌∙◌}
use Rattle.batch_core.specs.Batch.{joined}
use Rattle.tally_parts.proofs.Filled.{waiting_one}
use Rattle.tally_parts.proofs.filling.push_waiting.Goals as goal

pub returns-in_ok-push_text-clause-pushed : goal.returns-in_ok-push_text-clause-pushed
returns-in_ok-push_text-clause-pushed c =
    let feed = c.args.feed.now in
    c.in_ok-push_text.ensures.pushed [] c.requires
    ∙ ap joined (ap (λ (x : List ℕ). x ∷ []) c.as_slice.ensures.value ∙ sym (waiting_one feed c.if-feed.true))

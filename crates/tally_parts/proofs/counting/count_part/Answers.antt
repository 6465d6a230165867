use Rattle.std.proofs.Common.{subst}
use Rattle.shape_core.specs.declared.words.Kinds.{Kinds}
use Rattle.tally_parts.specs.Parts.{IsDictionaryOfTexts}
use Rattle.tally_parts.proofs.Counted.{counted_texts}
use Rattle.tally_parts.proofs.counting.count_part.Goals as goal

pub returns-in-Ok-clause-counted : goal.returns-in-Ok-clause-counted
returns-in-Ok-clause-counted g c = λ texts good same.
    subst (λ (x : Kinds). IsDictionaryOfTexts x texts c.in-Ok.counted.dictionary) c.kinds_for.ensures
    (counted_texts c.games_of_joined.ensures.apart c.kinds_for.result texts c.args.part.now c.in-Ok.counted good same c.in-Ok.ensures.harvest)

use Rattle.std.proofs.lemmas.Bool.Decides.{Decides-eqb}
use Rattle.std.proofs.lemmas.Slice.Eq.{strip_prefix_is}
use Rattle.shape_dict.proofs.Decimals.{after_found, after_only}
use Rattle.shape_dict.proofs.numbers.after.Goals as goal

pub returns-clause-found : goal.returns-clause-found
returns-clause-found c =
    after_found c.args.bytes.now c.args.literal.now c.strip_prefix.result (strip_prefix_is Decides-eqb c.args.bytes.now c.args.literal.now c.strip_prefix.result c.strip_prefix.ensures.cases)

pub returns-clause-only : goal.returns-clause-only
returns-clause-only c =
    after_only c.args.bytes.now c.args.literal.now c.strip_prefix.result (strip_prefix_is Decides-eqb c.args.bytes.now c.args.literal.now c.strip_prefix.result c.strip_prefix.ensures.cases)

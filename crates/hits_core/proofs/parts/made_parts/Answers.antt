use Rattle.std.proofs.Common.{rules, get_or, subst, List, Err, IfOk}
use Rattle.shape_dict.proofs.Chunked.{if_ok_both}
use Rattle.tally_core.specs.declared.faults.TallyFault.TheVariants as fault
use Rattle.hits_core.specs.declared.games.Game.{Game}
use Rattle.hits_core.specs.Inner.Parts.{IsPart}
use Rattle.hits_core.proofs.Joining.{are-made}
use Rattle.hits_core.proofs.parts.made_parts.Goals as goal

pub returns-clause-made : goal.returns-clause-made
returns-clause-made g c =
    if_ok_both c.map_chunks.result _ _ _ (λ made count each. are-made c.args.sought c.args.wanted.now c.args.most c.part_length.result c.args.games.now made.items (Err fault.Memory) c.part_length.ensures (search rules)
    (λ n inside. let call = (each n (Err fault.Memory) inside).1 in
    subst (λ (chunk : List Game). IfOk (get_or made.items n (Err fault.Memory)) (λ part. IsPart c.args.sought c.args.wanted.now c.args.most chunk part.items)) call.argument_is.value (let made_call = call.call in search rules)))
    c.map_chunks.ensures.len c.map_chunks.ensures.each

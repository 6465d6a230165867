use Rattle.std.proofs.Common.{rules, ◌≡◌, get_or, subst, List, Err, IfOk}
use Rattle.std.specs.Prelude.{alloc_error, Vec}
use Rattle.std.specs.Global.{Global}
use Rattle.shape_dict.specs.declared.entries.Entry.{Entry}
use Rattle.shape_dict.specs.Inner.Parts.{lines_of}
use Rattle.shape_dict.specs.Pieces.{entries_in}
use Rattle.shape_dict.proofs.Chunked.{are_made, if_ok_both}
use Rattle.shape_dict.proofs.parts.made_parts.Goals as goal

pub returns : goal.returns
returns g c =
    if_ok_both c.map_chunks.result _ _ _ (λ made count each. are_made c.args.text c.part_length.result c.args.lists.now made.items (Err alloc_error) c.part_length.ensures (search rules)
    (λ n inside. let call = (each n (Err alloc_error) inside).1 in
    subst (λ (chunk : List (Vec Entry Global)). IfOk (get_or made.items n (Err alloc_error)) (λ part. part.items ≡ lines_of c.args.text (entries_in chunk))) call.argument_is.value (let made_call = call.call in search rules)))
    c.map_chunks.ensures.len c.map_chunks.ensures.each

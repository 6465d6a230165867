use Rattle.std.proofs.Common.{inr, arith}
use Rattle.shape_dict.proofs.Known.{more_after}
use Rattle.shape_dict.proofs.reading.read_whole.Goals as goal

pub returns-then-length-bytes-clause-fault : goal.returns-then-length-bytes-clause-fault
returns-then-length-bytes-clause-fault c =
    let found = c.in_ok-dictionary.ensures.found in
    (found.2, inr (rw c.entries.ensures.value (more_after c.args.bytes.now c.in_ok-dictionary.dictionary c.in_ok-dictionary.length found.1 (omega arith))))

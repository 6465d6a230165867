use Rattle.std.proofs.Common.{refl}
use Rattle.std.proofs.lemmas.Result.{err_from_is_err_and}
use Rattle.engine_core.proofs.Runs.{sgf_cause}
use Rattle.engine_core.proofs.boards.first_text.Goals as goal

pub returns-in_err-tree-clause-fault : goal.returns-in_err-tree-clause-fault
returns-in_err-tree-clause-fault c =
    let p = err_from_is_err_and c.from_residual-in_err-tree.result c.from_residual-in_err-tree.ensures.1 in
    rw (p.1, p.2) (sgf_cause c.args.input.now c.in_ok-trees.trees c.in_err-tree.field-0.0 (c.in_ok-trees.ensures.small.0 refl) c.in_ok-trees.ensures.begins c.in_err-tree.ensures.fault)

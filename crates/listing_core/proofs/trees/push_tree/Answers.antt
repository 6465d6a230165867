use Rattle.std.proofs.lemmas.Result.{err_from_is_err_and}
use Rattle.sgf_core.specs.Tree.{main_line_of}
use Rattle.listing_core.proofs.trees.push_tree.Goals as goal

pub returns-in_err-what-clause-wanted : goal.returns-in_err-what-clause-wanted
returns-in_err-what-clause-wanted c = λ game marks.
    let p = err_from_is_err_and c.from_residual.result c.from_residual.ensures.1 in
    rw (p.1, p.2) (c.in_err-what.ensures.wanted (main_line_of game) (c.read_record.ensures.reads game marks))

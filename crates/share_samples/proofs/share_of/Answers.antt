use Rattle.std.proofs.lemmas.Result.{err_from_is_err_and}
use Rattle.share_samples.proofs.share_of.Goals as goal

-- the share that refused the game is the one to show
pub returns-in_err-add-clause-refused : goal.returns-in_err-add-clause-refused
returns-in_err-add-clause-refused g c =
    let p = err_from_is_err_and c.from_residual.result c.from_residual.ensures.1 in
    rw (p.1, p.2, ← c.begin-share.ensures) (c.add.new.self, c.in_err-add.ensures.fault)

use Rattle.std.proofs.Common.{◌≡◌}
use Rattle.shape_core.specs.Word.{kind_of}
use Rattle.shape_core.specs.declared.words.Kind.TheVariants as kind
use Rattle.stream_core.proofs.Sums.{square_more, diamond_more}
use Rattle.stream_core.proofs.progress.Progress.with.Goals as goal

pub returns-in-Square-clause-of : goal.returns-in-Square-clause-of
returns-in-Square-clause-of c = λ entries h.
    let is : kind_of c.args.entry.now.shape ≡ kind.Square = cc in
    rw c.added.ensures (square_more c.args.self entries c.args.entry.now h is)

pub returns-in-Diamond-clause-of : goal.returns-in-Diamond-clause-of
returns-in-Diamond-clause-of c = λ entries h.
    let is : kind_of c.args.entry.now.shape ≡ kind.Diamond = cc in
    rw c.added-in-Diamond.ensures (diamond_more c.args.self entries c.args.entry.now h is)

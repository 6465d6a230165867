use Rattle.std.proofs.Common.{◌≡◌, take, subst, arith, ℕ}
use Rattle.std.specs.Io.KnownBytes.{Consumes}
use Rattle.std.proofs.lemmas.Bool.Decides.{nat_tests}
use Rattle.merge_core.proofs.Within.{ended_at}
use Rattle.merge_core.proofs.pieces.ends_at.Goals as goal

pub returns : goal.returns
returns g c = λ yes text known.
    let zero : c.in-Ok-read.count ≡ 0 = grind (arith, nat_tests) in
    let r = c.in-Ok-read.ensures.bytes in
    ended_at text c.args.place (g.S.Reader.Read.remaining c.in-Ok.reader) (g.S.Reader.Read.remaining c.read.new.self) (c.in-Ok.ensures text known)
    (subst (λ (n : ℕ). Consumes (g.S.Reader.Read.remaining c.in-Ok.reader) (g.S.Reader.Read.remaining c.read.new.self) (take n c.read.new.buf)) zero r.0) (r.1 zero (omega arith))

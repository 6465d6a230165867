use Rattle.std.proofs.Common.{arith}
use Rattle.merge_core.proofs.Rounded.{printed_at}
use Rattle.merge_core.proofs.printing.Round.lines_at.Goals as goal

pub returns-in-Ok : goal.returns-in-Ok
returns-in-Ok c = λ bytes plan text h.
    printed_at bytes plan text c.args.self.now c.args.n c.index.result.now c.in-Ok.lines c.as_slice.result.now h (omega arith) (omega arith) c.index.ensures c.in-Ok.is c.as_slice.ensures.value

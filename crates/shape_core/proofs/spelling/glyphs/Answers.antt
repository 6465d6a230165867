use Rattle.std.proofs.Common.{arith}
use Rattle.shape_core.proofs.Spelled.{same_glyphs}
use Rattle.shape_core.proofs.spelling.glyphs.Goals as goal

pub returns : goal.returns
returns c = same_glyphs c.args.word c.loop-cell.glyphs c.loop-cell.invariant.0 (λ k h. c.loop-cell.invariant.1 k (omega arith))

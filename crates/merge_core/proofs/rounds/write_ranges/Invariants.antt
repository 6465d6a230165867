use Rattle.merge_core.specs.Inner.Printing.{ArePrinted}
use Rattle.merge_core.specs.Inner.Writing.{IsOutSoFar}
use Rattle.merge_core.proofs.Rounded.{IsOutTo}
use Rattle.merge_core.proofs.rounds.write_ranges.Given as goal

abbrev pub invariant-loop-n : goal.invariant-loop-n
invariant-loop-n g l = record {
  out : IsOutSoFar (g.W.Write.contents l.fn.writer) (g.W.Write.contents l.writer) l.written (IsOutTo (g.S.Sources.bytes l.sources) l.plan l.form l.front.header.items l.n);
  printed : ArePrinted (g.S.Sources.bytes l.sources) l.plan l.form l.round;
}

use Rattle.std.proofs.Common.{List, ℕ}
use Rattle.shape_dict.specs.declared.entries.Entry.{Entry}
use Rattle.merge_core.specs.Inner.Trees.{Yields}
use Rattle.merge_core.specs.Inner.Writing.{IsOutSoFar, HasPushed}
use Rattle.merge_core.proofs.writing.write_lines.Given as goal

abbrev pub invariant-loop-place : goal.invariant-loop-place
invariant-loop-place g l =
    IsOutSoFar (g.W.Write.contents l.fn.writer) (g.W.Write.contents l.writer) l.written
    (λ (done : List ℕ). (all : List Entry) → Yields g.E.Entries.yields l.fn.tree all → HasPushed l.form l.fn.pending.items done l.pending.items (Yields g.E.Entries.yields l.tree) all)

use Rattle.std.proofs.Common.{sym, subst, ◌++◌}
use Rattle.merge_core.specs.declared.faults.MergeFault.{MergeFault}
use Rattle.merge_core.specs.Inner.Trees.{Yields}
use Rattle.merge_core.specs.Inner.Writing.{IsStopped, lines_of}
use Rattle.merge_core.proofs.Written.{Known, push_known, block_known, front_known, stopped_known, cut_known, took_cut, whole_known}
use Rattle.merge_core.proofs.writing.write_lines.Goals as goal

pub returns-in-Err-push_entry-clause-known : goal.returns-in-Err-push_entry-clause-known
returns-in-Err-push_entry-clause-known g c =
    front_known (g.W.Write.contents c.args.writer.now) (g.W.Write.contents c.loop-place.writer) c.loop-place.written c.args.form c.args.pending.items (Yields g.E.Entries.yields c.args.tree) (Yields g.E.Entries.yields c.loop-place.tree) c.loop-place.pending.items c.loop-place.invariant

pub returns-then-ne-clause-known : goal.returns-then-ne-clause-known
returns-then-ne-clause-known g c =
    front_known (g.W.Write.contents c.args.writer.now) (g.W.Write.contents c.loop-place.writer) c.loop-place.written c.args.form c.args.pending.items (Yields g.E.Entries.yields c.args.tree) (Yields g.E.Entries.yields c.loop-place.tree) c.loop-place.pending.items c.loop-place.invariant

pub returns-in-None-clause-known : goal.returns-in-None-clause-known
returns-in-None-clause-known g c =
    front_known (g.W.Write.contents c.args.writer.now) (g.W.Write.contents c.loop-place.writer) c.loop-place.written c.args.form c.args.pending.items (Yields g.E.Entries.yields c.args.tree) (Yields g.E.Entries.yields c.loop-place.tree) c.loop-place.pending.items c.loop-place.invariant

pub returns-clause-known : goal.returns-clause-known
returns-clause-known g c =
    front_known (g.W.Write.contents c.args.writer.now) (g.W.Write.contents c.loop-place.writer) c.loop-place.written c.args.form c.args.pending.items (Yields g.E.Entries.yields c.args.tree) (Yields g.E.Entries.yields c.loop-place.tree) c.loop-place.pending.items c.loop-place.invariant

pub returns-in-Err-clause-known : goal.returns-in-Err-clause-known
returns-in-Err-clause-known g c = λ all y.
    let before = g.W.Write.contents c.args.writer.now in
    let after = g.W.Write.contents c.loop-place.writer in
    let bytes = c.args.pending.items ++ lines_of c.args.form all in
    subst (λ (f : MergeFault). IsStopped before after bytes f) (sym c.stopped.ensures)
    (stopped_known before after c.loop-place.written bytes c.in-Err.fault
    (front_known before after c.loop-place.written c.args.form c.args.pending.items (Yields g.E.Entries.yields c.args.tree) (Yields g.E.Entries.yields c.loop-place.tree) c.loop-place.pending.items c.loop-place.invariant all y))

pub returns-in-Err-write_block-clause-took : goal.returns-in-Err-write_block-clause-took
returns-in-Err-write_block-clause-took g c =
    let next = rw c.in-Ok-Some.field-0-is at c.in-Ok-Some.ensures in
    let before = g.W.Write.contents c.args.writer.now in
    let between = g.W.Write.contents c.loop-place.writer in
    let pushed = push_known before between c.loop-place.written c.args.form c.args.pending.items (Yields g.E.Entries.yields c.args.tree) (Yields g.E.Entries.yields c.loop-place.tree) (Yields g.E.Entries.yields c.next_of.new.tree)
    c.loop-place.pending.items c.push_entry.new.out.items c.in-Ok-Some.entry c.loop-place.invariant next.next c.in-Ok.ensures.line in
    took_cut before between (g.W.Write.contents c.write_block.new.writer) c.loop-place.written (Known c.args.form c.args.pending.items (Yields g.E.Entries.yields c.args.tree) (Yields g.E.Entries.yields c.next_of.new.tree) c.push_entry.new.out.items)
    c.push_entry.new.out.items c.in-Err-write_block.fault pushed c.in-Err-write_block.ensures.err

pub returns-in-Err-write_block-clause-known : goal.returns-in-Err-write_block-clause-known
returns-in-Err-write_block-clause-known g c =
    let next = rw c.in-Ok-Some.field-0-is at c.in-Ok-Some.ensures in
    let before = g.W.Write.contents c.args.writer.now in
    let between = g.W.Write.contents c.loop-place.writer in
    let pushed = push_known before between c.loop-place.written c.args.form c.args.pending.items (Yields g.E.Entries.yields c.args.tree) (Yields g.E.Entries.yields c.loop-place.tree) (Yields g.E.Entries.yields c.next_of.new.tree)
    c.loop-place.pending.items c.push_entry.new.out.items c.in-Ok-Some.entry c.loop-place.invariant next.next c.in-Ok.ensures.line in
    cut_known before between (g.W.Write.contents c.write_block.new.writer) c.loop-place.written c.args.form c.args.pending.items (Yields g.E.Entries.yields c.args.tree) (Yields g.E.Entries.yields c.next_of.new.tree)
    c.push_entry.new.out.items c.in-Err-write_block.fault pushed c.in-Err-write_block.ensures.err

pub loop-place-preserved : goal.loop-place-preserved
loop-place-preserved g c =
    let next = rw c.in-Ok-Some.field-0-is at c.in-Ok-Some.ensures in
    let before = g.W.Write.contents c.args.writer.now in
    let between = g.W.Write.contents c.loop-place.writer in
    let pushed = push_known before between c.loop-place.written c.args.form c.args.pending.items (Yields g.E.Entries.yields c.args.tree) (Yields g.E.Entries.yields c.loop-place.tree) (Yields g.E.Entries.yields c.next_of.new.tree)
    c.loop-place.pending.items c.push_entry.new.out.items c.in-Ok-Some.entry c.loop-place.invariant next.next c.in-Ok.ensures.line in
    block_known before between (g.W.Write.contents c.write_block.new.writer) c.loop-place.written c.in-Ok-write_block.count c.args.form c.args.pending.items (Yields g.E.Entries.yields c.args.tree) (Yields g.E.Entries.yields c.next_of.new.tree)
    c.push_entry.new.out.items c.write_block.new.pending.items pushed c.in-Ok-write_block.ensures.ok

pub returns-in-Err-write_pending-clause-took : goal.returns-in-Err-write_pending-clause-took
returns-in-Err-write_pending-clause-took g c =
    took_cut (g.W.Write.contents c.args.writer.now) (g.W.Write.contents c.loop-place.writer) (g.W.Write.contents c.write_pending.new.writer) c.loop-place.written (Known c.args.form c.args.pending.items (Yields g.E.Entries.yields c.args.tree) (Yields g.E.Entries.yields c.loop-place.tree) c.loop-place.pending.items)
    c.loop-place.pending.items c.in-Err-write_pending.fault c.loop-place.invariant c.in-Err-write_pending.ensures.err

pub returns-in-Err-write_pending-clause-known : goal.returns-in-Err-write_pending-clause-known
returns-in-Err-write_pending-clause-known g c =
    cut_known (g.W.Write.contents c.args.writer.now) (g.W.Write.contents c.loop-place.writer) (g.W.Write.contents c.write_pending.new.writer) c.loop-place.written c.args.form c.args.pending.items (Yields g.E.Entries.yields c.args.tree) (Yields g.E.Entries.yields c.loop-place.tree)
    c.loop-place.pending.items c.in-Err-write_pending.fault c.loop-place.invariant c.in-Err-write_pending.ensures.err

pub returns-in-Ok-write_pending-clause-known : goal.returns-in-Ok-write_pending-clause-known
returns-in-Ok-write_pending-clause-known g c =
    let end = rw c.in-Ok-None.field-0-is at c.in-Ok-None.ensures in
    whole_known (g.W.Write.contents c.args.writer.now) (g.W.Write.contents c.loop-place.writer) (g.W.Write.contents c.write_pending.new.writer) c.loop-place.written c.in-Ok-write_pending.field-0 c.args.form c.args.pending.items (Yields g.E.Entries.yields c.args.tree) (Yields g.E.Entries.yields c.loop-place.tree)
    c.loop-place.pending.items c.write_pending.new.pending.items c.loop-place.invariant c.in-Ok-write_pending.ensures.ok c.in-Ok-write_pending.ensures.all end.next

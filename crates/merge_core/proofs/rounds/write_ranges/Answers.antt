use Rattle.std.proofs.Common.{◌+◌, ◌<◌, ◌≤◌, ◌++◌, length, ap, sym, subst, arith}
use Rattle.merge_core.specs.declared.entries.NextFault.TheVariants as next_fault
use Rattle.merge_core.specs.declared.faults.MergeFault.{MergeFault}
use Rattle.merge_core.specs.declared.printing.Round.{Round}
use Rattle.merge_core.specs.Inner.Printing.{ArePrinted}
use Rattle.merge_core.specs.Inner.Ranges.{all_of}
use Rattle.merge_core.specs.Inner.Writing.{IsStopped, lines_of}
use Rattle.merge_core.proofs.Written.{took_cut}
use Rattle.merge_core.proofs.Rounded.{IsOutTo, range_out, range_stopped, range_cut, all_out}
use Rattle.merge_core.proofs.rounds.write_ranges.Goals as goal
use Rattle.merge_core.proofs.rounds.write_ranges.Goals.{then-n-threads-eq0+in-Ok-print_round, else-n-threads-eq0}

pub returns-in-Err-print_round-clause-known : goal.returns-in-Err-print_round-clause-known
returns-in-Err-print_round-clause-known g c = λ parts are number inputs known all.
    let before = g.W.Write.contents c.args.writer.now in
    let after = g.W.Write.contents c.loop-n.writer in
    subst (λ (f : MergeFault). IsStopped before after (c.args.front.now.header.items ++ lines_of c.args.form (all_of parts)) f) (sym c.stopped.ensures)
    (range_stopped (g.S.Sources.bytes c.args.sources.now) c.args.plan.now c.args.form c.args.front.now.header.items before after c.loop-n.written c.loop-n.n c.in-Err-print_round.fault c.loop-n.invariant.out parts are number inputs known all)

pub returns-in-Err-lines_at-clause-known : goal.returns-in-Err-lines_at-clause-known
returns-in-Err-lines_at-clause-known g c = λ parts are number inputs known all.
    let before = g.W.Write.contents c.args.writer.now in
    let after = g.W.Write.contents c.loop-n.writer in
    subst (λ (f : MergeFault). IsStopped before after (c.args.front.now.header.items ++ lines_of c.args.form (all_of parts)) f) (sym c.stopped-in-Err-lines_at.ensures)
    (range_stopped (g.S.Sources.bytes c.args.sources.now) c.args.plan.now c.args.form c.args.front.now.header.items before after c.loop-n.written c.loop-n.n c.in-Err-lines_at.fault c.loop-n.invariant.out parts are number inputs known all)

pub returns-then-patterns-front-clause-known : goal.returns-then-patterns-front-clause-known
returns-then-patterns-front-clause-known g c = λ parts are number inputs known all.
    let before = g.W.Write.contents c.args.writer.now in
    let after = g.W.Write.contents c.loop-n.writer in
    subst (λ (f : MergeFault). IsStopped before after (c.args.front.now.header.items ++ lines_of c.args.form (all_of parts)) f) (sym c.stopped-then-patterns-front.ensures)
    (range_stopped (g.S.Sources.bytes c.args.sources.now) c.args.plan.now c.args.form c.args.front.now.header.items before after c.loop-n.written c.loop-n.n next_fault.Changed c.loop-n.invariant.out parts are number inputs known all)

pub returns-in-Err-write_more-clause-took : goal.returns-in-Err-write_more-clause-took
returns-in-Err-write_more-clause-took g c =
    took_cut (g.W.Write.contents c.args.writer.now) (g.W.Write.contents c.loop-n.writer) (g.W.Write.contents c.write_more-in-loop-n.new.writer) c.loop-n.written
    (IsOutTo (g.S.Sources.bytes c.args.sources.now) c.args.plan.now c.args.form c.args.front.now.header.items c.loop-n.n) c.in-Ok-lines_at.lines.now c.in-Err-write_more.fault c.loop-n.invariant.out c.in-Err-write_more.ensures.err

pub returns-in-Err-write_more-clause-known : goal.returns-in-Err-write_more-clause-known
returns-in-Err-write_more-clause-known g c = λ parts are number inputs known all.
    let bytes = g.S.Sources.bytes c.args.sources.now in
    let plan = c.args.plan.now in
    let text = c.args.form in
    let printed : ArePrinted bytes plan text c.if-n-threads-eq0.round = elim c.if-n-threads-eq0.branch [
      | then-n-threads-eq0+in-Ok-print_round w ↦ subst (λ (r : Round). ArePrinted bytes plan text r) (sym w.round-is) w.in-Ok-print_round.ensures
      | else-n-threads-eq0 w ↦ subst (λ (r : Round). ArePrinted bytes plan text r) (sym w.round-is) c.loop-n.invariant.printed
    ] in
    let few : c.loop-n.n + 1 < length plan.cuts.items = omega (arith, ap length c.as_slice-cuts.ensures.value) in
    range_cut bytes plan text c.args.front.now.header.items c.in-Ok-lines_at.lines.now (g.W.Write.contents c.args.writer.now) (g.W.Write.contents c.loop-n.writer) (g.W.Write.contents c.write_more-in-loop-n.new.writer) c.loop-n.written c.loop-n.n
    c.in-Err-write_more.fault few c.loop-n.invariant.out (c.in-Ok-lines_at.ensures bytes plan text printed) c.in-Err-write_more.ensures.err parts are number inputs known all

pub loop-n-preserved : goal.loop-n-preserved
loop-n-preserved g c =
    let bytes = g.S.Sources.bytes c.args.sources.now in
    let plan = c.args.plan.now in
    let text = c.args.form in
    let printed : ArePrinted bytes plan text c.if-n-threads-eq0.round = elim c.if-n-threads-eq0.branch [
      | then-n-threads-eq0+in-Ok-print_round w ↦ subst (λ (r : Round). ArePrinted bytes plan text r) (sym w.round-is) w.in-Ok-print_round.ensures
      | else-n-threads-eq0 w ↦ subst (λ (r : Round). ArePrinted bytes plan text r) (sym w.round-is) c.loop-n.invariant.printed
    ] in
    let few : c.loop-n.n + 1 < length plan.cuts.items = omega (arith, ap length c.as_slice-cuts.ensures.value) in
    record {
      out = range_out bytes plan text c.args.front.now.header.items c.in-Ok-lines_at.lines.now (g.W.Write.contents c.args.writer.now) (g.W.Write.contents c.loop-n.writer) (g.W.Write.contents c.write_more-in-loop-n.new.writer) c.loop-n.written
          c.in-Ok-write_more.count c.loop-n.n few c.loop-n.invariant.out (c.in-Ok-lines_at.ensures bytes plan text printed) c.in-Ok-write_more.ensures.count c.in-Ok-write_more.ensures.out;
      printed = printed;
    }

pub returns-clause-known : goal.returns-clause-known
returns-clause-known g c =
    let plan = c.args.plan.now in
    let few : length plan.cuts.items ≤ c.loop-n.n + 1 = omega (arith, ap length c.as_slice-cuts.ensures.value) in
    all_out (g.S.Sources.bytes c.args.sources.now) plan c.args.form c.args.front.now.header.items (g.W.Write.contents c.args.writer.now) (g.W.Write.contents c.loop-n.writer) c.loop-n.written c.loop-n.n few c.loop-n.invariant.out

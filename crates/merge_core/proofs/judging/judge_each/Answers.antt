use Rattle.std.proofs.Common.{arith, take}
use Rattle.merge_core.proofs.Prefixed.{first_failed, first_judged, nth_input, known_at, fault_next, judged_next}
use Rattle.merge_core.proofs.judging.judge_each.Goals as goal

pub returns-in-Err-clause-first : goal.returns-in-Err-clause-first
returns-in-Err-clause-first g c = λ inputs are number.
    first_failed (g.S.Sources.bytes c.args.sources.now) c.in-Err.fault inputs are (omega (arith, number, c.requires.some)) c.in-Err.ensures.judged

pub loop-n-init : goal.loop-n-init
loop-n-init g c = λ inputs are number.
    first_judged (g.S.Sources.bytes c.args.sources.now) c.in-Ok.first inputs are (omega (arith, number, c.requires.some)) c.in-Ok.ensures.judged

pub returns-in-Err-judge_next-clause-first : goal.returns-in-Err-judge_next-clause-first
returns-in-Err-judge_next-clause-first g c = λ inputs are number.
    let bytes = g.S.Sources.bytes c.args.sources.now in
    let s = nth_input bytes 0 c.loop-n.n inputs are (omega (arith, number, c.loop-n-test.true)) in
    fault_next bytes c.loop-n.n inputs s c.in-Err-judge_next.fault
    (c.in-Err-judge_next.ensures.judged (take c.loop-n.n inputs) s.input (c.loop-n.invariant inputs are number) (known_at bytes c.loop-n.n inputs s))

pub loop-n-preserved : goal.loop-n-preserved
loop-n-preserved g c = λ inputs are number.
    let bytes = g.S.Sources.bytes c.args.sources.now in
    let s = nth_input bytes 0 c.loop-n.n inputs are (omega (arith, number, c.loop-n-test.true)) in
    judged_next bytes c.loop-n.n c.in-Ok-judge_next.both inputs s
    (c.in-Ok-judge_next.ensures.judged (take c.loop-n.n inputs) s.input (c.loop-n.invariant inputs are number) (known_at bytes c.loop-n.n inputs s))

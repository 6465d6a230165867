use Rattle.merge_core.proofs.Prefixed.{own_fault, both_fault, judged_more, judged_counted, large_fault}
use Rattle.merge_core.proofs.judging.judge_next.Goals as goal

pub returns-in-Err-clause-judged : goal.returns-in-Err-clause-judged
returns-in-Err-clause-judged g c = λ inputs input h known.
    own_fault (g.S.Sources.bytes c.args.sources.now) c.args.n c.args.before inputs input c.in-Err.fault h (c.in-Err.ensures.judged input known)

pub returns-in-Err-both_of-clause-judged : goal.returns-in-Err-both_of-clause-judged
returns-in-Err-both_of-clause-judged g c = λ inputs input h known.
    both_fault (g.S.Sources.bytes c.args.sources.now) c.args.n c.args.before c.in-Ok.next inputs input c.in-Err-both_of.fault h (c.in-Ok.ensures.judged input known) c.in-Err-both_of.ensures.fault

pub returns-then-both-lt18446744073709551615-clause-judged : goal.returns-then-both-lt18446744073709551615-clause-judged
returns-then-both-lt18446744073709551615-clause-judged g c = λ inputs input h known.
    judged_more (g.S.Sources.bytes c.args.sources.now) c.args.n c.args.before c.in-Ok.next c.in-Ok-both_of.both inputs input h (c.in-Ok.ensures.judged input known) c.in-Ok-both_of.ensures.ok known c.if-both-lt18446744073709551615.true

pub returns-in-Ok-count_join-clause-judged : goal.returns-in-Ok-count_join-clause-judged
returns-in-Ok-count_join-clause-judged g c = λ inputs input h known.
    judged_counted (g.S.Sources.bytes c.args.sources.now) c.args.n c.args.before c.in-Ok.next c.in-Ok-both_of.both c.in-Ok-count_join.field-0.1 inputs input h (c.in-Ok.ensures.judged input known) c.in-Ok-both_of.ensures.ok known c.in-Ok-count_join.ensures.known

pub returns-in-Err-Overflow-clause-judged : goal.returns-in-Err-Overflow-clause-judged
returns-in-Err-Overflow-clause-judged g c = λ inputs input h known.
    large_fault (g.S.Sources.bytes c.args.sources.now) c.args.n c.args.before c.in-Ok.next c.in-Ok-both_of.both inputs input h (c.in-Ok.ensures.judged input known) c.in-Ok-both_of.ensures.ok known
    (rw c.in-Err-Overflow.field-0-is at c.in-Err-Overflow.ensures.known)

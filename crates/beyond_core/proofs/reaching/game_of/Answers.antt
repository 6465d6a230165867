use Rattle.std.proofs.Common.{ℕ, List, sym, subst, arith}
use Rattle.beyond_core.specs.Inner.TooMany.{AreCounts}
use Rattle.beyond_core.proofs.Reached.{none_before, one_more}
use Rattle.beyond_core.proofs.reaching.game_of.Goals as goal

pub loop-game-init : goal.loop-game-init
loop-game-init c = record { before = sym (none_before c.args.dictionary.now.entries); few = omega arith }

pub returns-then-count-most-clause-more : goal.returns-then-count-most-clause-more
returns-then-count-most-clause-more c =
    let es = c.args.dictionary.now.entries in
    let counts = c.as_slice-count-items.result.now in
    let are = subst (λ (l : List ℕ). AreCounts l es) (sym c.as_slice-count-items.ensures.value) c.in_ok-counts.ensures.counted in
    let next = one_more c.loop-game.before c.loop-game.game counts es are c.loop-game-test.true c.loop-game.invariant.before in
    omega (arith, next, c.if-count-most.true, c.loop-game.invariant.few)

pub loop-game-preserved : goal.loop-game-preserved
loop-game-preserved c =
    let es = c.args.dictionary.now.entries in
    let counts = c.as_slice-count-items.result.now in
    let are = subst (λ (l : List ℕ). AreCounts l es) (sym c.as_slice-count-items.ensures.value) c.in_ok-counts.ensures.counted in
    let next = one_more c.loop-game.before c.loop-game.game counts es are c.loop-game-test.true c.loop-game.invariant.before in
    record { before = sym next; few = omega (arith, c.if-count-most.false, c.loop-game.invariant.few) }

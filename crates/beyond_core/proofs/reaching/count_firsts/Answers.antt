use Rattle.std.proofs.Common.{◌+◌, ◌<◌, length, sym, ◌∙◌, arith}
use Rattle.std.proofs.lemmas.List.{length-drop}
use Rattle.beyond_core.specs.Inner.TooMany.{is_game}
use Rattle.beyond_core.proofs.Reached.{IsCounted, new_next, one_at_most, raised, passed}
use Rattle.beyond_core.proofs.reaching.count_firsts.Goals as goal
use Rattle.beyond_core.proofs.reaching.count_firsts.Goals.{then-game-counts, else-game-counts}

pub loop-entry-preserved : goal.loop-entry-preserved
loop-entry-preserved c =
    let counts = c.loop-entry.counts in
    let k = c.loop-entry.entry-index in
    let e = c.entry-item.result in
    let es = c.args.entries.now in
    let inside = c.loop-entry-test.true in
    let is = c.entry-item.is in
    let known = sym c.get.ensures ∙ c.in-Some.is in
    let one : IsCounted counts c.if-game-counts.counts e.first = elim c.if-game-counts.branch [
      | then-game-counts w ↦ raised counts c.if-game-counts.counts c.in-Some.game e.first known w.if-game-counts.true w.counts-is
      | else-game-counts w ↦ passed counts c.if-game-counts.counts c.in-Some.game e.first known w.if-game-counts.false w.counts-is
    ] in
    let long = c.loop-entry.invariant.long in
    record {
      long = one.0 ∙ long;
      few = λ i within.
          let had : i < length counts = omega (arith, one.0, within) in
          omega (arith, one.1 i had, one_at_most (is_game i e.first), c.loop-entry.invariant.few i had, length-drop k es, length-drop (k + 1) es, inside);
      left = λ i within.
          let had : i < length counts = omega (arith, one.0, within) in
          omega (arith, one.1 i had, new_next i k e es is inside, c.loop-entry.invariant.left i had);
    }

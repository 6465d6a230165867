use Rattle.std.proofs.Common.{◌≡◌, ◌<◌, false, get_or, length, sym, subst, ◌∙◌, arith}
use Rattle.table_shares.proofs.Common.{get_or_default, nat_tests, times_of, IsLeastDouble}
use Rattle.table_shares.proofs.Covered.{once_each}
use borrow.Author.Count.{below_more}
use Rattle.table_shares.proofs.covering.judge.Goals as goal

pub loop-game-preserved : goal.loop-game-preserved
loop-game-preserved c list h =
    let games = c.args.seen.now.games.items in
    let inside : c.loop-game.game < length games = (let long = c.requires in omega arith) in
    below_more (λ game. times_of list game ≡ 1) c.loop-game.game (c.loop-game.invariant list h)
    (once_each list c.args.seen.now c.loop-game.game inside h c.in_default.is
    (get_or_default games c.loop-game.game false c.index.result.now inside ∙ sym c.index.ensures ∙ c.if-not-index.false))

pub returns-then-not-index-clause-fault : goal.returns-then-not-index-clause-fault
returns-then-not-index-clause-fault c list h =
    let game = c.loop-game.game in
    let games = c.args.seen.now.games.items in
    let inside : game < length games = (let long = c.requires in omega arith) in
    let read : get_or games game false ≡ false =
    get_or_default games game false c.index.result.now inside ∙ sym c.index.ensures ∙ c.if-not-index.true in
    record {
      once = subst (IsLeastDouble list) c.in_default.is h.least;
      within = c.loop-game-test.true;
      none = Prim.grind (arith, nat_tests, read, h.each game inside);
      least = c.loop-game.invariant list h;
    }

pub returns-clause-ok : goal.returns-clause-ok
returns-clause-ok c list h game low = c.loop-game.invariant list h game (omega (arith, low, c.loop-game-test.false))

use Rattle.std.proofs.Common.{◌∷◌, [], ◌++◌, ◌∙◌, inl, inr, refl, ap, sym, subst, take, drop, drop_of_length-le, MatchBool, List}
use Rattle.std.proofs.lemmas.List.{take_more, take-append-drop}
use Rattle.hits_core.specs.declared.games.Game.{Game}
use Rattle.hits_core.specs.Inner.Finding.{IsFull}
use Rattle.hits_core.proofs.Joining.{HasFound, found-none, found-on, found-part}
use Rattle.hits_core.proofs.finding.find_in.Goals as goal

pub loop-game-init : goal.loop-game-init
loop-game-init c = found-none c.args.sought c.args.wanted.now c.args.most (record { hits = c.new.result; most = c.args.most }) refl c.new.ensures.items

pub returns-then-is_full-clause-part : goal.returns-then-is_full-clause-part
returns-then-is_full-clause-part c =
    let all = c.args.games.now in
    let i = c.loop-game.game-index in
    let found = c.loop-game.found in
    let full : IsFull found.most found.hits.items = subst (λ b. MatchBool b (IsFull found.most found.hits.items) (IsFull found.most found.hits.items → ⊥)) c.if-is_full.true c.is_full.ensures in
    found-part c.args.sought c.args.wanted.now c.args.most all (take i all) (drop i all) found (sym (take-append-drop i all)) c.loop-game.invariant (inr full)

pub loop-game-preserved : goal.loop-game-preserved
loop-game-preserved c =
    let all = c.args.games.now in
    let i = c.loop-game.game-index in
    let game = c.game-item.result in
    let front = take_more all i game c.loop-game-test.true ∙ ap (λ (g : Game). take i all ++ g ∷ []) (sym c.game-item.is) in
    subst (λ (games : List Game). HasFound c.args.sought c.args.wanted.now c.args.most games c.find_one.new.found) (sym front)
    (found-on c.args.sought c.args.wanted.now c.args.most (take i all) game c.loop-game.found c.find_one.new.found c.loop-game.invariant c.in_ok-find_one.ensures.grown)

pub returns-clause-part : goal.returns-clause-part
returns-clause-part c =
    let all = c.args.games.now in
    let i = c.loop-game.game-index in
    found-part c.args.sought c.args.wanted.now c.args.most all (take i all) (drop i all) c.loop-game.found (sym (take-append-drop i all)) c.loop-game.invariant (inl (drop_of_length-le all c.loop-game-test.false))

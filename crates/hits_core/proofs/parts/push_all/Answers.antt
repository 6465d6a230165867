use Rattle.std.proofs.Common.{◌∙◌, [], ◌∷◌, ◌++◌, take, ap, sym, subst, take_all}
use Rattle.std.proofs.lemmas.List.{take_more}
use Rattle.hits_core.specs.declared.hits.Hit.{Hit}
use Rattle.hits_core.specs.Inner.Finding.{GrowsBy}
use Rattle.hits_core.proofs.Growing.{grows-none, grows-on}
use Rattle.hits_core.proofs.parts.push_all.Goals as goal

pub loop-hit-init : goal.loop-hit-init
loop-hit-init c = grows-none c.args.found.now

pub loop-hit-preserved : goal.loop-hit-preserved
loop-hit-preserved c =
    let all = c.args.hits.now in
    let i = c.loop-hit.hit-index in
    let hit = c.hit-item.result in
    let front = take_more all i hit c.loop-hit-test.true ∙ ap (λ (h : Hit). take i all ++ h ∷ []) (sym c.hit-item.is) in
    subst (GrowsBy c.args.found.now c.push.new.self) (sym front)
    (grows-on c.args.found.now c.loop-hit.found c.push.new.self (take i all) (hit ∷ []) c.loop-hit.invariant c.in_ok-push.ensures.grown)

pub returns-clause-grown : goal.returns-clause-grown
returns-clause-grown c =
    subst (GrowsBy c.args.found.now c.loop-hit.found) (take_all c.loop-hit.hit-index c.args.hits.now c.loop-hit-test.false) c.loop-hit.invariant

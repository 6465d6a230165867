use Rattle.std.proofs.Common.{◌≡◌, ◌^◌, ℕ, arith, ap, ◌∙◌, slice_index_or}
use Rattle.probe_core.specs.Machine.{Machine, place_in, place_wanted, follows}
use Rattle.probe_core.specs.Inner.Machine.{words_wanted}
use Rattle.probe_core.specs.Turn.{turn_of}
use Rattle.probe_core.proofs.Taking.{wanted_place, wanted_words}
use Rattle.probe_core.proofs.steps.advance.Goals as goal

pub take_step-held-requires : goal.take_step-held-requires
take_step-held-requires g c =
    let m : Machine = c.args.probe.machine
    in let p : ℕ = place_in (g.O.ProbeOrder.place_of c.args.probe.order) m
    in let same : place_wanted c.wants.result ≡ p = ap place_wanted c.wants.ensures.step ∙ wanted_place m.call m.index m.swaps p
    in omega (arith, same, c.requires)

pub returns-clause-words : goal.returns-clause-words
returns-clause-words g c =
    let m : Machine = c.args.probe.machine
    in let p : ℕ = place_in (g.O.ProbeOrder.place_of c.args.probe.order) m
    in c.take_step-held.ensures.words ∙ ap (λ w. words_wanted c.args.words.now w) c.wants.ensures.step
    ∙ wanted_words c.args.words.now m.call m.index m.swaps p

pub returns-clause-turn : goal.returns-clause-turn
returns-clause-turn g c =
    let m : Machine = c.args.probe.machine
    in let p : ℕ = place_in (g.O.ProbeOrder.place_of c.args.probe.order) m
    in let same : place_wanted c.wants.result ≡ p = ap place_wanted c.wants.ensures.step ∙ wanted_place m.call m.index m.swaps p
    in let held : c.take_step-held.result ≡ slice_index_or c.args.words.now p 0 =
    c.take_step-held.ensures.held ∙ ap (λ q. slice_index_or c.args.words.now q 0) same
    in c.told.ensures.turn ∙ ap (λ w. turn_of c.args.probe.order (follows (2 ^ g.O.ProbeOrder.exponent c.args.probe.order) m p w)) held

use Rattle.std.proofs.Common.{◌∷◌, [], refl, sym, ◌∙◌}
use Rattle.slot_table.specs.declared.entries.Happened.TheVariants as call
use Rattle.gather_core.proofs.Common.{IsMarkAt}
use Rattle.gather_core.proofs.Calls.{calls_through}
use Rattle.gather_core.proofs.marking.mark_first.Goals as goal

pub returns-then-not-is_early-clause-marks : goal.returns-then-not-is_early-clause-marks
returns-then-not-is_early-clause-marks g c =
    calls_through c.args.table.now.slots (λ _ _. ⊥) (IsMarkAt c.args.number c.args.game) c.args.pass.now c.first.new.pass c.mark.new.pass
    (record { made = call.First c.args.number c.first.result ∷ []; later = c.first.ensures.later; only = (tt, tt) })
    (record { made = call.Marked c.args.number c.in-Some.game ∷ []; later = c.mark.ensures.later; only = ((refl, sym c.get.ensures ∙ c.in-Some.is), tt) })

-- A reader's endpoint and its games, from one game to the next, and what a worker draws in one call.
use Rattle.std.proofs.Common.{◌≡◌, ℕ, suc, List, [], ◌∷◌, ◌++◌, sym, subst, ◌∙◌, ap, arith, append_assoc}
use Rattle.job_core.specs.declared.knowledge.Knowledge.{Knowledge}
use Rattle.job_core.specs.declared.items.Item.TheVariants.{Job}
use Rattle.game_core.specs.Games.{WrittenGame}
use Rattle.game_core.specs.Reading.{Reading, IsNextGame}
use Rattle.job_core.specs.Rising.{Rising, past}
use Rattle.job_core.specs.Rule.{putting, Draws}
use Rattle.job_core.specs.Inner.Rule.{IsInStep}
use Rattle.job_core.proofs.Orders.{past_on, rising_end, rising_down}

-- the next game was put
pub in_step_put : (before after : Reading) (v w : Knowledge) (job : WrittenGame) → after.bytes ≡ before.bytes → IsInStep before v → IsNextGame before after job → w ≡ putting v (Job job) → IsInStep after w
in_step_put before after v w job same h next is = subst (λ (u : Knowledge). IsInStep after u) (sym is) (h.0, same ∙ h.1, omega (arith, past_on v.put job.game, next.game, next.counted), h.3)

-- the next game came back
pub in_step_back : (before after : Reading) (v : Knowledge) (job : WrittenGame) → after.bytes ≡ before.bytes → IsInStep before v → IsNextGame before after job → IsInStep after v
in_step_back before after v job same h next = (h.0, same ∙ h.1, omega (arith, h.2, next.counted), h.3)

-- the games that were drawn in one call rise, and the next one too, whatever was drawn before it
pub drawn_rises : (v : Knowledge) (before drawn : List ℕ) (job : WrittenGame) → v.drawn ≡ before ++ drawn → Draws v (Job job) → Rising 0 (drawn ++ job.game ∷ []) (suc job.game)
drawn_rises v before drawn job is d =
    let all : Rising 0 (before ++ (drawn ++ job.game ∷ [])) (suc job.game) = subst (λ games. Rising 0 games (suc job.game)) (ap (λ games. games ++ job.game ∷ []) is ∙ append_assoc before drawn (job.game ∷ [])) d.1 in
    rising_down 0 (past before) (drawn ++ job.game ∷ []) (suc job.game) (omega arith) (rising_end 0 (suc job.game) before (drawn ++ job.game ∷ []) all)

-- Patterns that are counted one after another.
use Rattle.std.proofs.Common.{◌≡◌, ℕ, zero, suc, ◌+◌, ◌<◌, ◌≤◌, ◌==◌, true, false, List, ◌++◌, Option, Some, None, refl, ap, ap₂, sym, ◌∙◌, cond, arith, subst, zero-add, add-zero, add_assoc}
use Rattle.std.proofs.lemmas.Bool.Decides.{nat_tests}
use Rattle.plain_core.specs.Inner.Count.{Count}
use Rattle.tally_core.specs.declared.faults.TallyFault.{TallyFault}
use Rattle.tally_core.specs.declared.faults.TallyFault.TheVariants as fault
use Rattle.plain_core.specs.Inner.Counter.{first_used, used_again, used, uses_at, AreCounts, IsCountingFault}
use Rattle.tally_core.specs.Inner.Times.{one_pattern}

pub first_used-some : (game : Option ℕ) (there played : ℕ) → 0 < there + played → first_used game there played ≡ Some (record { there = there; played = played; first = game })
first_used-some game zero zero some = absurd (omega arith)
first_used-some game zero (suc played) some = refl
first_used-some game (suc there) played some = refl

-- used at no occasion more
pub again-none : (game : Option ℕ) (old : Option Count) → used_again game 0 0 old ≡ old
again-none game None = refl
again-none game (Some count) = ap₂ (λ t p. Some (record count { there = t; played = p })) (add-zero count.there) (add-zero count.played)

-- n times, and then m more
pub again-again : (game : Option ℕ) (there played more_there more_played : ℕ) (old : Option Count) →
    used_again game more_there more_played (used_again game there played old) ≡ used_again game (there + more_there) (played + more_played) old
again-again game there played more_there more_played (Some count) =
    ap₂ (λ t p. Some (record count { there = t; played = p })) (add_assoc count.there there more_there) (add_assoc count.played played more_played)
again-again game zero zero more_there more_played None =
    ap₂ (λ t p. first_used game t p) (sym (zero-add more_there)) (sym (zero-add more_played))
again-again game zero (suc played) more_there more_played None = sym (first_used-some game (zero + more_there) (suc played + more_played) (omega arith))
again-again game (suc there) played more_there more_played None = sym (first_used-some game (suc there + more_there) (played + more_played) (omega arith))

-- a pattern's uses grow by as much as it was used
pub again-uses : (game : Option ℕ) (there played : ℕ) (old : Option Count) → uses_at (used_again game there played old) ≡ uses_at old + there + played
again-uses game zero zero None = refl
again-uses game zero (suc played) None = omega arith
again-uses game (suc there) played None = omega arith
again-uses game there played (Some count) = omega arith

-- a fault of some counts is one of greater counts
pub fault-later : (found : TallyFault) (few most : ℕ) (a b : ℕ → Option Count) → ((shape : ℕ) → uses_at (a shape) + few ≤ uses_at (b shape) + most) →
    IsCountingFault few a found → IsCountingFault most b found
fault-later fault.Memory few most a b h k = k
fault-later fault.Overflow few most a b h k = (k.0, omega (arith, h k.0, k.1))
fault-later (fault.BadSettings) few most a b h k = k
fault-later (fault.Sgf found) few most a b h k = k

-- a pattern was there and was played this often
pub used_one : (game : Option ℕ) (only there played : ℕ) (count : Count) (a b : ℕ → Option Count) → used_again game there played (a only) ≡ Some count →
    ((q : ℕ) → b q ≡ cond (only == q) (Some count) (a q)) → AreCounts (used game (one_pattern only there) (one_pattern only played) a) b
used_one game only there played count a b is updated q =
    elim (only == q) as (λ t. (only == q) ≡ t → b q ≡ used_again game (cond t there 0) (cond t played 0) (a q)) [
      | true ↦ λ same.
          updated q ∙ ap (λ t. cond t (Some count) (a q)) same
          ∙ sym is ∙ ap (λ p. used_again game there played (a p)) (Prim.grind (arith, nat_tests))
      | false ↦ λ other. updated q ∙ ap (λ t. cond t (Some count) (a q)) other ∙ sym (again-none game (a q))
    ] refl

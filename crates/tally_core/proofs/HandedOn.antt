-- Faults that are handed on.
use Rattle.std.proofs.Common.{◌≡◌, ℕ, ◌≤◌, List, length, sym, subst, arith}
use Rattle.std.specs.Prelude.{Result, Ok, Err, IsErrAnd, IfErr}
use Rattle.sgf_core.specs.Limit.{most_bytes}
use Rattle.go_record.specs.Actions.{Actions}
use Rattle.tally_core.specs.declared.faults.TallyFault.{TallyFault}
use Rattle.tally_core.specs.declared.faults.TallyFault.TheVariants as fault
use Rattle.tally_core.specs.Counted.{IsCountFault}
use Rattle.tally_core.specs.Faults.{IsTallyFault}

-- a fault that is handed on is one of the same
pub passed_up : {T E : Type 0} (r : Result T E) (e : E) (P : E → Type 0) → IsErrAnd r (λ y. y ≡ e) → P e → IfErr r P
passed_up (Ok x) e P is p = tt
passed_up (Err y) e P is p = subst P (sym is) p

-- why a game is not walked is why its input is not counted
pub walk_fault : (bytes : List ℕ) (game : Actions) (found : TallyFault) → length game.actions ≤ most_bytes → IsTallyFault game found → IsCountFault bytes found
walk_fault bytes game fault.Memory few h = tt
walk_fault bytes game fault.Overflow few h = absurd (omega (arith, few, h))
walk_fault bytes game fault.BadSettings few h = absurd h
walk_fault bytes game (fault.Sgf found) few h = absurd h

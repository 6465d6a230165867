-- Why a run has no text: nothing was written.
use Rattle.std.proofs.Common.{◌≡◌, ℕ, List, Option, Some, None, IfSome, refl, subst}
use Rattle.std.specs.Io.KnownBytes.{Keeps}
use Rattle.engine_core.specs.declared.faults.RunFault.{RunFault}
use Rattle.engine_core.specs.declared.faults.RunFault.TheVariants as fault
use Rattle.engine_core.specs.Runs.{input_of, IsRunFault}

kept : (known : Option (List ℕ)) → Keeps known known
kept None = tt
kept (Some bytes) = refl

-- no failed write is the cause
module _ (IsText : List ℕ → List ℕ → Type 0) (IsCause : List ℕ → RunFault → Type 0) where
  of_rest : (rest : Option (List ℕ)) (input : List ℕ) (found : RunFault) → IfSome rest (λ all. input ≡ input_of all) → IsCause input found → IfSome rest (λ all. IsCause (input_of all) found)
  of_rest None input found read h = tt
  of_rest (Some all) input found read h = subst (λ bytes. IsCause bytes found) read h

  pub run_cause : (rest before : Option (List ℕ)) (input : List ℕ) (found : RunFault) → IfSome rest (λ all. input ≡ input_of all) → ((written : ℕ) → IsCause input (fault.Write written) → ⊥) → IsCause input found → IsRunFault IsText IsCause rest before before found
  run_cause rest before input (fault.Harvest cause) read none h = (kept before, of_rest rest input (fault.Harvest cause) read h)
  run_cause rest before input (fault.Dict n cause) read none h = (kept before, of_rest rest input (fault.Dict n cause) read h)
  run_cause rest before input fault.Memory read none h = (kept before, of_rest rest input fault.Memory read h)
  run_cause rest before input (fault.Sgf found) read none h = (kept before, of_rest rest input (fault.Sgf found) read h)
  run_cause rest before input (fault.Record found) read none h = (kept before, of_rest rest input (fault.Record found) read h)
  run_cause rest before input (fault.Board found) read none h = (kept before, of_rest rest input (fault.Board found) read h)
  run_cause rest before input (fault.Glyph found) read none h = (kept before, of_rest rest input (fault.Glyph found) read h)
  run_cause rest before input fault.Usage read none h = (kept before, of_rest rest input fault.Usage read h)
  run_cause rest before input fault.Read read none h = kept before
  run_cause rest before input (fault.Write written) read none h = absurd (none written h)

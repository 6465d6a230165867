-- A run that ends: its whole text is out, or a front of it.
use Rattle.std.proofs.Common.{◌≡◌, ◌≤◌, ℕ, List, length, Option, Some, None, IfSome, subst, sym}
use Rattle.std.specs.Io.KnownBytes.{Appends}
use Rattle.sgf_core.specs.Reading.{Reading, IsFaultOrMemory}
use Rattle.sgf_core.specs.declared.faults.SgfFault.{SgfFault}
use Rattle.sgf_core.specs.declared.faults.SgfFault.TheVariants as sgf
use Rattle.engine_core.specs.declared.faults.RunFault.{RunFault}
use Rattle.engine_core.specs.declared.faults.RunFault.TheVariants as fault
use Rattle.sgf_core.specs.Limit.{most_bytes}
use Rattle.engine_core.specs.Boards.{IsBoardFault}
use Rattle.engine_core.specs.Output.{WroteFront}
use Rattle.engine_core.specs.Runs.{input_of, Wrote, IsRunFault}

pub run_done : (IsText : List ℕ → List ℕ → Type 0) (rest before after : Option (List ℕ)) (input text : List ℕ) →
    IfSome rest (λ all. input ≡ input_of all) → IsText input text → Appends before after text → Wrote IsText rest before after
run_done IsText None before after input text read is out = tt
run_done IsText (Some all) before after input text read is out = (text, subst (λ bytes. IsText bytes text) read is, out)

pub run_stopped : (IsText : List ℕ → List ℕ → Type 0) (IsCause : List ℕ → RunFault → Type 0) (rest before after : Option (List ℕ)) (input text : List ℕ) (found : RunFault) →
    IfSome rest (λ all. input ≡ input_of all) → IsText input text → WroteFront before after text found → IsRunFault IsText IsCause rest before after found
run_stopped IsText IsCause None before after input text found read is front =
    subst (IsRunFault IsText IsCause None before after) (sym front.is_write) tt
run_stopped IsText IsCause (Some all) before after input text found read is front =
    subst (IsRunFault IsText IsCause (Some all) before after) (sym front.is_write)
    (text, subst (λ bytes. IsText bytes text) read is, subst (WroteFront before after text) front.is_write front)

pub sgf_cause : (input : List ℕ) (trees : Reading) (found : SgfFault) → length input ≤ most_bytes → trees ≡ record { bytes = input; from = 0; fault = None } →
    IsFaultOrMemory trees.bytes trees.from found → IsBoardFault input (fault.Sgf found)
sgf_cause input trees (sgf.Truncated at) few same h = (few, subst (λ (r : Reading). IsFaultOrMemory r.bytes r.from (sgf.Truncated at)) same h)
sgf_cause input trees (sgf.BadByte at) few same h = (few, subst (λ (r : Reading). IsFaultOrMemory r.bytes r.from (sgf.BadByte at)) same h)
sgf_cause input trees (sgf.NoValue at) few same h = (few, subst (λ (r : Reading). IsFaultOrMemory r.bytes r.from (sgf.NoValue at)) same h)
sgf_cause input trees sgf.TooLarge few same h = absurd h
sgf_cause input trees sgf.Memory few same h = (few, subst (λ (r : Reading). IsFaultOrMemory r.bytes r.from sgf.Memory) same h)

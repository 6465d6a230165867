-- Calls that ask a table for keys and least games alone.
use Rattle.std.specs.Prelude.{ℕ}
use Rattle.slot_table.specs.Passes.{Known}
use Rattle.gather_core.specs.Entering.{CallsOnly}

-- it entered and marked nothing
abbrev pub AsksOnly : {O : Type 0} → ℕ → Known O → Known O → Type 0
AsksOnly n old new = CallsOnly n (λ _ _. ⊥) (λ _ _. ⊥) old new

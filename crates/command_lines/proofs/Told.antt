-- What the words ask for, by the error that `clap` answers.
use Rattle.std.proofs.Common.{◌≡◌, ◌⊎◌, ◌&&◌, ℕ, Bool, List, true, false, refl, sym, subst, ◌∙◌, inl, inr, ⊎_elim}
use Rattle.clap.specs.Words.{App, IsAmong}
use Rattle.clap.specs.declared.error.kind.ErrorKind.{ErrorKind}
use Rattle.clap.specs.declared.error.kind.ErrorKind.TheVariants as refusal
use Rattle.command_lines.specs.Inner.Kinds.{IsHelpKind}
use Rattle.command_lines.specs.Lines.{AsksForHelp, IsLineFault, IsRefusal, refusals_of}
use Rattle.engine_core.specs.declared.faults.RunFault.{RunFault}
use Rattle.engine_core.specs.declared.faults.RunFault.TheVariants as fault

pub both_first : (a b : Bool) → a && b ≡ true → a ≡ true
both_first true b is = refl
both_first false b is = is

-- a text of help is answered where it was asked for
pub asked_for_help : (app : App) (words : List (List ℕ)) (kind : ErrorKind) → (kind ≡ refusal.OutOfMemory) ⊎ IsAmong kind (refusals_of app words) → IsHelpKind kind →
    AsksForHelp app words
asked_for_help app words kind has is =
    ⊎_elim
    (λ (full : kind ≡ refusal.OutOfMemory). absurd (⊎_elim
    (λ (help : kind ≡ refusal.DisplayHelp). let bad = sym help ∙ full in cc)
    (λ (version : kind ≡ refusal.DisplayVersion). let bad = sym version ∙ full in cc)
    is))
    (λ (among : IsAmong kind (refusals_of app words)). ⊎_elim
    (λ (help : kind ≡ refusal.DisplayHelp). inl (subst (λ k. IsAmong k (refusals_of app words)) help among))
    (λ (version : kind ≡ refusal.DisplayVersion). inr (subst (λ k. IsAmong k (refusals_of app words)) version among))
    is)
    has

-- and U1 where `clap` refuses the words
pub refused : (app : App) (words : List (List ℕ)) (kind : ErrorKind) (found : RunFault) → (kind ≡ refusal.OutOfMemory) ⊎ IsAmong kind (refusals_of app words) →
    (found ≡ fault.Memory) ⊎ ((found ≡ fault.Usage) × IsRefusal kind) → IsLineFault app words found
refused app words kind found has is =
    ⊎_elim
    (λ (memory : found ≡ fault.Memory). inl memory)
    (λ (usage : (found ≡ fault.Usage) × IsRefusal kind). ⊎_elim
    (λ (full : kind ≡ refusal.OutOfMemory). absurd (usage.1.2 full))
    (λ (among : IsAmong kind (refusals_of app words)). inr (usage.0, (kind, among, usage.1)))
    has)
    is

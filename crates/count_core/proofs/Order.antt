-- Which fault of a count comes first.
use Rattle.std.proofs.Common.{◌≡◌, ◌<◌, ◌≤◌, ◌⊎◌, ⊎_elim, inl, inr, ℕ, List, length}
use Rattle.std.proofs.lemmas.Bool.{cases_lt}
use Rattle.sgf_core.specs.Limit.{most_bytes}
use Rattle.sgf_core.specs.declared.faults.SgfFault.TheVariants as sgf
use Rattle.harvest_faults.specs.declared.faults.HarvestFault.{HarvestFault}
use Rattle.harvest_faults.specs.declared.faults.HarvestFault.TheVariants as harvest_fault
use Rattle.count_core.specs.Counts.{ComesFirst}

-- a fault that an input of more than 2 ^ 28 bytes has is this one, or want of memory
pub comes_first : (input : List ℕ) (found : HarvestFault) → (most_bytes < length input → (found ≡ harvest_fault.Memory) ⊎ (found ≡ harvest_fault.Sgf sgf.TooLarge)) → ComesFirst input found
comes_first input found large =
    ⊎_elim
    (λ (more : most_bytes < length input). ⊎_elim
    (λ (memory : found ≡ harvest_fault.Memory). inr (inr memory))
    (λ (over : found ≡ harvest_fault.Sgf sgf.TooLarge). inr (inl over))
    (large more))
    (λ (few : length input ≤ most_bytes). inl few)
    (cases_lt most_bytes (length input))

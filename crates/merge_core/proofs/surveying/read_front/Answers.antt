use Rattle.std.proofs.Common.{◌-◌, length, sym, subst, refl, List, ℕ}
use Rattle.merge_core.specs.Inner.Ranges.{IsWithin}
use Rattle.merge_core.proofs.Surveyed.{front_of}
use Rattle.merge_core.proofs.surveying.read_front.Goals as goal

pub returns : goal.returns
returns g c = λ text known.
    front_of text c.as_slice-front.result.now c.in-Some.rest.now c.in-Some.header c.min.result (length c.as_slice-front.result.now - length c.in-Some.rest.now) c.in-Some.ensures.found.0
    (subst (λ (xs : List ℕ). IsWithin text 0 c.min.result xs) (sym c.as_slice-front.ensures.value) (c.in-Ok-read_bytes.ensures text known)) c.in-Some.ensures.found.1 refl

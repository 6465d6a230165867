-- Why the input has no dictionary that could be asked.
use Rattle.std.proofs.Common.{◌≡◌, ℕ, ◌^◌, ◌≤◌, List, length, refl}
use Rattle.shape_dict.specs.Contents.{Contents}
use Rattle.shape_dict.specs.Reading.{IsTextOf, IsTextFault}
use Rattle.shape_dict.specs.declared.faults.DictFault.{DictFault}
use Rattle.shape_dict.specs.declared.faults.DictFault.TheVariants as dict_fault
use Rattle.engine_core.specs.Finds.{IsFindFault}
use Rattle.engine_core.specs.declared.faults.RunFault.TheVariants as fault

pub find_cause : (input : List ℕ) (found : DictFault) → IsTextFault input found →
    ((contents : Contents) → IsTextOf contents input → length input ≤ 2 ^ 28 → found ≡ dict_fault.Memory) → IsFindFault input (fault.Dict 1 found)
find_cause input dict_fault.Memory stands only = (refl, stands)
find_cause input dict_fault.BadHeader stands only = (refl, stands, λ d text few. absurd (let e = only d text few in cc))
find_cause input (dict_fault.BadLine line) stands only = (refl, stands, λ d text few. absurd (let e = only d text few in cc))
find_cause input (dict_fault.NotRising line) stands only = (refl, stands, λ d text few. absurd (let e = only d text few in cc))
find_cause input (dict_fault.NotCanonical line) stands only = (refl, stands, λ d text few. absurd (let e = only d text few in cc))
find_cause input dict_fault.WrongTotals stands only = (refl, stands, λ d text few. absurd (let e = only d text few in cc))
find_cause input dict_fault.Overflow stands only = absurd stands.1
find_cause input dict_fault.TooLarge stands only = (refl, stands, λ d text few. absurd (let e = only d text few in cc))
find_cause input dict_fault.MixedKinds stands only = absurd stands.1

-- What a binary search finds among entries whose shapes rise.
use Rattle.std.proofs.Common.{◌≡◌, ◌<◌, ◌≤◌, ℕ, List, length, get_or, sym, ap, ◌∙◌, subst, inl, inr, arith, Ok, Err, Some, None}
use Rattle.std.specs.List.Sorted.{IsStrictlyIncreasing, IsBinarySearchResult, IsNonDecreasingBy}
use Rattle.std.specs.Ordering.{nat_cmp, ordering_index}
use Rattle.std.proofs.lemmas.Bool.{cases_lt}
use Rattle.std.proofs.lemmas.Bool.Decides.{nat_tests}
use Rattle.std.proofs.lemmas.Cmp.{ranked}
use Rattle.std.proofs.lemmas.List.Sorted.{IsNonDecreasingBy-from_default}
use Rattle.shape_dict.specs.declared.entries.Entry.{Entry}
use Rattle.shape_dict.specs.Contents.{entry_of}
use Rattle.shape_dict.proofs.Climbing.{shapes_of, climbs_from_rises, shapes_rise, shape_at, found_here, found_none}

none : Entry
none = record { shape = 0; there = 0; played = 0; first = None }

module _ (shape : ℕ) (es : List Entry) (rises : IsStrictlyIncreasing (shapes_of es)) where
  in_order : (i j : ℕ) → i ≤ j → j < length es → (get_or es i none).shape ≤ (get_or es j none).shape
  in_order i j low small = elim (cases_lt i j) [
    | inl below ↦ (let h = shapes_rise 0 es i j (climbs_from_rises es rises) below small in let a = shape_at es i none (omega arith) in let b = shape_at es j none small in omega arith)
    | inr above ↦ (let same : i ≡ j = omega arith in rw same (omega arith))
  ]

  comparisons_rise : IsNonDecreasingBy (λ (e : Entry). ordering_index (nat_cmp e.shape shape)) es
  comparisons_rise = IsNonDecreasingBy-from_default (λ (e : Entry). ordering_index (nat_cmp e.shape shape)) es none (λ i j low small. let h = in_order i j low small in grind (arith, nat_tests))

  pub found_there : (at : ℕ) (e : Entry) → at < length es → IsBinarySearchResult (λ (e : Entry). nat_cmp e.shape shape) es (Ok at) → e ≡ get_or es at e → entry_of shape es ≡ Some e
  found_there at e small equal is =
      let same : (get_or es at e).shape ≡ shape = ranked _ shape _ (sym (equal e)) in
      subst (λ s. entry_of s es ≡ Some e) (ap (λ (x : Entry). x.shape) is ∙ same) (found_here es at e rises small is)

  pub found_nowhere : (at : ℕ) → at ≤ length es → IsBinarySearchResult (λ (e : Entry). nat_cmp e.shape shape) es (Err at) → entry_of shape es ≡ None
  found_nowhere at fits parted = found_none shape es 0 (λ k small.
      let here = shape_at es k none small in
      elim (cases_lt k at) [
        | inl below ↦ (let h : (get_or es k none).shape < shape = ranked _ shape _ (sym ((parted comparisons_rise).0 k none (omega arith) below)) in omega arith)
        | inr above ↦ (let h : shape < (get_or es k none).shape = ranked _ shape _ (sym ((parted comparisons_rise).1 k none above small)) in omega arith)
      ])

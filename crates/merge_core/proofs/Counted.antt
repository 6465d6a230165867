-- Entries that are counted one after another.
use Rattle.std.proofs.Common.{◌≡◌, ℕ, List, [], ◌∷◌, ◌++◌, Option, Some, true, false, refl, sym, ap, subst, ◌∙◌, append_assoc}
use Rattle.std.proofs.lemmas.List.{append-nil}
use Rattle.shape_dict.specs.declared.entries.Entry.{Entry}
use Rattle.merge_core.specs.declared.tallies.Tally.{Tally}
use Rattle.merge_core.specs.Entries.{IsSmallUse, IsNext}
use Rattle.merge_core.specs.Least.{is_kept, kept}
use Rattle.merge_core.specs.Inner.Counting.{HasCounted}
use Rattle.merge_core.specs.Inner.Ranges.{IsCountOf, IsTally}
use Rattle.merge_core.specs.Inner.Tallies.{sum_of}
use Rattle.merge_core.proofs.Kept.{kept_append, kept_one, kept_no_one}
use Rattle.merge_core.proofs.Rising.{all_append}
use Rattle.merge_core.proofs.Tallied.{tally_both}

-- one entry more, which stays
pub stays_counted : (least : Option ℕ) (es : List Entry) (e : Entry) (t next : Tally) → is_kept least e ≡ true → IsSmallUse e →
    ((before : List Entry) → IsTally before t → IsTally (before ++ e ∷ []) next) → IsCountOf least es t → IsCountOf least (es ++ e ∷ []) next
stays_counted least es e t next is small more h = record {
  tallied = subst (λ (xs : List Entry). IsTally xs next) (sym (kept_append least es (e ∷ []) ∙ ap (λ (xs : List Entry). kept least es ++ xs) (kept_one least e is))) (more (kept least es) h.tallied);
  small = all_append IsSmallUse es (e ∷ []) h.small (small, tt);
}

-- and one that is left out
pub left_counted : (least : Option ℕ) (es : List Entry) (e : Entry) (t : Tally) → is_kept least e ≡ false → IsSmallUse e → IsCountOf least es t → IsCountOf least (es ++ e ∷ []) t
left_counted least es e t is small h = record {
  tallied = subst (λ (xs : List Entry). IsTally xs t) (sym (kept_append least es (e ∷ []) ∙ (ap (λ (xs : List Entry). kept least es ++ xs) (kept_no_one least e is) ∙ append-nil (kept least es)))) h.tallied;
  small = all_append IsSmallUse es (e ∷ []) h.small (small, tt);
}

pub both_counted : (least : Option ℕ) (es fs : List Entry) (t u : Tally) → IsCountOf least es t → IsCountOf least fs u → IsCountOf least (es ++ fs) (sum_of t u)
both_counted least es fs t u h k = record {
  tallied = subst (λ (xs : List Entry). IsTally xs (sum_of t u)) (sym (kept_append least es fs)) (tally_both (kept least es) (kept least fs) t u h.tallied k.tallied);
  small = all_append IsSmallUse es fs h.small k.small;
}

pub none_counted : (least : Option ℕ) (counts : Tally) (Rest : List Entry → Type 0) (all : List Entry) → IsCountOf least [] counts → Rest all → HasCounted least counts Rest all
none_counted least counts Rest all none h = record { given = []; others = all; parts = refl; counted = none; rest = h }

-- one entry is given, and the others are still to come
pub counted_more : (least : Option ℕ) (counts more : Tally) (Rest After : List Entry → Type 0) (all : List Entry) (e : Entry) → HasCounted least counts Rest all →
    ((entries : List Entry) → Rest entries → IsNext After entries (Some e)) → ((given : List Entry) → IsCountOf least given counts → IsCountOf least (given ++ e ∷ []) more) → HasCounted least more After all
counted_more least counts more Rest After all e h next counted =
    let n = next h.others h.rest in
    record {
      given = h.given ++ e ∷ [];
      others = n.0;
      parts = h.parts ∙ (ap (λ (xs : List Entry). h.given ++ xs) n.1 ∙ sym (append_assoc h.given (e ∷ []) n.0));
      counted = counted h.given h.counted;
      rest = n.2;
    }

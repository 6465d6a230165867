-- Entries whose words rise between two words.
use Rattle.std.proofs.Common.{◌≡◌, ℕ, suc, ◌≤◌, ◌<◌, ◌≢◌, List, [], ◌∷◌, ◌++◌, Option, Some, None, ap, refl, ◌∙◌, arith}
use Rattle.std.specs.List.{AllByRecursion}
use Rattle.std.proofs.lemmas.Bool.Decides.{nat_tests}
use Rattle.std.specs.Option.{option_or}
use Rattle.std.proofs.lemmas.List.Folds.{find-append}
use Rattle.shape_dict.specs.declared.entries.Entry.{Entry}
use Rattle.shape_dict.specs.Contents.{entry_of}
use Rattle.shape_dict.specs.Inner.Merging.{Climbs, merged}
use Rattle.shape_dict.proofs.Climbing.{absent_below}
use Rattle.shape_dict.proofs.Merging.{climbs_merged, each_merged}
use Rattle.stream_core.specs.Rows.{Rises}

pub climbs_of : (low high : ℕ) (es : List Entry) → Rises low high es → Climbs low es
climbs_of low high [] h = tt
climbs_of low high (e ∷ es) h = (h.0, climbs_of (suc e.shape) high es h.1)

pub order_of : (low high : ℕ) (es : List Entry) → Rises low high es → low ≤ high
order_of low high [] h = h
order_of low high (e ∷ es) h = let more = order_of (suc e.shape) high es h.1 in omega (arith, h.0, more)

abbrev pub IsBelow : ℕ → Entry → Type 0
IsBelow high e = e.shape < high

pub below_of : (low high : ℕ) (es : List Entry) → Rises low high es → AllByRecursion (IsBelow high) es
below_of low high [] h = tt
below_of low high (e ∷ es) h = (order_of (suc e.shape) high es h.1, below_of (suc e.shape) high es h.1)

pub rises_of : (low high : ℕ) (es : List Entry) → low ≤ high → Climbs low es → AllByRecursion (IsBelow high) es → Rises low high es
rises_of low high [] order h k = order
rises_of low high (e ∷ es) order h k = (h.0, rises_of (suc e.shape) high es k.0 h.1 k.1)

pub rises_merged : (games low high : ℕ) (l r : List Entry) → Rises low high l → Rises low high r → Rises low high (merged games l r)
rises_merged games low high l r h k =
    rises_of low high (merged games l r) (order_of low high l h) (climbs_merged low games l r (climbs_of low high l h) (climbs_of low high r k))
    (each_merged games (IsBelow high) (IsBelow high) (IsBelow high) (λ e is. is) (λ f is. is) (λ e f is other. is) l r (below_of low high l h) (below_of low high r k))

pub rises_lower : (low middle high : ℕ) (es : List Entry) → low ≤ middle → Rises middle high es → Rises low high es
rises_lower low middle high [] order h = omega (arith, order, h)
rises_lower low middle high (e ∷ es) order h = (omega (arith, order, h.0), h.1)

pub rises_append : (low middle high : ℕ) (es fs : List Entry) → Rises low middle es → Rises middle high fs → Rises low high (es ++ fs)
rises_append low middle high [] fs h k = rises_lower low middle high fs h k
rises_append low middle high (e ∷ es) fs h k = (h.0, rises_append (suc e.shape) middle high es fs h.1 k)

pub all_append : (P : Entry → Type 0) (es fs : List Entry) → AllByRecursion P es → AllByRecursion P fs → AllByRecursion P (es ++ fs)
all_append P [] fs h k = k
all_append P (e ∷ es) fs h k = (h.0, all_append P es fs h.1 k)

miss : (shape : ℕ) (e : Entry) (es : List Entry) → e.shape ≢ shape → entry_of shape (e ∷ es) ≡ entry_of shape es
miss shape e es h = grind (arith, nat_tests)

-- no entry has a word that is not below the end of the range
pub absent_above : (shape low high : ℕ) (es : List Entry) → high ≤ shape → Rises low high es → entry_of shape es ≡ None
absent_above shape low high [] h k = refl
absent_above shape low high (e ∷ es) h k =
    let below = order_of (suc e.shape) high es k.1 in
    miss shape e es (λ same. omega (arith, same, below, h)) ∙ absent_above shape (suc e.shape) high es h k.1

pub absent_under : (shape low high : ℕ) (es : List Entry) → shape < low → Rises low high es → entry_of shape es ≡ None
absent_under shape low high es h k = absent_below shape low es h (climbs_of low high es k)

or_none : (x : Option Entry) → option_or x None ≡ x
or_none None = refl
or_none (Some e) = refl

-- a word below a cut stands in what comes before it, and another in what comes after it
pub found_before : (shape middle high : ℕ) (es fs : List Entry) → shape < middle → Rises middle high fs → entry_of shape (es ++ fs) ≡ entry_of shape es
found_before shape middle high es fs h k =
    find-append _ es fs ∙ (ap (λ (x : Option Entry). option_or (entry_of shape es) x) (absent_under shape middle high fs h k) ∙ or_none (entry_of shape es))

pub found_after : (shape low middle : ℕ) (es fs : List Entry) → middle ≤ shape → Rises low middle es → entry_of shape (es ++ fs) ≡ entry_of shape fs
found_after shape low middle es fs h k = find-append _ es fs ∙ ap (λ (x : Option Entry). option_or x (entry_of shape fs)) (absent_above shape low middle es h k)

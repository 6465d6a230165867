-- Tables and halls before the first call.
use Rattle.std.proofs.Common.{◌≡◌, ℕ, zero, suc, List, ◌∷◌, map, replicate, slice_get, Option, Some, None, refl, ap, ◌∙◌, sym, subst}
use Rattle.probe_core.specs.declared.halls.UnderWay.{UnderWay}
use Rattle.probe_core.specs.World.{Running}
use Rattle.probe_core.specs.Inner.Hall.{running_of}
use Rattle.probe_core.proofs.Callers.{AreOrdered}
use Rattle.probe_core.specs.History.{empty_table}
use Rattle.probe_core.specs.Showing.{table_of}

-- words that are all 0 show no key
pub free_words_show_none : (n : ℕ) → table_of (replicate n 0) ≡ empty_table n
free_words_show_none zero = refl
free_words_show_none (suc n) = ap (λ (keys : List (Option ℕ)). None ∷ keys) (free_words_show_none n)

-- callers without a call show none
pub idle_callers_show_none : {O : Type 0} (n : ℕ) (callers : List (Option (UnderWay O))) → callers ≡ replicate n None
    → map running_of callers ≡ replicate n None
idle_callers_show_none {O} n callers idle =
    let P : List (Option (UnderWay O)) → Type 0 = λ l. map running_of l ≡ replicate n None
    in subst P (sym idle) (mapped n)
  where
    mapped : (n : ℕ) → map (running_of {O = O}) (replicate n None) ≡ replicate n None
    mapped zero = refl
    mapped (suc n) = ap (λ (l : List (Option Running)). None ∷ l) (mapped n)

-- each element of copies is the copied one
pub copied : {X : Type 0} (n i : ℕ) (x y : X) → slice_get (replicate n x) i ≡ Some y → x ≡ y
copied zero i x y e = cc
copied (suc n) zero x y e = cc
copied (suc n) (suc i) x y e = copied n i x y e

pub idle_callers_are_ordered : {O : Type 0} (order : O) (n : ℕ) (callers : List (Option (UnderWay O))) → callers ≡ replicate n None
    → AreOrdered order callers
idle_callers_are_ordered order n callers idle caller call e =
    let none : None ≡ Some call = copied n caller None (Some call) (ap (λ l. slice_get l caller) (sym idle) ∙ e)
    in cc

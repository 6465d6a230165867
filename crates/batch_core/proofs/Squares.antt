-- Lists that are made the same way before and after each of their elements is changed.
use Rattle.std.proofs.Common.{◌≡◌, List, [], ◌∷◌, ◌++◌, map, refl, sym, ap, ◌∙◌}
use Rattle.std.specs.List.{flat_map}
use Rattle.std.proofs.lemmas.List.{map-append}

-- where two ways from an element are the same, so are the ways from a list
pub map-square : {A B C D : Type 0} (f : A → B) (g : B → D) (h : A → C) (k : C → D) → ((x : A) → g (f x) ≡ k (h x)) → (xs : List A) → map g (map f xs) ≡ map k (map h xs)
map-square f g h k same [] = refl
map-square f g h k same (x ∷ xs) = ap (λ y. y ∷ map g (map f xs)) (same x) ∙ ap (λ ys. k (h x) ∷ ys) (map-square f g h k same xs)

-- the same where an element makes a list
pub flat_map-square : {A B C D : Type 0} (f : A → B) (g : B → List D) (h : A → List C) (k : C → D) → ((x : A) → g (f x) ≡ map k (h x)) → (xs : List A) → flat_map g (map f xs) ≡ map k (flat_map h xs)
flat_map-square f g h k same [] = refl
flat_map-square f g h k same (x ∷ xs) =
    ap (λ ys. ys ++ flat_map g (map f xs)) (same x) ∙ (ap (λ ys. map k (h x) ++ ys) (flat_map-square f g h k same xs) ∙ sym (map-append k (h x) (flat_map h xs)))

-- What the words ask for, by their values.
use Rattle.std.proofs.Common.{ℕ, ◌<◌, List, [], ◌∷◌, ◌++◌, length, get_or, map, sym, subst, inl, inr, append_assoc, arith, zero, suc}
use Rattle.std.proofs.lemmas.List.{append-nil}
use Rattle.std.specs.Borrow.{Bor}
use Rattle.listing_core.specs.Conditions.{IsSpelled, SpellsNone}
use Rattle.listing_core.specs.declared.conditions.Condition.{Condition}
use Rattle.shape_games.specs.Words.{AreConditions, HasBadCondition}

-- the bytes of words
abbrev pub bytes_of : List (Bor (List ℕ)) → List (List ℕ)
bytes_of texts = map (λ text. text.now) texts

-- whatever the other texts spell, all of them are spelled by these conditions and theirs
abbrev pub Completes : List (List ℕ) → List (List ℕ) → List Condition → Type 0
Completes all rest conditions = (more : List Condition) → AreConditions rest more → AreConditions all (conditions ++ more)

pub completes-begins : (all : List (List ℕ)) → Completes all all []
completes-begins all more h = h

pub completes-steps : (all : List (List ℕ)) (text : List ℕ) (rest : List (List ℕ)) (conditions : List Condition) (condition : Condition) → IsSpelled text condition →
    Completes all (text ∷ rest) conditions → Completes all rest (conditions ++ condition ∷ [])
completes-steps all text rest conditions condition is h more h_more =
    subst (AreConditions all) (sym (append_assoc conditions (condition ∷ []) more)) (h (condition ∷ more) (is, h_more))

pub completes-ends : (all : List (List ℕ)) (conditions : List Condition) → Completes all [] conditions → AreConditions all conditions
completes-ends all conditions h = subst (AreConditions all) (append-nil conditions) (h [] tt)

-- one bad text is one among all
pub bad_at : (texts : List (Bor (List ℕ))) (k : ℕ) (d : Bor (List ℕ)) → k < length texts → SpellsNone (get_or texts k d).now → HasBadCondition (bytes_of texts)
bad_at [] k d inside bad = absurd (omega (arith, inside))
bad_at (text ∷ texts) zero d inside bad = inl bad
bad_at (text ∷ texts) (suc k) d inside bad = inr (bad_at texts k d (omega (arith, inside)) bad)

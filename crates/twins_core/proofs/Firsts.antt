-- The first game of a record, when one game more is met.
use Rattle.std.proofs.Common.{◌≡◌, ◌≢◌, ℕ, Option, Some, None, List, [], ◌∷◌, ◌++◌, refl, ap, sym, subst, ◌∙◌, inl, inr, ⊎_elim, append_assoc}
use Rattle.std.proofs.lemmas.List.{append-nil}
use Rattle.go_record.specs.Actions.{Actions}
use Rattle.twins_core.specs.Twins.{Met, IsFirst, AreTwins, piece}

-- it is the first where none was
pub first_new : (before : List Met) (game : Actions) (met : Met) → IsFirst before game None → met.game ≡ game → IsFirst (before ++ met ∷ []) game (Some met)
first_new [] game met none same = inl (same, refl)
first_new (one ∷ before) game met none same =
    ⊎_elim
    (λ (h : (one.game ≡ game) × (None ≡ Some one)). let bad = h.1 in absurd (cc))
    (λ (h : (one.game ≢ game) × IsFirst before game None). inr (h.0, first_new before game met h.1 same))
    none

-- and changes nothing where one was, or where its record is another
pub first_known : (before : List Met) (game : Actions) (met found : Met) → IsFirst before game (Some found) → IsFirst (before ++ met ∷ []) game (Some found)
first_known [] game met found h = absurd (let bad = h in cc)
first_known (one ∷ before) game met found h =
    ⊎_elim
    (λ (k : (one.game ≡ game) × (Some found ≡ Some one)). inl k)
    (λ (k : (one.game ≢ game) × IsFirst before game (Some found)). inr (k.0, first_known before game met found k.1))
    h

pub first_other : (before : List Met) (game : Actions) (met : Met) (found : Option Met) → IsFirst before game found → met.game ≢ game → IsFirst (before ++ met ∷ []) game found
first_other [] game met found h other = inr (other, h)
first_other (one ∷ before) game met found h other =
    ⊎_elim
    (λ (k : (one.game ≡ game) × (found ≡ Some one)). inl k)
    (λ (k : (one.game ≢ game) × IsFirst before game found). inr (k.0, first_other before game met found k.1 other))
    h

-- games that were met one after another
pub twins_append : (before first rest : List Met) (text more : List ℕ) → AreTwins before first text → AreTwins (before ++ first) rest more → AreTwins before (first ++ rest) (text ++ more)
twins_append before [] rest text more h k =
    subst (λ t. AreTwins before rest (t ++ more)) (sym h) (subst (λ b. AreTwins b rest more) (append-nil before) k)
twins_append before (met ∷ first) rest text more h k = (
  h.0,
  h.1 ++ more,
  h.2,
  ap (λ t. t ++ more) h.3 ∙ append_assoc (piece met h.0) h.1 more,
  twins_append (before ++ met ∷ []) first rest h.1 more h.4 (subst (λ b. AreTwins b rest more) (sym (append_assoc before (met ∷ []) first)) k),
)

use Rattle.std.proofs.Common.{◌≡◌, ◌++◌, ℕ, List, codes}
use Rattle.shape_dict.specs.declared.entries.Text.{Text}
use Rattle.shape_dict.specs.declared.entries.Text.TheVariants as text
use Rattle.shape_dict.specs.Text.{front_text}
use Rattle.shape_dict.proofs.headers.front.Goals as goal

none : (bytes : List ℕ) → ((left : List ℕ) → bytes ≡ codes "shapes 1 games " ++ left → ⊥) → ((left : List ℕ) → bytes ≡ codes "shapes 2 games " ++ left → ⊥) → ((left : List ℕ) → bytes ≡ codes "shapes 3 games " ++ left → ⊥) → (kind : Text) (left : List ℕ) → bytes ≡ front_text kind ++ left → ⊥
none bytes one two three text.One left e = one left e
none bytes one two three text.Two left e = two left e
none bytes one two three text.Three left e = three left e

pub returns-in_err-rest-clause-only : goal.returns-in_err-rest-clause-only
returns-in_err-rest-clause-only c = λ kind left e.
    absurd (none c.args.bytes.now c.in_default.ensures.only c.in_default-after.ensures.only c.in_err-rest.ensures.only kind left e)

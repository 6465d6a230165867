use Rattle.std.proofs.Common.{refl, sym, subst, ◌∙◌, List, ℕ}
use Rattle.merge_core.specs.Inner.Ranges.{IsWithin}
use Rattle.merge_core.proofs.pieces.piece_of.Goals as goal

pub returns-in-Ok-Some : goal.returns-in-Ok-Some
returns-in-Ok-Some g c =
    let header = c.in-Some.header in
    let entries = c.in-Ok-Some.entries.items in
    let next = rw c.in-Ok-Some.field-0-is at c.in-Ok-Some.ensures in (
      record { header = header; entries = entries },
      record {
        header = c.in-Some.ensures;
        from = c.in-Some-place_at.from;
        to = c.in-Some-place_at-2.to;
        is_from = c.in-Some-place_at.ensures;
        is_to = c.in-Some-place_at-2.ensures;
        rows = next.rows;
        same = λ text known. subst (λ (xs : List ℕ). IsWithin text c.in-Some-place_at.from c.in-Some-place_at-2.to xs) (sym c.deref.ensures.value ∙ next.same) (c.in-Ok.ensures text known);
      },
      refl,
    )

use Rattle.std.proofs.Common.{◌≡◌, ◌+◌, ◌*◌, ◌^◌, ◌%◌, ◌<◌, ◌∙◌, ℕ, ap, ap₂, arith, sym, [], ◌∷◌}
use Rattle.std.proofs.lemmas.Nat.{and_le_r}
use Rattle.shape_core.specs.Word.{kind_of, mark_of}
use Rattle.shape_core.specs.Symmetry.{exchange_of}
use Rattle.shape_core.proofs.Exchanges.{lower_of, twice_exchange, exchange_of_small}
use Rattle.shape_core.proofs.lanes.twice_exchanged.Goals as goal
use Rattle.shape_core.proofs.lanes.twice_exchanged.Goals.{in-Square, in-Diamond}

sum : (w mark : ℕ) → w < 2 ^ 51 → mark ≡ mark_of (kind_of w) →
    (((w + lower_of w) % 2 ^ 64 + (lower_of w + lower_of w) % 2 ^ 64) % 2 ^ 64 + mark) % 2 ^ 64 ≡ 2 * exchange_of w
sum w mark small is = omega (arith, twice_exchange w small, is, and_le_r w 0x1555555555555, exchange_of_small w)

pub returns : goal.returns
returns c a b lanes small_a small_b of_a of_b =
    let mark : c.match-kind.mark ≡ mark_of c.args.kind = elim c.match-kind.branch [
      | in-Square x ↦ x.mark-is ∙ ap mark_of (sym x.in-Square.is)
      | in-Diamond x ↦ x.mark-is ∙ ap mark_of (sym x.in-Diamond.is)
    ] in
    rw lanes (ap₂ (λ x y. x ∷ y ∷ []) (sum a _ small_a (mark ∙ ap mark_of (sym of_a))) (sum b _ small_b (mark ∙ ap mark_of (sym of_b))))

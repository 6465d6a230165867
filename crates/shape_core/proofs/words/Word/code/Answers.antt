use Rattle.std.proofs.Common.{◌/◌, ◌%◌, ◌^◌, ◌*◌, ap, ◌∙◌, sym}
use Rattle.std.proofs.lemmas.Nat.{and_mask}
use Rattle.shape_core.specs.Word.{code_at}
use Rattle.shape_core.proofs.Moves.{four_pow}
use Rattle.shape_core.proofs.words.Word.code.Goals as goal

pub returns-clause-value : goal.returns-clause-value
returns-clause-value c =
    let bits = c.self.inside.bits in
    and_mask (bits / 2 ^ (2 * c.args.cell)) 2
    ∙ ap (λ p. (bits / p) % 4) (sym (four_pow c.args.cell))
    ∙ ap (λ w. code_at w c.args.cell) c.self.view_is

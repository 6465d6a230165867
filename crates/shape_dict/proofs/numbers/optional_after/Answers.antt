use Rattle.std.proofs.Common.{◌++◌, ◌∙◌, sym}
use Rattle.std.proofs.lemmas.List.{append_cancel_left}
use Rattle.shape_dict.specs.Text.{optional_number}
use Rattle.shape_dict.proofs.Decimals.{dash_only}
use Rattle.shape_dict.proofs.numbers.optional_after.Goals as goal

pub returns-in-Some-clause-only : goal.returns-in-Some-clause-only
returns-in-Some-clause-only c = λ number left small over e.
    let rest = append_cancel_left c.args.literal.now c.in_ok-rest.rest.now (optional_number number ++ left) (sym c.in_ok-rest.ensures.found ∙ e) in
    dash_only number left c.in-Some.left.now small (sym c.in-Some.ensures.found ∙ rest)

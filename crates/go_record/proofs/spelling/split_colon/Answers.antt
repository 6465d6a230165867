use Rattle.std.proofs.Common.{sym, ap, take, arith, rules}
use Rattle.go_record.specs.Spelling.{is_colon}
use Rattle.std.proofs.lemmas.Grind.{common_steps}
use Rattle.go_record.proofs.Colons.{position_found, position_none}
use Rattle.go_record.proofs.spelling.split_colon.Goals as goal

pub returns-in_err-at : goal.returns-in_err-at
returns-in_err-at c = let h = position_none is_colon c.args.text.now (sym c.in_err-at.ensures) in Prim.grind (rules, h)

pub returns : goal.returns
returns c =
    let found = position_found is_colon c.args.text.now c.in_ok-at.at (sym c.in_ok-at.ensures) in
    (found.0, ap (λ n. take n c.args.text.now) (sym found.1), rw found.1 (Prim.grind (arith, common_steps)))

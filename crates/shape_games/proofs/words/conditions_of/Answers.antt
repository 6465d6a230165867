use Rattle.std.proofs.Common.{◌≡◌, List, ℕ, refl, subst, inr, drop_of_length-le}
use Rattle.std.specs.Borrow.{Bor}
use Rattle.shape_games.proofs.Asked.{bytes_of, bad_at, completes-ends, Completes}
use Rattle.shape_games.proofs.words.conditions_of.Goals as goal

pub returns-in_default-clause-fault : goal.returns-in_default-clause-fault
returns-in_default-clause-fault c =
    inr (refl, bad_at c.args.texts.now c.loop-text.text-index _ c.loop-text-test.true c.in_default.ensures.none)

pub returns-clause-conditions : goal.returns-clause-conditions
returns-clause-conditions c =
    let texts = c.args.texts.now in
    let conditions = c.loop-text.conditions.items in
    completes-ends (bytes_of texts) conditions
    (subst (λ (t : List (Bor (List ℕ))). Completes (bytes_of texts) (bytes_of t) conditions) (drop_of_length-le texts c.loop-text-test.false) c.loop-text.invariant)

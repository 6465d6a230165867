use Rattle.std.proofs.Common.{◌≡◌, false, subst, List, ℕ}
use Rattle.hits_core.specs.Wanted.{is_wanted}
use Rattle.hits_core.proofs.Wanting.{no-diamond}
use Rattle.hits_core.proofs.wanted.Wanted.kinds.Goals as goal

pub returns : goal.returns
returns c squares word diamond =
    subst (λ (words : List ℕ). is_wanted words word ≡ false) c.self.view_is (no-diamond c.self.inside.words.items (c.self.invariant.squares squares) word diamond)

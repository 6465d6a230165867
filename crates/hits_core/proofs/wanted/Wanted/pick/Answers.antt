use Rattle.std.proofs.Common.{◌≡◌, ◌∷◌, [], ◌<◌, ◌≤◌, length, get_or, false, cond, List, ℕ, ap, sym, subst, ◌∙◌}
use Rattle.hits_core.specs.Wanted.{is_wanted}
use Rattle.hits_core.proofs.Wanting.{not-found}
use Rattle.hits_core.proofs.wanted.Wanted.pick.Goals as goal

pub returns-in-Err : goal.returns-in-Err
returns-in-Err c =
    let rise = subst (λ (xs : List ℕ). (i j : ℕ) → i ≤ j → j < length xs → get_or xs i 0 ≤ get_or xs j 0) (sym c.deref.ensures.value) c.self.invariant.rise in
    let none : is_wanted c.deref.result.now c.args.shape ≡ false =
    not-found c.deref.result.now c.args.shape c.in-Err.field-0 c.in-Err.ensures.position rise in
    ap (λ b. cond b (c.args.shape ∷ []) []) (sym none ∙ ap (λ (words : List ℕ). is_wanted words c.args.shape) (c.deref.ensures.value ∙ c.self.view_is))

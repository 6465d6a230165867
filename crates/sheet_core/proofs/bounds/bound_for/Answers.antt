use Rattle.std.proofs.Common.{◌≡◌, ◌∙◌, ℕ, suc, ◌+◌, ◌-◌, ◌/◌, ap, sym, arith}
use Rattle.sheet_core.specs.Bounds.{bound_from}
use Rattle.sheet_core.proofs.Bounding.{bound_steps, bound_ends}
use Rattle.sheet_core.proofs.bounds.bound_for.Goals as goal

pub loop-done-preserved : goal.loop-done-preserved
loop-done-preserved c =
    let times = c.args.times in
    let plays = c.args.plays in
    let done = c.loop-done._done in
    let step = c.loop-done.step in
    let bound = c.loop-done.bound in
    let next : 20 - done ≡ suc (20 - (done + 1)) = omega (arith, c.loop-done-test.true) in
    record {
      step = omega (arith, c.loop-done.invariant.step);
      bound = c.stepped-bound.ensures.small;
      same = ap (λ (b : ℕ). bound_from (20 - (done + 1)) times plays (step / 2) b) c.stepped-bound.ensures.value
          ∙ (sym (bound_steps (20 - done) (20 - (done + 1)) times plays step bound next) ∙ c.loop-done.invariant.same);
    }

pub returns : goal.returns
returns c =
    let none : 20 - c.loop-done._done ≡ 0 = omega arith in
    sym (bound_ends (20 - c.loop-done._done) c.args.times c.args.plays c.loop-done.step c.loop-done.bound none) ∙ c.loop-done.invariant.same

use Rattle.std.proofs.Common.{ℕ, ◌+◌, ◌-◌, ◌*◌, ◌/◌, ◌%◌, ◌^◌, ap, ◌∙◌, bit_and}
use Rattle.std.proofs.lemmas.Nat.{and_mask}
use Rattle.probe_core.specs.Order.{mixed_of, start_of, step_of}
use Rattle.probe_core.proofs.orders.OddRunsProbeOrder.place.Goals as goal

pub returns : goal.returns
returns c =
    let k : ℕ = c.args.self.now.capacity
    in let i : ℕ = c.args.i
    in let place : ℕ → ℕ → ℕ = λ start step. start + i % 16 + i / 16 * 16 * step
    in ap (λ n. bit_and (place c.start.result c.odd_step-step.result) (n - 1)) c.slots-slots.ensures.value
    ∙ and_mask (place c.start.result c.odd_step-step.result) k
    ∙ ap (λ n. place n c.odd_step-step.result % 2 ^ k) (c.start.ensures.value ∙ ap (λ n. start_of k n) c.mixed-mixed.ensures.value)
    ∙ ap (λ n. place (start_of k (mixed_of c.args.key)) n % 2 ^ k)
    (c.odd_step-step.ensures.value ∙ ap (λ n. step_of k n) c.mixed-mixed.ensures.value)

use Rattle.std.proofs.Common.{◌+◌, ◌-◌, ◌%◌, ◌^◌, ap, ◌∙◌, bit_and}
use Rattle.std.proofs.lemmas.Nat.{and_mask}
use Rattle.probe_core.specs.Order.{start_of}
use Rattle.probe_core.proofs.orders.LinearProbeOrder.place.Goals as goal

pub returns : goal.returns
returns c =
    ap (λ n. bit_and (c.start.result + c.args.i) (n - 1)) c.slots-slots.ensures.value
    ∙ and_mask (c.start.result + c.args.i) c.args.self.now.capacity
    ∙ ap (λ n. (n + c.args.i) % 2 ^ c.args.self.now.capacity)
    (c.start.ensures.value ∙ ap (λ n. start_of c.args.self.now.capacity n) c.mixed.ensures.value)

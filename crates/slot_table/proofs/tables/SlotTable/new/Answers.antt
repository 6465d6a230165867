use Rattle.std.proofs.Common.{◌≡◌, ◌*◌, ◌^◌, [], ◌∷◌, ◌∙◌, ap, sym, length}
use Rattle.std.specs.List.{repeat}
use Rattle.slot_table.proofs.Parting.{new_allowed}
use Rattle.slot_table.proofs.tables.SlotTable.new.Goals as goal

pub of_words-requires : goal.of_words-requires
of_words-requires g c =
    let order = c.args.order
    in let n = 2 ^ g.O.ProbeOrder.exponent order
    in let words = c.as_slice.result.now
    in let slots : c.slots-slots.result ≡ n = c.slots-slots.ensures.value ∙ ap (λ k. 2 ^ k) c.capacity.ensures
    in let same : c.in_ok-free.free.items ≡ words = sym c.as_slice.ensures.value
    in new_allowed n (g.O.ProbeOrder.place_of order) order (λ k. g.met.O.ProbeOrder.is_order order k) words
    (ap (λ ws. length ws) (sym same) ∙ c.in_ok-free.ensures.length ∙ ap (λ k. 2 * k) slots)
    (sym same ∙ c.in_ok-free.ensures.items ∙ ap (λ k. repeat k (0 ∷ 0xFFFF_FFFF_FFFF_FFFF ∷ [])) slots)

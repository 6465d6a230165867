use Rattle.std.proofs.Common.{length-set, ◌∙◌, arith}
use Rattle.slot_table.proofs.Packing.{one_more}
use Rattle.slot_table.proofs.batches.all_places.Goals as goal

pub loop-i-preserved : goal.loop-i-preserved
loop-i-preserved c =
    let places = c.loop-i.places in
    let i = c.loop-i.i in
    record {
      room = length-set places i i ∙ c.loop-i.invariant.room;
      each = λ k h. one_more places i k (omega arith) c.loop-i.invariant.each h;
    }

pub returns-clause-chosen : goal.returns-clause-chosen
returns-clause-chosen c = λ count few.
    let each = c.loop-i.invariant.each in
    record {
      within = λ a h. (let same = each a (omega (arith, h, few)) in omega (arith, same, h));
      rises = λ a b lt h. (let one = each a (omega (arith, h, lt, few)) in let two = each b (omega (arith, h, few)) in omega (arith, one, two, lt));
    }

use Rattle.std.proofs.Common.{◌≡◌, ℕ, List, length, take, get_or, ap, arith}
use Rattle.shape_dict.specs.Pieces.{entries_in}
use Rattle.beyond_core.specs.Inner.TooMany.{new_count}
use Rattle.shape_dict.proofs.Pieced.{part_long, few}
use Rattle.beyond_core.proofs.Reached.{few_new}
use Rattle.beyond_core.proofs.reaching.counts_of.Goals as goal

pub count_firsts-requires : goal.count_firsts-requires
count_firsts-requires c = record {
  few = λ i inside.
      let pieces = c.pieces-piece-items.result.now in
      let done = entries_in (take c.loop-piece.piece-index pieces) in
      let part = part_long pieces c.loop-piece.piece-index c.piece-item.result c.loop-piece-test.true c.piece-item.is in
      let same : get_or c.as_mut_slice.result.now i 0 ≡ get_or c.loop-piece.counts.items i 0 = ap (λ (l : List ℕ). get_or l i 0) c.as_mut_slice.ensures.value in
      let counted : get_or c.loop-piece.counts.items i 0 ≡ new_count i done =
      c.loop-piece.invariant.counted i (let long = ap length c.as_mut_slice.ensures.value in omega (arith, long, inside)) in
      let own = ap length c.as_slice.ensures.value in
      let all = ap length c.pieces-piece-items.ensures.value in
      omega (arith, part, same, counted, few_new i done, own, all, few c.args.dictionary.now c.pieces-piece-items.ensures.dictionary);
}

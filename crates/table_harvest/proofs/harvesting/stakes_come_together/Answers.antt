use Rattle.std.proofs.Common.{◌++◌, List, ℕ, refl}
use Rattle.slot_table.specs.Stakes.{IsAsMuch, halved, half_of}
use Rattle.table_harvest.proofs.harvesting.stakes_come_together.Goals as goal

pub returns-clause-halves : goal.returns-clause-halves
returns-clause-halves c stake back is =
    let laws = c.stakes_add_up.ensures in
    let same : (xs : List ℕ) → IsAsMuch xs xs = λ xs fine up up'. refl in
    laws.through (halved stake ++ back) (halved stake ++ half_of stake) stake
    (laws.together (halved stake) back (halved stake) (half_of stake) (same (halved stake)) is) (c.a_split_loses_no_stake.ensures stake)

use Rattle.std.proofs.Common.{◌++◌, List, ℕ, refl, subst, append_assoc}
use Rattle.slot_table.specs.Stakes.{IsAsMuch, halved, half_of}
use Rattle.table_harvest.proofs.threads.splits_lose_no_stake.Goals as goal

pub returns : goal.returns
returns c stake given whole is =
    let laws = c.stakes_add_up.ensures in
    let same : (xs : List ℕ) → IsAsMuch xs xs = λ xs fine up up'. refl in
    let turned : IsAsMuch (halved stake ++ (given ++ half_of stake)) (halved stake ++ (half_of stake ++ given)) =
    laws.together (halved stake) (given ++ half_of stake) (halved stake) (half_of stake ++ given) (same (halved stake)) (laws.turned given (half_of stake)) in
    let again : IsAsMuch ((halved stake ++ half_of stake) ++ given) (stake ++ given) =
    laws.together (halved stake ++ half_of stake) given stake given (c.a_split_loses_no_stake.ensures stake) (same given) in
    let apart : IsAsMuch (halved stake ++ (half_of stake ++ given)) (stake ++ given) =
    subst (λ (s : List ℕ). IsAsMuch s (stake ++ given)) (append_assoc (halved stake) (half_of stake) given) again in
    laws.through (halved stake ++ (given ++ half_of stake)) (stake ++ given) whole
    (laws.through (halved stake ++ (given ++ half_of stake)) (halved stake ++ (half_of stake ++ given)) (stake ++ given) turned apart) is

use Rattle.std.proofs.Common.{◌≡◌, ℕ, List, length, take}
use Rattle.merge_core.specs.Merge.{AreInputs}
use Rattle.merge_core.specs.Inner.Judging.{HasJudged}
use Rattle.merge_core.proofs.judging.judge_each.Given as goal

abbrev pub invariant-loop-n : goal.invariant-loop-n
invariant-loop-n g l =
    (inputs : List (List ℕ)) → AreInputs (g.S.Sources.bytes l.sources) 0 inputs → length inputs ≡ l.count → HasJudged (g.S.Sources.bytes l.sources) l.n l.judged (take l.n inputs)

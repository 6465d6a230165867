use Rattle.hits_core.proofs.Trees.{games-are-of-trees}
use Rattle.hits_core.proofs.Agreed.{agrees}
use Rattle.hits_core.proofs.laws.hits_agree_with_counts.Goals as goal

pub returns : goal.returns
returns c = record {
  trees = λ input number place end trees games h. games-are-of-trees input number place trees end games h;
  counts = λ what words kinds input end trees games hits counted h none are is word wanted includes.
      agrees (c.kinds_stay.ensures.canonical, c.kinds_stay.ensures.around) c.replays_have_one_result.ensures what words kinds input end trees games hits counted h none are is word wanted includes;
}

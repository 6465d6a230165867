use Rattle.tally_core.proofs.OneBeyond.{one_first, none_beyond, none_more}
use Rattle.tally_core.proofs.laws.one_first_beyond.Goals as goal

pub returns : goal.returns
returns c = record {
  one = one_first c.replays_have_one_result.ensures;
  none = none_beyond c.replays_have_one_result.ensures;
  few = none_more c.replays_have_one_result.ensures;
}

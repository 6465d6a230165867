use Rattle.tally_core.proofs.PutTogether.{is_join, is_dictionary}
use Rattle.tally_core.proofs.laws.dictionaries_join.Goals as goal

pub returns : goal.returns
returns c = record {
  join = λ kinds left right of_left of_right both h k d.
      is_join c.kinds_stay.ensures.canonical c.kinds_stay.ensures.around kinds left right of_left of_right h k both d;
  dictionary = λ kinds left right of_left of_right both h k j.
      is_dictionary c.kinds_stay.ensures.canonical c.kinds_stay.ensures.around kinds left right of_left of_right h k both j;
}

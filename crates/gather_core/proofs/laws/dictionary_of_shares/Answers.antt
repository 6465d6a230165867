use Rattle.gather_core.proofs.Gathered.{dictionary_of_shares, share_game_found}
use Rattle.gather_core.proofs.laws.dictionary_of_shares.Goals as goal

pub returns : goal.returns
returns c = record {
  dictionary = λ kinds games addeds shares have contents gathered. dictionary_of_shares kinds games addeds shares have contents gathered;
  found = λ kinds games addeds shares have added one outer inner. share_game_found kinds games addeds shares have added one outer inner;
}

use Rattle.listing_core.specs.Cuts.{moved}
use Rattle.listing_core.proofs.CutTexts.{read_back}
use Rattle.listing_core.proofs.MovedRecords.{game_moved}
use Rattle.listing_core.proofs.laws.cuts_are_read_back.Goals as goal

pub returns : goal.returns
returns c = record {
  trees = λ asked input number place end trees lines is_cut h. read_back asked input number place end trees lines is_cut h;
  games = λ from to tree game is. game_moved (moved from to) tree game is;
}

use Rattle.table_shares.proofs.Confirmed.{more_patterns}
use Rattle.table_shares.proofs.laws.full_means_more_patterns_than_numbers.Goals as goal

pub returns : goal.returns
returns c = more_patterns

use Rattle.job_core.proofs.Orders.{rising_end}
use Rattle.job_core.proofs.laws.the_end_of_rising_numbers_rises.Goals as goal

pub returns : goal.returns
returns c = rising_end

use Rattle.job_core.proofs.Rules.{begins}
use Rattle.job_core.proofs.queues.new_queue.Goals as goal

pub ruled-requires-clause-rule : goal.ruled-requires-clause-rule
ruled-requires-clause-rule c = begins

use Rattle.job_core.specs.Which.{id_of}
use Rattle.job_core.proofs.queues.open.Given as goal

abbrev pub ghosts-name : goal.ghosts-name
ghosts-name a = record { queue = id_of a.queue.now; bytes = a.bytes.now }

use Rattle.probe_core.proofs.Histories.{goes_on_legal, goes_on_content}
use Rattle.probe_core.proofs.laws.legal_histories_go_on.Goals as goal

pub returns-clause-legal : goal.returns-clause-legal
returns-clause-legal c = goes_on_legal

pub returns-clause-content : goal.returns-clause-content
returns-clause-content c = goes_on_content

use Rattle.probe_core.specs.History.{empty_table}
use Rattle.probe_core.proofs.Histories.{front_runs, rest_runs, numbers_kept, words_grew}
use Rattle.probe_core.proofs.laws.longer_histories_keep_numbers.Goals as goal

pub returns-clause-front : goal.returns-clause-front
returns-clause-front c = λ n front rest legal. front_runs (empty_table n) front rest legal

pub returns-clause-rest : goal.returns-clause-rest
returns-clause-rest c = λ n front rest legal. rest_runs (empty_table n) front rest legal

pub returns-clause-numbers : goal.returns-clause-numbers
returns-clause-numbers c = numbers_kept

pub returns-clause-words : goal.returns-clause-words
returns-clause-words c = words_grew

use Rattle.probe_core.proofs.Soundness.{words_of_shown, shown_words, table_shown}
use Rattle.probe_core.proofs.Telling.{shown}
use Rattle.probe_core.proofs.laws.words_are_of_what_they_show.Goals as goal

pub returns-clause-words : goal.returns-clause-words
returns-clause-words c = words_of_shown

pub returns-clause-at : goal.returns-clause-at
returns-clause-at c = shown

pub returns-clause-again : goal.returns-clause-again
returns-clause-again c = shown_words

pub returns-clause-made : goal.returns-clause-made
returns-clause-made c = table_shown

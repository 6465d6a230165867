use Rattle.std.proofs.Common.{length}
use Rattle.hits_core.specs.Inner.WordLists.{IsReadUpTo}
use Rattle.hits_core.proofs.word_lists.words_of.Given as goal

abbrev pub invariant-loop-rest : goal.invariant-loop-rest
invariant-loop-rest l = IsReadUpTo l.bytes l.rest l.words.items

abbrev pub decreases-loop-rest : goal.decreases-loop-rest
decreases-loop-rest l = length l.rest

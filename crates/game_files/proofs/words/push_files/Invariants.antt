use Rattle.std.proofs.Common.{◌≡◌, ◌++◌, map}
use Rattle.game_files.specs.declared.words.Source.TheVariants as source
use Rattle.game_files.proofs.words.push_files.Given as goal

abbrev pub invariant-loop-file : goal.invariant-loop-file
invariant-loop-file l = l.all.items ≡ l.fn.all.items ++ map source.File l.yielded

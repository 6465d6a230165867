use Rattle.std.proofs.Common.{◌≡◌, ◌++◌, map}
use Rattle.game_files.specs.declared.words.Source.TheVariants as source
use Rattle.game_files.proofs.words.push_flaws.Given as goal

abbrev pub invariant-loop-flaw : goal.invariant-loop-flaw
invariant-loop-flaw l = l.all.items ≡ l.fn.all.items ++ map source.Flaw l.yielded

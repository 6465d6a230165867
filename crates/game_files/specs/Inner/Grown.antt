-- What is appended to the sources so far.
use Rattle.std.specs.Prelude.{◌≡◌, List, ◌++◌, map}
use Rattle.game_files.specs.declared.flaws.Flaw.{Flaw}
use Rattle.game_files.specs.declared.words.Source.{Source}
use Rattle.game_files.specs.declared.words.Source.TheVariants as source

abbrev pub AreFlaws : List Source → Type 0
AreFlaws all = (flaws : List Flaw) × (all ≡ map source.Flaw flaws)

-- a list grew at its end by sources of which this holds
abbrev pub Grew : (List Source → Type 0) → List Source → List Source → Type 0
Grew P old new = (more : List Source) × P more × (new ≡ old ++ more)

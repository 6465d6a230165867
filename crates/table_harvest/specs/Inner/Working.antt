-- Definitions that private contracts alone use, beside those of `Working`.
use Rattle.std.specs.Prelude.{ℕ, List}
use Rattle.shape_core.specs.declared.words.Kinds.{Kinds}
use Rattle.table_harvest.specs.declared.working.Worked.{Worked}
use Rattle.harvest_core.specs.Working.{IsWorked}
use Rattle.table_harvest.specs.Working.{IsRefused}

-- what a worker hands back of an input
abbrev pub IsWorkOf : List ℕ → Kinds → Worked → Type 0
IsWorkOf bytes kinds worked = IsWorked bytes kinds worked.share × IsRefused bytes kinds worked.refused

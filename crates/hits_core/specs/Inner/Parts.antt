-- The hits of parts of the games.
use Rattle.std.specs.Prelude.{◌≡◌, ◌⊎◌, ℕ, List, [], ◌++◌, All, IsOk, Option, Result, Ok, Err, Vec}
use Rattle.std.specs.List.{flat_map}
use Rattle.std.specs.Global.{Global}
use Rattle.tally_core.specs.declared.faults.TallyFault.{TallyFault}
use Rattle.hits_core.specs.declared.games.Game.{Game}
use Rattle.hits_core.specs.declared.hits.Hit.{Hit}
use Rattle.hits_core.specs.declared.searches.Sought.{Sought}
use Rattle.hits_core.specs.Hits.{first_of, AreHits}
use Rattle.hits_core.specs.Inner.Finding.{IsFull}

-- these are the first hits of games, as many as are asked for: of all games, unless the first of them have that number
pub record IsPart (what : Sought) (words : List ℕ) (most : Option ℕ) (games : List Game) (hits : List Hit) : Type 0 where
  pub front : List Game
  pub rest : List Game
  pub all : games ≡ front ++ rest
  pub found : List Hit
  pub of_front : AreHits what words front found
  pub enough : (rest ≡ []) ⊎ IsFull most found
  pub cut : hits ≡ first_of most found

-- the hits of a part, or none where it was refused memory
abbrev pub hits_made : Result (Vec Hit Global) TallyFault → List Hit
hits_made (Ok part) = part.items
hits_made (Err found) = []

-- if no part was refused memory, then they are the first hits of the games, one part after another
abbrev pub AreMade : Sought → List ℕ → Option ℕ → List Game → List (Result (Vec Hit Global) TallyFault) → Type 0
AreMade what words most games made =
    All IsOk made → IsPart what words most games (first_of most (flat_map hits_made made))

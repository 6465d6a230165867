-- Texts that are put together to one input, each with a byte after it over which no tree goes on.
use Rattle.std.specs.Prelude.{◌≡◌, ℕ, List, [], ◌∷◌, ◌++◌, map}
use Rattle.sgf_core.specs.Tree.{GameTree}
use Rattle.sgf_core.specs.Next.{HasNoTree}
use Rattle.go_record.specs.Actions.{Actions}
use Rattle.game_core.specs.Collection.{AreTrees, record_of_tree, games_among}

-- A closing parenthesis: outside of trees it is passed over, and no tree begins before it and goes on after it.
abbrev pub parting_byte : ℕ
parting_byte = 41

-- texts one after another, each with that byte after it
abbrev pub joined : List (List ℕ) → List ℕ
joined [] = []
joined (text ∷ texts) = text ++ parting_byte ∷ joined texts

-- the trees of a text, all of them, are these
pub record AreAllTrees (text : List ℕ) (trees : List GameTree) : Type 0 where
  pub end : ℕ
  pub written : AreTrees text 0 trees end
  pub no_more : HasNoTree text end

-- by the grammar each of the texts can be read to its end, and these are their games, one text's after another's
abbrev pub AreGamesOf : List (List ℕ) → List Actions → Type 0
AreGamesOf [] games = games ≡ []
AreGamesOf (text ∷ texts) games = (trees : List GameTree) × (others : List Actions) × AreAllTrees text trees
    × AreGamesOf texts others × (games ≡ games_among (map record_of_tree trees) ++ others)

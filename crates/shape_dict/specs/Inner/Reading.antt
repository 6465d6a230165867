-- Definitions that private contracts alone use, beside those of `Reading`.
use Rattle.std.specs.Prelude.{◌≡◌, ℕ, List}
use Rattle.shape_dict.specs.declared.headers.Header.{Header}
use Rattle.shape_dict.specs.Contents.{Contents, HasTotals}
use Rattle.shape_dict.specs.Reading.{counts_of, HasAllLines}

-- the dictionary that a text at the front of the bytes says, and what follows it
pub record IsRead (bytes : List ℕ) (contents : Contents) (left : List ℕ) : Type 0 where
  pub header : Header
  pub lines : HasAllLines bytes header contents.entries left
  pub totals : HasTotals header.games header.moves contents.entries (counts_of header)
  pub games : contents.games ≡ header.games
  pub moves : contents.moves ≡ header.moves
  pub kinds : contents.counts_diamonds ≡ counts_of header

-- What a run of the program writes.
use Rattle.std.specs.Prelude.{ℕ, ◌≤◌, List, length}
use Rattle.shape_dict.specs.Contents.{Contents}
use Rattle.shape_dict.specs.Reading.{IsTextOf}
use Rattle.sheet_core.specs.declared.asked.Asked.{Asked}
use Rattle.sheet_core.specs.Sheets.{IsSheetOf}
use Rattle.sgf_core.specs.Limit.{most_bytes}

-- the input, of at most 2 ^ 28 bytes, is a text of a dictionary, and this is the dictionary's sheet
pub record IsSheetText (asked : Asked) (hits input text : List ℕ) : Type 0 where
  pub contents : Contents
  pub read : IsTextOf contents input
  pub few : length input ≤ most_bytes
  pub sheet : IsSheetOf asked hits contents text

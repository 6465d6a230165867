-- The sheet of a dictionary.
use Rattle.std.specs.Prelude.{◌≡◌, ℕ, List}
use Rattle.shape_dict.specs.Contents.{Contents}
use Rattle.shape_dict.specs.declared.entries.Entry.{Entry}
use Rattle.sheet_core.specs.declared.asked.Asked.{Asked}
use Rattle.sheet_core.specs.declared.asked.Form.TheVariants as form
use Rattle.sheet_core.specs.declared.asked.Form.{Form}
use Rattle.sheet_core.specs.Choice.{IsChoice}
use Rattle.sheet_core.specs.Page.{page_text}
use Rattle.sheet_core.specs.Plain.{plain_text}

-- the text in a form
abbrev pub text_in : Form → Asked → List ℕ → Contents → List Entry → List ℕ
text_in form.Page asked hits contents chosen = page_text asked hits contents chosen
text_in form.Plain asked hits contents chosen = plain_text asked contents.entries chosen

-- the text of chosen patterns in the form that is asked for
abbrev pub written_text : Asked → List ℕ → Contents → List Entry → List ℕ
written_text asked hits contents chosen = text_in asked.form asked hits contents chosen

-- the text is that of the patterns of the dictionary that are asked for, with places in the lines of these hits
pub record IsSheetOf (asked : Asked) (hits : List ℕ) (contents : Contents) (text : List ℕ) : Type 0 where
  pub chosen : List Entry
  pub choice : IsChoice asked.order asked.kind asked.least asked.most contents.entries chosen
  pub printed : text ≡ written_text asked hits contents chosen

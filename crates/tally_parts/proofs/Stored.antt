-- What is stored of a text that is written in parts.
use Rattle.std.proofs.Common.{◌≡◌, ℕ, List, Option, Some, None, ◌∙◌}
use Rattle.shape_dict.specs.Contents.{Contents}
use Rattle.shape_dict.specs.Text.{text_of}
use Rattle.shape_dict.specs.declared.entries.Text.TheVariants as text
use Rattle.tally_parts.specs.Spills.{HasBytesIfKnown}
use Rattle.tally_parts.specs.Inner.Joining.{IsTextThere}

pub stored : (kept : Option (List ℕ)) (written : List ℕ) (contents : Contents) → HasBytesIfKnown kept written → written ≡ text_of text.Three contents → IsTextThere kept contents
stored None written contents is same = tt
stored (Some bytes) written contents is same = is ∙ same

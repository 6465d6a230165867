-- What the words ask for, by their values.
use Rattle.std.proofs.Common.{◌≡◌, List, None, sym, ◌∙◌, codes}
use Rattle.clap.specs.Words.{Row, all_of}
use Rattle.command_lines.specs.Texts.{HasNoText}
use Rattle.command_lines.specs.Values.{HasNoOptionalNumber}
use Rattle.shape_merge.specs.Words.{HasNoJoin}

-- what no join can be asked for by
pub no_join_text : (rows : List Row) → HasNoText rows → HasNoJoin rows
no_join_text rows none asked is small = none asked.form.text is.text

pub no_join_names : (rows : List Row) → all_of (codes "dictionaries") rows ≡ None → HasNoJoin rows
no_join_names rows none asked is small = let bad = sym none ∙ is.names in cc

pub no_join_least : (rows : List Row) → HasNoOptionalNumber (codes "least") rows → HasNoJoin rows
no_join_least rows none asked is small = none asked.form.least is.least small

use Rattle.shape_dict.proofs.Known.{texts_distinct}
use Rattle.shape_dict.proofs.laws.texts_are_distinct.Goals as goal

pub returns : goal.returns
returns c = texts_distinct

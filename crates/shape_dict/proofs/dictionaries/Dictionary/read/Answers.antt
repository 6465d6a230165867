use Rattle.shape_dict.proofs.Faultless.{whole_only}
use Rattle.shape_dict.proofs.dictionaries.Dictionary.read.Goals as goal

pub returns-clause-only : goal.returns-clause-only
returns-clause-only c = whole_only c.args.bytes.now c.read_whole.result c.read_whole.ensures.found c.read_whole.ensures.fault

use Rattle.shape_dict.proofs.Faultless.{front_only}
use Rattle.shape_dict.proofs.dictionaries.Dictionary.read_front.Goals as goal

pub returns-clause-only : goal.returns-clause-only
returns-clause-only c = front_only c.args.bytes.now c.front_of.result c.front_of.ensures.found c.front_of.ensures.fault

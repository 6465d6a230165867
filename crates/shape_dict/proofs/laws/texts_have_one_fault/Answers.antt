use Rattle.shape_dict.proofs.Faultless.{text_fault_unique, front_fault_unique}
use Rattle.shape_dict.proofs.laws.texts_have_one_fault.Goals as goal

pub returns-clause-text : goal.returns-clause-text
returns-clause-text c = text_fault_unique

pub returns-clause-front : goal.returns-clause-front
returns-clause-front c = front_fault_unique

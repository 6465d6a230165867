use Rattle.shape_core.proofs.Staying.{kind_of-canonical, kind_of-around}
use Rattle.shape_core.proofs.laws.kinds_stay.Goals as goal

pub returns-clause-canonical : goal.returns-clause-canonical
returns-clause-canonical c = kind_of-canonical

pub returns-clause-around : goal.returns-clause-around
returns-clause-around c = kind_of-around

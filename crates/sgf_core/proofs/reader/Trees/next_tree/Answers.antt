use Rattle.std.proofs.Common.{sym, subst}
use Rattle.sgf_core.specs.Reading.{Reading, IsFaultOrMemory}
use Rattle.sgf_core.specs.Inner.Reading.{IsReading}
use Rattle.sgf_core.proofs.Readers.{met_again, reading_on}
use Rattle.sgf_core.proofs.reader.Trees.next_tree.Goals as goal

pub returns-in-Some-clause-fault : goal.returns-in-Some-clause-fault
returns-in-Some-clause-fault c =
    let inside : Reading = record { bytes = c.self.inside.bytes.now; from = c.self.inside.from; fault = c.self.inside.fault } in
    subst (λ (r : Reading). IsFaultOrMemory r.bytes r.from c.in-Some.fault) c.self.view_is (met_again inside c.in-Some.fault c.self.invariant c.in-Some.is)

pub invariant_of-self-in-Err : goal.invariant_of-self-in-Err
invariant_of-self-in-Err c =
    let inside : Reading = record { bytes = c.self.inside.bytes.now; from = c.self.inside.from; fault = c.self.inside.fault } in
    let found : IsFaultOrMemory inside.bytes inside.from c.in-Err.fault = c.in-Err.ensures.fault inside.from c.in-Some-next_tree_start.ensures in
    subst (λ o. IsReading (record { bytes = inside.bytes; from = inside.from; fault = o })) (sym c.kept-self-inside.ensures) (reading_on inside c.in-Err.fault c.self.invariant found)

pub returns-in-Err-clause-fault : goal.returns-in-Err-clause-fault
returns-in-Err-clause-fault c =
    let inside : Reading = record { bytes = c.self.inside.bytes.now; from = c.self.inside.from; fault = c.self.inside.fault } in
    subst (λ (r : Reading). IsFaultOrMemory r.bytes r.from c.in-Err.fault) c.self.view_is (c.in-Err.ensures.fault inside.from c.in-Some-next_tree_start.ensures)

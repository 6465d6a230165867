use Rattle.std.proofs.Common.{◌≡◌, ◌∙◌, ap, sym, subst, refl, arith, IfSome}
use Rattle.game_core.specs.Faults.{IsNextFault, IsGamesFault}
use Rattle.game_core.specs.Reading.{Reading}
use Rattle.game_core.specs.Inner.Reading.{IsStage, IsNextRecord}
use Rattle.game_core.proofs.OneTree.{moved, stops, reads_on}
use Rattle.game_core.proofs.games.Games.read_one_tree.Goals as goal

pub invariant_of-self : goal.invariant_of-self
invariant_of-self c =
    let g = c.self.inside in
    let reads = subst (IsStage g.bytes.now g.from g.trees.from) c.in-Trees.is c.self.invariant.1 in
    let read = subst (λ o. IfSome o (IsNextRecord g.trees.bytes g.trees.from)) c.in-Ok-Some.field-0-is c.in-Ok-Some.ensures.record in
    let next = moved (λ bytes from. IsNextRecord bytes from c.in-Ok-Some.read) g.bytes.now g.trees.bytes g.from g.trees.from c.self.invariant.2 reads read in
    let after = subst (λ o. IfSome o (λ read. c.next_record.new.trees.from ≡ read.end)) c.in-Ok-Some.field-0-is c.in-Ok-Some.ensures.after in (
      reads_on g.bytes.now g.from g.report c.count.new.report c.in-Ok-Some.read c.count.result c.self.invariant.0 next c.count.ensures,
      subst (IsStage g.bytes.now c.in-Ok-Some.read.end c.next_record.new.trees.from) (sym c.in-Trees.is) after,
      c.in-Ok-Some.ensures.bytes ∙ c.self.invariant.2,
    )

pub invariant_of-self-in-Err : goal.invariant_of-self-in-Err
invariant_of-self-in-Err c =
    let g = c.self.inside in
    let reads = subst (IsStage g.bytes.now g.from g.trees.from) c.in-Trees.is c.self.invariant.1 in
    let next = moved (λ bytes from. IsNextFault bytes from c.in-Err.fault) g.bytes.now g.trees.bytes g.from g.trees.from c.self.invariant.2 reads c.in-Err.ensures.fault in (
      c.self.invariant.0,
      next,
      c.in-Err.ensures.bytes ∙ c.self.invariant.2,
    )

pub returns-in-Err-clause-fault : goal.returns-in-Err-clause-fault
returns-in-Err-clause-fault c =
    let g = c.self.inside in
    let reads = subst (IsStage g.bytes.now g.from g.trees.from) c.in-Trees.is c.self.invariant.1 in
    let next = moved (λ bytes from. IsNextFault bytes from c.in-Err.fault) g.bytes.now g.trees.bytes g.from g.trees.from c.self.invariant.2 reads c.in-Err.ensures.fault in
    subst (λ bytes. IsGamesFault bytes c.in-Err.fault) (ap (λ (r : Reading). r.bytes) c.self.view_is)
    (stops g.bytes.now g.from g.report c.in-Err.fault c.self.invariant.0 next)

pub returns-in-Fault-clause-stopped : goal.returns-in-Fault-clause-stopped
returns-in-Fault-clause-stopped c =
    let g = c.self.inside in
    let stands = subst (IsStage g.bytes.now g.from g.trees.from) c.in-Fault.is c.self.invariant.1 in
    record {
      games = refl;
      forward = omega arith;
      here = subst (λ (r : Reading). IsNextFault r.bytes r.from c.in-Fault.fault) c.self.view_is stands;
    }

pub returns-in-Fault-clause-fault : goal.returns-in-Fault-clause-fault
returns-in-Fault-clause-fault c =
    let g = c.self.inside in
    let stands = subst (IsStage g.bytes.now g.from g.trees.from) c.in-Fault.is c.self.invariant.1 in
    subst (λ bytes. IsGamesFault bytes c.in-Fault.fault) (ap (λ (r : Reading). r.bytes) c.self.view_is)
    (stops g.bytes.now g.from g.report c.in-Fault.fault c.self.invariant.0 stands)

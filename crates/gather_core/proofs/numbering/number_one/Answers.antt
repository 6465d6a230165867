use Rattle.std.proofs.Common.{ℕ, ◌∷◌, [], refl, subst, arith}
use Rattle.probe_core.specs.declared.calls.Call.TheVariants as asked
use Rattle.slot_table.specs.History.{Tells}
use Rattle.gather_core.proofs.Calls.{calls_self}
use Rattle.gather_core.proofs.Numbered.{is_among, enter_refused, enter_told, one_entered, marks_more, block_calls}
use Rattle.gather_core.proofs.numbering.number_one.Goals as goal

pub returns-in_default : goal.returns-in_default
returns-in_default g c =
    let n = c.args.table.now.slots in
    let entry = c.args.entry.now in
    let seen = c.enter.new.pass.seen in
    let enters = one_entered entry c.key_of.ensures c.enter.ensures.later in
    let told = subst (λ (key : ℕ). Tells n seen (asked.Enter key) c.enter.result) c.key_of.ensures c.enter.ensures.told in
    let refused = enter_refused n seen entry.shape c.enter.result c.in_default.not-Number told in
    let says = c.full.ensures in
    record {
      pass = c.enter.ensures.pass;
      settled = tt;
      calls = block_calls enters (calls_self n _ _ c.enter.new.pass);
      fault = rw says.1 ((entry, is_among (entry ∷ []) 0 (omega arith), refl, says.2), refused.0, refused.1);
    }

pub mark_first-requires-clause-number : goal.mark_first-requires-clause-number
mark_first-requires-clause-number g c =
    (enter_told c.args.table.now.slots c.enter.new.pass.seen c.key_of.result c.in-Number.number c.enter.result c.in-Number.is c.enter.ensures.told).0

pub returns : goal.returns
returns g c =
    let n = c.args.table.now.slots in
    let entry = c.args.entry.now in
    let mid = c.enter.new.pass in
    let number = c.in-Number.number in
    let enters = one_entered entry c.key_of.ensures c.enter.ensures.later in
    let told = enter_told n mid.seen entry.shape number c.enter.result c.in-Number.is
    (subst (λ (key : ℕ). Tells n mid.seen (asked.Enter key) c.enter.result) c.key_of.ensures c.enter.ensures.told) in
    let marks = marks_more {entries = entry ∷ []} {seen = mid.seen} 0 number entry.first (omega arith) refl told.1 (calls_self n _ _ mid) c.mark_first.ensures.marks in
    record {
      pass = c.mark_first.ensures.pass;
      settled = record {
        number = number;
        stands = marks.later.keeps.numbers entry.shape number told.1;
        marked = c.mark_first.ensures.marked;
      };
      calls = block_calls enters marks;
      fault = tt;
    }

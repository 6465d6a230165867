use Rattle.std.proofs.Common.{◌+◌, ◌++◌, ◌∷◌, [], take, drop, subst, ap, sym, ◌∙◌, All, arith}
use Rattle.gather_core.proofs.Common.{err_from_is_err_and, take_more, take_all}
use Rattle.std.proofs.lemmas.List.Elements.{All-nil, All-push}
use Rattle.shape_dict.specs.declared.entries.Entry.{Entry}
use Rattle.gather_core.proofs.Calls.{calls_self}
use Rattle.gather_core.specs.WordShares.{IsSettled}
use Rattle.gather_core.proofs.Numbered.{fault_of_all, calls_of_all, settled_later, parted_at}
use Rattle.gather_core.proofs.numbering.number_entries.Goals as goal

pub loop-entry-init : goal.loop-entry-init
loop-entry-init g c = record {
  pass = c.requires.pass;
  calls = calls_self c.args.table.now.slots _ _ c.args.pass.now;
  settled = All-nil (IsSettled c.args.table.now.slots c.args.pass.now.seen);
}

pub loop-entry-preserved : goal.loop-entry-preserved
loop-entry-preserved g c =
    let n = c.args.table.now.slots in
    let entries = c.args.entries.now in
    let i = c.loop-entry.entry-index in
    let entry = c.entry-item.result in
    let parts = parted_at entries i entry c.loop-entry-test.true c.entry-item.is in
    let inv = c.loop-entry.invariant in
    let P = IsSettled n c.number_one.new.pass.seen in
    record {
      pass = c.number_one.ensures.pass;
      calls = calls_of_all entries (take i entries) (entry ∷ []) (drop (i + 1) entries) parts inv.calls c.number_one.ensures.calls;
      settled = subst (All P) (ap (λ (e : Entry). take i entries ++ e ∷ []) c.entry-item.is ∙ sym (take_more entries i entry c.loop-entry-test.true))
          (All-push P (take i entries) entry (settled_later (take i entries) c.number_one.ensures.calls.later.keeps inv.settled) c.in_ok-number_one.ensures.settled);
    }

pub returns-in_err-number_one-clause-calls : goal.returns-in_err-number_one-clause-calls
returns-in_err-number_one-clause-calls g c =
    let entries = c.args.entries.now in
    let i = c.loop-entry.entry-index in
    let entry = c.entry-item.result in
    let parts = parted_at entries i entry c.loop-entry-test.true c.entry-item.is in
    calls_of_all entries (take i entries) (entry ∷ []) (drop (i + 1) entries) parts c.loop-entry.invariant.calls c.number_one.ensures.calls

pub returns-in_err-number_one-clause-fault : goal.returns-in_err-number_one-clause-fault
returns-in_err-number_one-clause-fault g c =
    let entries = c.args.entries.now in
    let i = c.loop-entry.entry-index in
    let entry = c.entry-item.result in
    let parts = parted_at entries i entry c.loop-entry-test.true c.entry-item.is in
    let p = err_from_is_err_and c.from_residual.result c.from_residual.ensures.1 in
    rw (p.1, p.2) (fault_of_all entries (take i entries) (entry ∷ []) (drop (i + 1) entries) parts c.args.table.now.slots
    c.number_one.new.pass.seen c.in_err-number_one.field-0.0 c.in_err-number_one.ensures.fault)

pub returns-clause-settled : goal.returns-clause-settled
returns-clause-settled g c =
    subst (All (IsSettled c.args.table.now.slots c.loop-entry.pass.seen))
    (take_all c.loop-entry.entry-index c.args.entries.now (omega (arith, c.loop-entry-test.false))) c.loop-entry.invariant.settled

use Rattle.std.proofs.Common.{◌≡◌, true, Result, Ok, Err, OnOk, sym, ◌∙◌, All}
use Rattle.std.proofs.lemmas.List.Elements.{recursion_from_All}
use Rattle.std.specs.Result.{is_ok}
use Rattle.gather_core.specs.WordShares.{IsSettled}
use Rattle.gather_core.proofs.Taken.{settled_numbered}
use Rattle.gather_core.proofs.taking.number_more.Goals as goal

when_ok : {T E : Type 0} (r : Result T E) (P : Type 0) → OnOk r P → is_ok r ≡ true → P
when_ok (Ok x) P h ok = h
when_ok (Err e) P h ok = absurd (cc)

pub returns-clause-numbered : goal.returns-clause-numbered
returns-clause-numbered g c all =
    let entries = c.args.entries.now in
    let P = IsSettled c.args.table.now.slots c.number_entries.new.pass.seen in
    let settled = when_ok c.number_entries.result (All P entries) c.number_entries.ensures.settled (sym c.is_ok.ensures.value ∙ all) in
    settled_numbered c.number_entries.ensures.pass.legal entries (recursion_from_All P entries settled)

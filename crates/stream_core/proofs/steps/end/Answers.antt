use Rattle.std.proofs.Common.{◌≡◌, ◌+◌, ◌∙◌, ◌<◌, inr, ap, sym, subst, length, arith, ℕ, List}
use Rattle.std.proofs.lemmas.Bool.Decides.{nat_tests}
use Rattle.stream_core.proofs.Held.{nil_of_length, nothing_left, something_left}
use Rattle.stream_core.proofs.Given.{whole_text}
use Rattle.stream_core.proofs.steps.end.Goals as goal

pub returns-then-not-is_empty-clause-fault : goal.returns-then-not-is_empty-clause-fault
returns-then-not-is_empty-clause-fault g c = λ whole es at all.
    let totals = c.if-not-has_totals.ensures es at.kept in
    let some : 0 < length c.unread.result.now = grind (arith, nat_tests) in
    inr (record {
      header = c.args.header.now;
      entries = es;
      left = at.left;
      lines = record { begins = at.begins; all = all };
      totals = totals;
      more = something_left c.args.block.now at.left (subst (λ (l : List ℕ). 0 < length l) c.unread.ensures some) at.known;
      at = ap (λ (n : ℕ). n + 2) (at.kept.given ∙ all);
    })

pub returns-clause-ok : goal.returns-clause-ok
returns-clause-ok g c = λ whole es at all.
    let totals = c.if-not-has_totals.ensures es at.kept in
    let none : length c.unread.result.now ≡ 0 = grind (arith, nat_tests) in
    whole_text whole at.left c.args.header.now es at.begins all totals (nothing_left c.args.block.now at.left (sym c.unread.ensures ∙ nil_of_length c.unread.result.now none) c.requires.enough at.known)

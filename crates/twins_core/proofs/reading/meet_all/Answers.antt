use Rattle.std.proofs.Common.{◌+◌, ◌++◌, ◌∙◌, refl, ap, sym, subst, arith, length, List, ℕ, option_map}
use Rattle.std.specs.Borrow.{Bor}
use Rattle.sgf_core.specs.Next.{HasNoTree}
use Rattle.sgf_core.specs.Reading.{Reading, IsFaultAt}
use Rattle.game_core.specs.declared.reports.Report.{Report}
use Rattle.listing_core.specs.Inner.Reading.{all_in}
use Rattle.twins_core.specs.Inner.Reading.{IsRead, IsStep, MeetsUpTo}
use Rattle.twins_core.proofs.Meetings.{meets_on, meets_stay, reads_on, one_more}
use Rattle.twins_core.proofs.reading.meet_all.Goals as goal

pub tree-preserved : goal.tree-preserved
tree-preserved c =
    let is = c.tree.invariant in
    let before = c.tree.trees in
    let after = c.meet_next.new.trees in
    let input = c.args.trees.now.bytes in
    let text = c.tree.text.items in
    let new = c.meet_next.new.text.items in
    let end = c.in-Tree.end in
    let number = c.args.first + c.tree.report.games in
    let name = option_map (λ (n : Bor (List ℕ)). n.now) c.args.name in
    let read = subst (IsRead before after) c.in-Tree.is c.in_ok-sort.ensures.read in
    let bytes = ap (λ (r : Reading). r.bytes) read.moved in
    let from = ap (λ (r : Reading). r.from) read.moved in
    record {
      bytes = bytes ∙ is.bytes;
      end = sym from;
      in_input = let inside = read.in_input in omega (arith, inside, ap length is.bytes);
      few = let forward = read.forward in
          omega (arith, forward, is.few, is.end, one_more c.tree.report c.in-Tree.sort, ap all_in c.counted-report.ensures);
      reads = reads_on input c.tree.last before after end is.bytes is.end is.reads read;
      meets = λ old knows.
          let h = is.meets old knows in
          let step = subst (IsStep name c.meet_next.new.twins before after number (old ++ h.mets) text new) c.in-Tree.is (c.in_ok-sort.ensures.step (old ++ h.mets) h.known) in
          subst (λ (r : Report). MeetsUpTo c.args.first name old c.meet_next.new.twins input end r new) (sym c.counted-report.ensures)
          (meets_on c.args.first name old (old ++ h.mets) c.tree.twins c.meet_next.new.twins input c.tree.last c.tree.report before after number text new c.in-Tree.sort end
          is.bytes is.end refl h refl step);
    }

pub returns-in-End-clause-ending : goal.returns-in-End-clause-ending
returns-in-End-clause-ending c = λ old knows.
    let is = c.tree.invariant in
    let before = c.tree.trees in
    let input = c.args.trees.now.bytes in
    let text = c.tree.text.items in
    let new = c.meet_next.new.text.items in
    let number = c.args.first + c.tree.report.games in
    let name = option_map (λ (n : Bor (List ℕ)). n.now) c.args.name in
    let h = is.meets old knows in
    let step = subst (IsStep name c.meet_next.new.twins before c.meet_next.new.trees number (old ++ h.mets) text new) c.in-End.is (c.in_ok-sort.ensures.step (old ++ h.mets) h.known) in
    record {
      meets = meets_stay c.args.first name old c.tree.twins c.meet_next.new.twins input c.tree.last c.tree.report text new h step.1 step.2;
      stops = subst (λ b. HasNoTree b c.tree.last) is.bytes (subst (HasNoTree before.bytes) (sym is.end) step.0);
    }

pub returns-in-Fault-clause-ending : goal.returns-in-Fault-clause-ending
returns-in-Fault-clause-ending c = λ old knows.
    let is = c.tree.invariant in
    let before = c.tree.trees in
    let input = c.args.trees.now.bytes in
    let text = c.tree.text.items in
    let new = c.meet_next.new.text.items in
    let number = c.args.first + c.tree.report.games in
    let name = option_map (λ (n : Bor (List ℕ)). n.now) c.args.name in
    let found = c.in-Fault.fault in
    let h = is.meets old knows in
    let step = subst (IsStep name c.meet_next.new.twins before c.meet_next.new.trees number (old ++ h.mets) text new) c.in-Fault.is (c.in_ok-sort.ensures.step (old ++ h.mets) h.known) in
    record {
      meets = meets_stay c.args.first name old c.tree.twins c.meet_next.new.twins input c.tree.last c.tree.report text new h step.1 step.2;
      stops = subst (λ b. IsFaultAt b c.tree.last found) is.bytes (subst (λ p. IsFaultAt before.bytes p found) (sym is.end) step.0);
    }

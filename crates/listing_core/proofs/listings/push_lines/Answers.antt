use Rattle.std.proofs.Common.{◌+◌, ◌∙◌, refl, ap, sym, subst, arith, length}
use Rattle.std.proofs.lemmas.Result.{err_from_is_err_and}
use Rattle.sgf_core.specs.Reading.{Reading}
use Rattle.game_core.specs.declared.reports.Report.{Report}
use Rattle.listing_core.specs.Inner.Reading.{IsStep, ListsUpTo, all_in}
use Rattle.listing_core.proofs.LineLists.{lists_on, one_more, lines_are_of_trees, is_wanted}
use Rattle.listing_core.proofs.listings.push_lines.Goals as goal

pub tree-preserved : goal.tree-preserved
tree-preserved c =
    let is = c.tree.invariant in
    let asked = c.args.asked.now in
    let before = c.tree.trees in
    let after = c.push_next_tree.new.trees in
    let line = c.in-Tree.line in
    let next = asked.first + c.tree.report.games in
    let step = subst (IsStep asked before after next c.tree.text.items c.push_next_tree.new.text.items) c.in-Tree.is c.in_ok-line.ensures.step in
    let bytes = ap (λ (r : Reading). r.bytes) step.moved in
    let from = ap (λ (r : Reading). r.from) step.moved in
    let same = is.bytes ∙ c.requires.bytes in
    record {
      bytes = bytes ∙ is.bytes;
      end = sym from;
      in_input = let inside = step.in_input in omega (arith, inside, ap length same);
      few = let forward = step.forward in
          omega (arith, forward, is.few, is.end, one_more c.tree.report line.what, ap all_in c.counted-report.ensures);
      lists = subst (λ (r : Report). ListsUpTo asked c.args.input.now line.to r c.push_next_tree.new.text.items) (sym c.counted-report.ensures)
          (lists_on asked c.args.input.now c.tree.end c.tree.report before after next c.tree.text.items c.push_next_tree.new.text.items line same is.end refl is.lists step);
    }

pub returns-in_err-line-clause-wanted : goal.returns-in_err-line-clause-wanted
returns-in_err-line-clause-wanted c =
    let is = c.tree.invariant in
    let p = err_from_is_err_and c.from_residual.result c.from_residual.ensures.1 in
    let read = lines_are_of_trees c.args.input.now c.args.asked.now.first 0 c.tree.end is.lists.trees is.lists.lines is.lists.are in
    rw (p.1, p.2) (is_wanted c.args.input.now c.tree.end c.tree.trees c.in_err-line.field-0.0 (is.bytes ∙ c.requires.bytes) is.end
    (is.lists.trees, read) c.in_err-line.ensures.wanted)

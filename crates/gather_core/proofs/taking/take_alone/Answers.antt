use Rattle.std.proofs.Common.{List, [], ◌∷◌, ◌++◌, ap, sym, subst, ◌∙◌, append_assoc, append-nil}
use Rattle.gather_core.proofs.Common.{Entry}
use Rattle.range_core.specs.Totals.{all_of, HaveSmallSums}
use Rattle.range_core.proofs.SmallSums.{small_lists}
use Rattle.gather_core.proofs.Taken.{none_taken}
use Rattle.gather_core.proofs.taking.take_alone.Goals as goal

pub loop-range-init : goal.loop-range-init
loop-range-init g c =
    ([], append-nil c.args.ranges.items, none_taken c.args.numbering.now c.args.pass c.in_ok-empty.field-0 c.requires.pass c.in_ok-empty.ensures)

pub take_range-requires-clause-small : goal.take_range-requires-clause-small
take_range-requires-clause-small g c =
    let range = c.in-Some.range in
    let left = c.pop.new.self.items in
    let inv = c.loop-range.invariant in
    let all = (small_lists c.loop-range.ranges.items inv.0 (subst (λ (l : List (List Entry)). HaveSmallSums (all_of l)) (sym inv.1) c.requires.small)).0 in
    let last = (small_lists left (range ∷ []) (subst (λ (l : List (List Entry)). HaveSmallSums (all_of l)) c.in-Some.ensures.items all)).1 in
    subst HaveSmallSums (append-nil range) last

pub loop-range-preserved : goal.loop-range-preserved
loop-range-preserved g c =
    let inv = c.loop-range.invariant in
    let range = c.in-Some.range in (
      range ∷ inv.0,
      sym (append_assoc c.pop.new.self.items (range ∷ []) inv.0) ∙ ap (λ (l : List (List Entry)). l ++ inv.0) (sym c.in-Some.ensures.items) ∙ inv.1,
      c.in_ok-take_range.ensures.taken inv.0 inv.2,
    )

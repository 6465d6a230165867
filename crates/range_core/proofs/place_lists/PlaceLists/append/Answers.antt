use Rattle.std.proofs.Common.{◌≡◌, ℕ, List, Option, None, refl, ap, sym, ◌∙◌, arith}
use Rattle.std.proofs.lemmas.List.{get_or_default}
use Rattle.std.proofs.lemmas.Result.{err_from_is_err_and}
use Rattle.shape_dict.specs.declared.entries.Entry.{Entry}
use Rattle.range_core.specs.Totals.{Total, together, total_of, count_at, all_of}
use Rattle.range_core.specs.Ranges.{list_at}
use Rattle.range_core.specs.Places.{range_of_place}
use Rattle.range_core.proofs.Adding.{together_none}
use Rattle.range_core.proofs.Dealt.{changed_total, own_count}
use Rattle.range_core.proofs.place_lists.PlaceLists.append.Goals.{After-branch-append_to}
use Rattle.range_core.proofs.place_lists.PlaceLists.append.Goals as goal

abbrev nothing : ℕ → Option Total
nothing shape = None

-- what was at the range
list-is : (c : After-branch-append_to) → c.index_mut.result.now ≡ list_at c.self.inside.lists.items c.home-range.result
list-is c = c.index_mut.ensures.value ∙ get_or_default c.self.inside.lists.items c.home-range.result c.index_mut.result.now _ (omega (arith, c.home-range.ensures.within, c.self.invariant.0))

pub returns-in_err-append_to-clause-err : goal.returns-in_err-append_to-clause-err
returns-in_err-append_to-clause-err c =
    let lists = c.self.inside.lists.items in
    let at = c.home-range.result in
    let p = err_from_is_err_and c.from_residual.result c.from_residual.ensures.1 in
    rw p.1 (λ shape.
    changed_total lists range_of_place at c.append_to.new.list nothing (omega (arith, c.home-range.ensures.within, c.self.invariant.0))
    (λ s. c.in_err-append_to.ensures.err s ∙ ap (total_of s) (list-is (goal.at.returns-in_err-append_to-clause-err c).After-branch-append_to) ∙ sym (together_none (total_of s (list_at lists at))))
    (λ s far. refl) c.self.invariant.1 shape
    ∙ together_none (total_of shape (all_of lists))
    ∙ ap (λ (l : List (List Entry)). total_of shape (all_of l)) c.self.view_is)

pub returns-clause-added : goal.returns-clause-added
returns-clause-added c shape =
    let lists = c.self.inside.lists.items in
    let at = c.home-range.result in
    let entry = c.args.entry in
    changed_total lists range_of_place at c.append_to.new.list (λ s. count_at s entry) (omega (arith, c.home-range.ensures.within, c.self.invariant.0))
    (λ s. c.in_ok-append_to.ensures.added s ∙ ap (λ (l : List Entry). together (total_of s l) (count_at s entry)) (list-is (goal.at.returns-clause-added c).After-branch-append_to))
    (own_count range_of_place at entry c.home-range.ensures.value) c.self.invariant.1 shape
    ∙ ap (λ (l : List (List Entry)). together (total_of shape (all_of l)) (count_at shape entry)) c.self.view_is

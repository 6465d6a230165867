use Rattle.std.proofs.Common.{rules, ◌<◌, length, ap, sym, subst, ◌∙◌}
use Rattle.std.specs.Prelude.{slice_index_or, vec_len}
use Rattle.std.proofs.lemmas.List.{get_or_default}
use Rattle.std.proofs.lemmas.List.Elements.{recursion_from_All}
use Rattle.slot_table.specs.Passes.{Numbers}
use Rattle.table_harvest.specs.Working.{IsReturned}
use Rattle.table_harvest.specs.Inner.Threads.{IsBackOf, IsHandleOf}
use Rattle.table_harvest.proofs.Promised.{back_of, stakes_come_back, numbers_come_back}
use Rattle.table_harvest.proofs.threads.theirs.Goals as goal

pub returns-in-Ok-clause-back : goal.returns-in-Ok-clause-back
returns-in-Ok-clause-back g c =
    let own = c.args.own.now in
    let all = c.in-Ok.all.items in
    let P = IsBackOf own.table.now own.endpoint.queue own.endpoint.bytes own.kinds in
    recursion_from_All P all (λ k d below.
    let there : k < vec_len c.args.handles = search rules in
    let here : k < length c.args.handles.items = search rules in
    let keeps = (c.in-Ok.ensures.each k d there).1 in
    let promise = keeps.handle.promise in
    let mine = subst (IsHandleOf own.table.now own.endpoint.queue own.endpoint.bytes own.kinds) (sym keeps.handle_is) (c.requires k keeps.handle here) in
    back_of own.table.now own.endpoint.queue own.endpoint.bytes own.kinds promise.number promise.endpoint.value promise.pass.value (slice_index_or all k d) mine.fresh
    (subst (λ (t : Numbers _). IsReturned t own.kinds promise.number promise.endpoint.value promise.pass.value (slice_index_or all k d)) mine.table_is
    (subst (λ ks. IsReturned promise.table.now ks promise.number promise.endpoint.value promise.pass.value (slice_index_or all k d)) mine.kinds_are keeps.kept)))

pub returns-in-Ok-clause-stakes : goal.returns-in-Ok-clause-stakes
returns-in-Ok-clause-stakes g c =
    let handles = c.args.handles.items in
    stakes_come_back c.in-Ok.all.items handles (search rules) (λ k one other low.
    let there : k < vec_len c.args.handles = search rules in
    let keeps = (c.in-Ok.ensures.each k one there).1 in
    keeps.kept.drawn.later.later.stake ∙ ap (λ h. h.promise.pass.value.stake) (keeps.handle_is ∙ get_or_default handles k keeps.handle other low))

pub returns-in-Ok-clause-numbers : goal.returns-in-Ok-clause-numbers
returns-in-Ok-clause-numbers g c =
    let handles = c.args.handles.items in
    numbers_come_back c.in-Ok.all.items handles (search rules) (λ k one other low.
    let there : k < vec_len c.args.handles = search rules in
    let keeps = (c.in-Ok.ensures.each k one there).1 in
    keeps.kept.number_is ∙ ap (λ h. h.promise.number) (keeps.handle_is ∙ get_or_default handles k keeps.handle other low))

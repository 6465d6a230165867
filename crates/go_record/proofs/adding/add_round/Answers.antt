use Rattle.std.proofs.Common.{arith, ap, sym, ◌∙◌, ◌+◌, ◌++◌, length, subst, Ok, Err}
use Rattle.std.proofs.lemmas.Result.{err_from_is_err_and}
use Rattle.std.specs.List.{flat_map}
use Rattle.sgf_core.specs.Values.{value_of}
use Rattle.go_record.specs.Adding.{actions_before_fault}
use Rattle.go_record.specs.Inner.Adding.{behind, action_of, round_deeds, Adds}
use Rattle.go_record.specs.Record.{collected}
use Rattle.go_record.proofs.Collected.{adds_step, count_step, adds_fault, adds-views, grows}
use Rattle.go_record.proofs.adding.add_round.Goals as goal

pub loop-prop-preserved : goal.loop-prop-preserved
loop-prop-preserved c =
    let deeds = round_deeds c.args.size c.args.round in
    let left = ap (λ props. behind c.loop-prop.actions.items (collected (flat_map deeds props))) (sym c.in-Some.ensures.steps) ∙ c.loop-prop.invariant.left in
    let counted = ap (λ props. length c.loop-prop.actions.items + actions_before_fault (flat_map deeds props)) (sym c.in-Some.ensures.steps) ∙ c.loop-prop.invariant.counted in
    record {
      can_next = tt;
      is_finite = tt;
      on_board = c.loop-prop.invariant.on_board;
      grown = c.loop-prop.invariant.grown;
      counted = ap (λ here. length c.loop-prop.actions.items + actions_before_fault (here ++ flat_map deeds c.next.new.self)) (c.in_default.ensures c.args.size) ∙ counted;
      left = ap (λ here. behind c.loop-prop.actions.items (collected (here ++ flat_map deeds c.next.new.self))) (c.in_default.ensures c.args.size) ∙ left;
    }

pub loop-prop-preserved-in-Continue-1 : goal.loop-prop-preserved-in-Continue-1
loop-prop-preserved-in-Continue-1 c =
    let deeds = round_deeds c.args.size c.args.round in
    let left = ap (λ props. behind c.loop-prop.actions.items (collected (flat_map deeds props))) (sym c.in-Some.ensures.steps) ∙ c.loop-prop.invariant.left in
    let counted = ap (λ props. length c.loop-prop.actions.items + actions_before_fault (flat_map deeds props)) (sym c.in-Some.ensures.steps) ∙ c.loop-prop.invariant.counted in
    let adds =
    subst (λ xs. Adds xs c.loop-prop.actions.items c.add_values.new.actions.items (Ok tt)) (c.in-Some-deed_in.ensures c.args.size)
    (adds-views (action_of c.args.size c.in-Some-deed_in.deed) value_of c.values.result.now c.in-Some.prop.now.values _ _ (Ok tt) c.values.ensures c.in_ok-add_values.ensures.adds) in
    record {
      can_next = tt;
      is_finite = tt;
      on_board = c.in_ok-add_values.ensures.on_board;
      grown = omega (arith, c.loop-prop.invariant.grown, grows c.loop-prop.actions.items c.add_values.new.actions.items (collected (deeds c.in-Some.prop.now)) adds);
      counted = count_step c.args.actions.now.items c.loop-prop.actions.items c.add_values.new.actions.items (flat_map deeds c.args.node.now)
          (deeds c.in-Some.prop.now) (flat_map deeds c.next.new.self) counted adds;
      left = adds_step c.args.actions.now.items c.loop-prop.actions.items c.add_values.new.actions.items (flat_map deeds c.args.node.now)
          (deeds c.in-Some.prop.now) (flat_map deeds c.next.new.self) left adds;
    }

pub returns-in_err-add_values-clause-adds : goal.returns-in_err-add_values-clause-adds
returns-in_err-add_values-clause-adds c =
    let deeds = round_deeds c.args.size c.args.round in
    let left = ap (λ props. behind c.loop-prop.actions.items (collected (flat_map deeds props))) (sym c.in-Some.ensures.steps) ∙ c.loop-prop.invariant.left in
    let counted = ap (λ props. length c.loop-prop.actions.items + actions_before_fault (flat_map deeds props)) (sym c.in-Some.ensures.steps) ∙ c.loop-prop.invariant.counted in
    let p = err_from_is_err_and c.from_residual.result c.from_residual.ensures.1 in
    rw (p.1, p.2) (adds_fault c.args.actions.now.items c.loop-prop.actions.items c.add_values.new.actions.items (flat_map deeds c.args.node.now)
    (deeds c.in-Some.prop.now) (flat_map deeds c.next.new.self) _ left counted c.loop-prop.invariant.grown
    (subst (λ xs. Adds xs c.loop-prop.actions.items c.add_values.new.actions.items (Err c.in_err-add_values.field-0.0)) (c.in-Some-deed_in.ensures c.args.size)
    (adds-views (action_of c.args.size c.in-Some-deed_in.deed) value_of c.values.result.now c.in-Some.prop.now.values c.loop-prop.actions.items c.add_values.new.actions.items (Err c.in_err-add_values.field-0.0) c.values.ensures c.in_err-add_values.ensures.adds)))

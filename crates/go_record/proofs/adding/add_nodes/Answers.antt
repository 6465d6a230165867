use Rattle.std.proofs.Common.{arith, ◌+◌, ◌++◌, length, ap, sym, refl, ◌∙◌, Ok, Err}
use Rattle.std.proofs.lemmas.Result.{err_from_is_err_and}
use Rattle.std.specs.List.{flat_map}
use Rattle.go_record.specs.Adding.{actions_before_fault}
use Rattle.go_record.specs.Inner.Adding.{behind, round_deeds}
use Rattle.go_record.specs.Record.{collected, node_deeds}
use Rattle.go_record.specs.declared.names.Round.TheVariants as round
use Rattle.go_record.proofs.Collected.{adds_step, count_step, adds_fault, adds_both, grows}
use Rattle.go_record.proofs.adding.add_nodes.Goals as goal

pub loop-node-preserved : goal.loop-node-preserved
loop-node-preserved c =
    let deeds = node_deeds c.args.size in
    let setups = flat_map (round_deeds c.args.size round.Setups) c.in-Some.node in
    let moves = flat_map (round_deeds c.args.size round.Moves) c.in-Some.node in
    let left = ap (λ nodes. behind c.loop-node.actions.items (collected (flat_map deeds nodes))) (sym c.in-Some.ensures.steps) ∙ c.loop-node.invariant.left in
    let counted = ap (λ nodes. length c.loop-node.actions.items + actions_before_fault (flat_map deeds nodes)) (sym c.in-Some.ensures.steps) ∙ c.loop-node.invariant.counted in
    let adds =
    adds_both c.loop-node.actions.items c.add_round.new.actions.items c.add_round-in-loop-node.new.actions.items setups moves
    (Ok tt) c.in_ok-add_round.ensures.adds c.in_ok-add_round-2.ensures.adds in
    record {
      can_next = tt;
      is_finite = tt;
      on_board = c.in_ok-add_round-2.ensures.on_board;
      grown = omega (arith, c.loop-node.invariant.grown, grows c.loop-node.actions.items c.add_round-in-loop-node.new.actions.items (collected (setups ++ moves)) adds);
      counted = count_step c.args.actions.now.items c.loop-node.actions.items c.add_round-in-loop-node.new.actions.items (flat_map deeds c.args.line)
          (setups ++ moves) (flat_map deeds c.next.new.self) counted adds;
      left = adds_step c.args.actions.now.items c.loop-node.actions.items c.add_round-in-loop-node.new.actions.items (flat_map deeds c.args.line)
          (setups ++ moves) (flat_map deeds c.next.new.self) left adds;
    }

pub returns-in_err-add_round-clause-adds : goal.returns-in_err-add_round-clause-adds
returns-in_err-add_round-clause-adds c =
    let deeds = node_deeds c.args.size in
    let setups = flat_map (round_deeds c.args.size round.Setups) c.in-Some.node in
    let moves = flat_map (round_deeds c.args.size round.Moves) c.in-Some.node in
    let left = ap (λ nodes. behind c.loop-node.actions.items (collected (flat_map deeds nodes))) (sym c.in-Some.ensures.steps) ∙ c.loop-node.invariant.left in
    let counted = ap (λ nodes. length c.loop-node.actions.items + actions_before_fault (flat_map deeds nodes)) (sym c.in-Some.ensures.steps) ∙ c.loop-node.invariant.counted in
    let p = err_from_is_err_and c.from_residual.result c.from_residual.ensures.1 in
    rw (p.1, p.2) (adds_fault c.args.actions.now.items c.loop-node.actions.items c.add_round.new.actions.items (flat_map deeds c.args.line)
    (setups ++ moves) (flat_map deeds c.next.new.self) _ left counted c.loop-node.invariant.grown
    (adds_fault c.loop-node.actions.items c.loop-node.actions.items c.add_round.new.actions.items (setups ++ moves) setups moves _ refl refl (omega arith) c.in_err-add_round.ensures.adds))

pub returns-in_err-add_round-2-clause-adds : goal.returns-in_err-add_round-2-clause-adds
returns-in_err-add_round-2-clause-adds c =
    let deeds = node_deeds c.args.size in
    let setups = flat_map (round_deeds c.args.size round.Setups) c.in-Some.node in
    let moves = flat_map (round_deeds c.args.size round.Moves) c.in-Some.node in
    let left = ap (λ nodes. behind c.loop-node.actions.items (collected (flat_map deeds nodes))) (sym c.in-Some.ensures.steps) ∙ c.loop-node.invariant.left in
    let counted = ap (λ nodes. length c.loop-node.actions.items + actions_before_fault (flat_map deeds nodes)) (sym c.in-Some.ensures.steps) ∙ c.loop-node.invariant.counted in
    let p = err_from_is_err_and c.from_residual-in_err-add_round-2.result c.from_residual-in_err-add_round-2.ensures.1 in
    rw (p.1, p.2) (adds_fault c.args.actions.now.items c.loop-node.actions.items c.add_round-in-loop-node.new.actions.items (flat_map deeds c.args.line)
    (setups ++ moves) (flat_map deeds c.next.new.self) _ left counted c.loop-node.invariant.grown
    (adds_both c.loop-node.actions.items c.add_round.new.actions.items c.add_round-in-loop-node.new.actions.items setups moves
    (Err c.in_err-add_round-2.field-0.0) c.in_ok-add_round.ensures.adds c.in_err-add_round-2.ensures.adds))

use Rattle.std.proofs.Common.{◌∙◌, ◌++◌, ℕ, List, Option, None, take, get_or, ap, sym, append_assoc}
use Rattle.std.proofs.lemmas.List.{take_more}
use Rattle.go_board.specs.declared.points.Stone.TheVariants.{Empty}
use Rattle.go_record.specs.declared.actions.Action.{Action}
use Rattle.go_record.specs.declared.actions.Action.TheVariants.{Set}
use Rattle.hits_core.specs.Sgf.{action_text, actions_text}
use Rattle.hits_core.proofs.Cutting.{last_of, last-more, text-more}
use Rattle.hits_core.proofs.sgf.push_actions.Goals as goal

pub loop-action-preserved : goal.loop-action-preserved
loop-action-preserved c =
    let all = c.args.actions.now in
    let i = c.loop-action.action-index in
    let none = Set (record { column = 0; row = 0 }) (record { column = 0; row = 0 }) Empty in
    let a = get_or all i none in
    let is = c.loop-action.invariant in
    let old = c.args.text.now.items in
    let front = take_more all i none c.loop-action-test.true in
    record {
      text = c.in_ok-push_action.ensures
          ∙ (ap (λ (xs : List ℕ). xs ++ action_text c.loop-action.before a) is.text
          ∙ (append_assoc old (actions_text None (take i all)) (action_text c.loop-action.before a)
          ∙ ap (λ (xs : List ℕ). old ++ xs) (ap (λ (b : Option Action). actions_text None (take i all) ++ action_text b a) is.before
          ∙ (sym (text-more None (take i all) a) ∙ ap (actions_text None) (sym front)))));
      before = sym (ap (last_of None) front ∙ last-more None (take i all) a);
    }

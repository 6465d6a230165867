use Rattle.std.proofs.Common.{◌≡◌, ◌∙◌, ◌++◌, ℕ, List, map, ap, subst, sym}
use Rattle.std.specs.Borrow.{Bor}
use Rattle.std.proofs.lemmas.List.{length-map}
use Rattle.merge_core.specs.Merge.{IsMergeText, IsMergeFault}
use Rattle.std.specs.Prelude.{Some}
use Rattle.merge_tests.proofs.Inputs.{are_inputs}
use Rattle.merge_tests.proofs.known.join_of.Goals as goal

pub returns-in-Ok-clause-joined : goal.returns-in-Ok-clause-joined
returns-in-Ok-clause-joined g c =
    let texts = c.args.texts.now in
    let inputs = map (λ (text : Bor (List ℕ)). text.now) texts in
    let done = c.in-Ok.ensures.done inputs (are_inputs texts) (length-map texts (λ (text : Bor (List ℕ)). text.now)) in
    subst (IsMergeText c.args.form inputs) (sym (done.2 ∙ ap (λ (out : List ℕ). out ++ done.0) c.new-out.ensures.items)) done.1

pub returns-in-Err-clause-fault : goal.returns-in-Err-clause-fault
returns-in-Err-clause-fault g c =
    let texts = c.args.texts.now in
    let inputs = map (λ (text : Bor (List ℕ)). text.now) texts in
    let out = c.run_merge.new.writer.items in (
      out,
      subst (λ (none : List ℕ). IsMergeFault c.args.form inputs (Some none) (Some out) c.in-Err.fault) c.new-out.ensures.items
          (c.in-Err.ensures.fault inputs (are_inputs texts) (length-map texts (λ (text : Bor (List ℕ)). text.now))),
    )

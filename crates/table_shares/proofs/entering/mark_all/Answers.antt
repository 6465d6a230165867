use Rattle.std.proofs.Common.{◌≡◌, Some, refl, ◌∙◌, below_more}
use Rattle.table_shares.proofs.Common.{least_at, IsAtMost, IsMarkAt, IsMarkAmong, answer_at, get_or_default}
use Rattle.probe_core.specs.declared.calls.Answer.TheVariants as answer
use Rattle.gather_core.proofs.Calls.{calls_through, calls_weaker}
use Rattle.table_shares.proofs.entering.mark_all.Goals as goal

pub loop-found-preserved : goal.loop-found-preserved
loop-found-preserved g c =
    let n = c.args.table.now.slots in
    let i = c.loop-found.found-index in
    let answers = c.args.answers.now in
    let game = c.args.game in
    let number = c.in-Number.number in
    let marks = rw c.new.ensures at c.mark_first.ensures.marks in
    let is = get_or_default answers i answer.Absent (answer.Number 0) c.loop-found-test.true ∙ c.in-Number.is in
    record {
      pass = c.mark_first.ensures.pass;
      marks = calls_through n (λ _ _. ⊥) (IsMarkAmong answers game) c.args.pass.now c.loop-found.pass c.mark_first.new.pass
          c.loop-found.invariant.marks
          (calls_weaker n (λ _ _. ⊥) (λ _ _. ⊥) (IsMarkAt number (Some game)) (IsMarkAmong answers game)
          c.loop-found.pass c.mark_first.new.pass (λ key found none. none)
          (λ at marked h. ((let same : marked ≡ game = cc in same), (i, c.loop-found-test.true, is ∙ rw h.0 refl))) marks);
      marked = λ k at low met. below_more (λ j. answer_at answers j ≡ answer.Number at → IsAtMost (least_at at c.mark_first.new.pass.seen) game) i
          (λ j before same. marks.later.keeps.marks at game (c.loop-found.invariant.marked j at before same))
          (λ same. (let here : at ≡ number = cc in rw here (rw c.new.ensures at c.mark_first.ensures.marked))) k low met;
    }

use Rattle.std.proofs.Common.{ℕ, List, Option, subst, sym, ◌∙◌}
use Rattle.std.proofs.lemmas.Result.{on_ok_weaker, IfErr-weaker}
use Rattle.merge_core.specs.Merge.{AreInputs}
use Rattle.tally_parts.specs.Parts.{kinds_for}
use Rattle.tally_parts.proofs.Filled.{begun_none, part_good}
use Rattle.tally_parts.proofs.Kept.{first_filled, all_filled, all_spilled}
use Rattle.tally_parts.proofs.Fronts.{whole_out, front_out, cut_of}
use Rattle.tally_parts.proofs.runs.run_tally.Goals as goal

pub returns-then-not-feed-clause-done : goal.returns-then-not-feed-clause-done
returns-then-not-feed-clause-done g c = λ all inputs i many j few.
    let feed = c.new-feed.result in
    let next = c.fill.new.feed in
    let part = c.fill.new.part.items in
    let begun = begun_none all feed c.new-feed.ensures.next c.new-feed.ensures.waits in
    let filled = c.in_ok-fill.ensures.filled all i many begun in
    let counted = c.in_ok-only.ensures.counted filled.in_part (part_good all feed next part begun filled) (c.as_slice.ensures.value ∙ filled.joined_is) in
    let good = all_filled all feed next part c.new-feed.ensures.next c.new-feed.ensures.waits c.if-not-feed.true filled in
    on_ok_weaker c.write_alone.result (λ out. whole_out c.args.plan.text all filled.in_part _ _ good (c.in_ok-only.only, counted, out)) c.write_alone.ensures.done

pub returns-then-not-feed-clause-fault : goal.returns-then-not-feed-clause-fault
returns-then-not-feed-clause-fault g c = λ all inputs i many j few.
    let feed = c.new-feed.result in
    let next = c.fill.new.feed in
    let part = c.fill.new.part.items in
    let begun = begun_none all feed c.new-feed.ensures.next c.new-feed.ensures.waits in
    let filled = c.in_ok-fill.ensures.filled all i many begun in
    let counted = c.in_ok-only.ensures.counted filled.in_part (part_good all feed next part begun filled) (c.as_slice.ensures.value ∙ filled.joined_is) in
    let good = all_filled all feed next part c.new-feed.ensures.next c.new-feed.ensures.waits c.if-not-feed.true filled in
    IfErr-weaker c.write_alone.result _ _ (λ _ cut. front_out c.args.plan.text all filled.in_part _ _ good (cut_of c.args.plan.text filled.in_part c.in_ok-only.only _ _ counted cut)) c.write_alone.ensures.fault

pub returns-clause-done : goal.returns-clause-done
returns-clause-done g c = λ all inputs i many j few.
    let kinds = kinds_for c.args.plan.text in
    let feed = c.new-feed.result in
    let fill = c.in_ok-fill.ensures in
    let begun = begun_none all feed c.new-feed.ensures.next c.new-feed.ensures.waits in
    let filled = fill.filled all i many begun in
    let first = first_filled kinds all feed c.fill.new.feed _ _ c.fill.new.part.items c.new-feed.ensures.next c.new-feed.ensures.waits c.requires.none_kept filled in
    let spilled = c.in_ok-spill_all.ensures.spilled all (subst (λ (f : ℕ → Option (List ℕ)). AreInputs f 0 all) (sym fill.bytes) i) (many ∙ sym fill.number) first in
    let good = all_spilled kinds all c.spill_all.new.feed _ _ c.in_ok-spill_all.ensures.ended spilled in
    on_ok_weaker c.write_joined.result (whole_out c.args.plan.text all spilled.spilled.in_parts _ _ good) (c.write_joined.ensures.done spilled.spilled.in_parts inputs spilled.spilled.kept j few)

pub returns-clause-fault : goal.returns-clause-fault
returns-clause-fault g c = λ all inputs i many j few.
    let kinds = kinds_for c.args.plan.text in
    let feed = c.new-feed.result in
    let fill = c.in_ok-fill.ensures in
    let begun = begun_none all feed c.new-feed.ensures.next c.new-feed.ensures.waits in
    let filled = fill.filled all i many begun in
    let first = first_filled kinds all feed c.fill.new.feed _ _ c.fill.new.part.items c.new-feed.ensures.next c.new-feed.ensures.waits c.requires.none_kept filled in
    let spilled = c.in_ok-spill_all.ensures.spilled all (subst (λ (f : ℕ → Option (List ℕ)). AreInputs f 0 all) (sym fill.bytes) i) (many ∙ sym fill.number) first in
    let good = all_spilled kinds all c.spill_all.new.feed _ _ c.in_ok-spill_all.ensures.ended spilled in
    IfErr-weaker c.write_joined.result _ _ (λ _. front_out c.args.plan.text all spilled.spilled.in_parts _ _ good) (c.write_joined.ensures.fault spilled.spilled.in_parts inputs spilled.spilled.kept j few)

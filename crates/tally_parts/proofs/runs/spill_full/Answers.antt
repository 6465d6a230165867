use Rattle.std.proofs.Common.{ℕ, List, Option, subst, sym, ◌∙◌, arith}
use Rattle.std.specs.Prelude.{Vec}
use Rattle.std.specs.Global.{Global}
use Rattle.merge_core.specs.Merge.{AreInputs}
use Rattle.tally_parts.specs.Parts.{kinds_for}
use Rattle.tally_parts.specs.Inner.Filling.{IsFilled}
use Rattle.tally_parts.proofs.Filled.{part_good}
use Rattle.tally_parts.proofs.Kept.{part_spilled}
use Rattle.tally_parts.proofs.runs.spill_full.Goals as goal

pub part-preserved : goal.part-preserved
part-preserved g c =
    let h = c.part.invariant in
    let fill = c.count_and_fill.ensures in
    let feed = c.part.feed in
    let part = c.part.part.items in
    record {
      number = fill.number ∙ h.number;
      bytes = fill.bytes ∙ h.bytes;
      within = omega (arith, fill.within, fill.number, h.number);
      spilled = λ all i many first.
          let before = h.spilled all i many first in
          let filled = c.in_ok-dictionary.ensures.filled all (subst (λ (f : ℕ → Option (List ℕ)). AreInputs f 0 all) (sym h.bytes) i) (many ∙ sym h.number) before.filled.begun in
          let counted = c.in_ok-dictionary.ensures.counted before.filled.in_part (part_good all before.before feed part before.spilled.begun before.filled) (c.as_slice.ensures.value ∙ before.filled.joined_is) in
          record {
            before = feed;
            spilled = (part_spilled (kinds_for c.args.plan.text) all feed _ _ _ _ part c.in_ok-dictionary.dictionary before counted c.in_ok-dictionary.ensures.small c.in_ok-spill.ensures.kept).spilled;
            filled = subst (λ (v : Vec ℕ Global). IsFilled all feed c.count_and_fill.new.feed v.items) (sym c.swap.ensures.x_after) filled;
          };
    }

use Rattle.std.proofs.Common.{◌≡◌, ℕ, ◌+◌, ◌-◌, ◌*◌, ◌≤◌, List, length, if◌then◌else◌}
use Rattle.merge_core.specs.Merge.{AreInputs}
use Rattle.tally_parts.specs.Parts.{kinds_for}
use Rattle.tally_parts.specs.Inner.Joining.{IsSpilledButPart}
use Rattle.tally_parts.proofs.runs.spill_full.Given as goal

abbrev pub invariant-part : goal.invariant-part
invariant-part g l = record {
  number : g.T.Texts.number l.texts ≡ g.T.Texts.number l.fn.texts;
  bytes : g.T.Texts.bytes l.texts ≡ g.T.Texts.bytes l.fn.texts;
  within : l.feed.next ≤ g.T.Texts.number l.fn.texts;
  spilled : (all : List (List ℕ)) → AreInputs (g.T.Texts.bytes l.fn.texts) 0 all → length all ≡ g.T.Texts.number l.fn.texts →
      IsSpilledButPart (kinds_for l.plan.text) all l.fn.feed l.fn.part.items (g.S.Sources.number l.fn.spills) (g.S.Sources.bytes l.fn.spills) →
      IsSpilledButPart (kinds_for l.plan.text) all l.feed l.part.items (g.S.Sources.number l.spills) (g.S.Sources.bytes l.spills);
}

-- each part takes a text more, but for the last one
abbrev pub decreases-part : goal.decreases-part
decreases-part g l = 2 * (g.T.Texts.number l.fn.texts - l.feed.next) + (if l.feed.waits then 1 else 0)

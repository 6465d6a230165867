use Rattle.std.proofs.Common.{◌≡◌, ℕ, ◌≤◌, false, List, length}
use Rattle.merge_core.specs.Merge.{AreInputs}
use Rattle.tally_parts.specs.Inner.Filling.{IsPut}
use Rattle.tally_parts.proofs.filling.fill.Given as goal

abbrev pub invariant-loop-n : goal.invariant-loop-n
invariant-loop-n g l = record {
  number : g.T.Texts.number l.texts ≡ g.T.Texts.number l.fn.texts;
  bytes : g.T.Texts.bytes l.texts ≡ g.T.Texts.bytes l.fn.texts;
  waits : l.feed.waits ≡ false;
  next : l.feed.next ≡ l.n;
  on : l.fn.feed.next ≤ l.n;
  within : l.n ≤ g.T.Texts.number l.fn.texts;
  put : (all : List (List ℕ)) → AreInputs (g.T.Texts.bytes l.fn.texts) 0 all → length all ≡ g.T.Texts.number l.fn.texts → IsPut all l.fn.feed l.n l.part.items;
}

use Rattle.std.proofs.Common.{◌≡◌, ◌+◌, ◌<◌, ◌^◌, ℕ, length, get_or, drop}
use Rattle.beyond_core.specs.Inner.TooMany.{new_count}
use Rattle.beyond_core.proofs.reaching.count_firsts.Given as goal

-- with the entries that are left they would be all
abbrev pub invariant-loop-entry : goal.invariant-loop-entry
invariant-loop-entry l = record {
  long : length l.counts ≡ length l.fn.counts;
  few : (i : ℕ) → i < length l.counts → get_or l.counts i 0 + length (drop l.entry-index l.entries) < 2 ^ 64;
  left : (i : ℕ) → i < length l.counts → get_or l.counts i 0 + new_count i (drop l.entry-index l.entries) ≡ get_or l.fn.counts i 0 + new_count i l.entries;
}

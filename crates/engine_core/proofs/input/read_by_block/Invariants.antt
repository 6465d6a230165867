use Rattle.std.proofs.Common.{◌≡◌, ◌+◌, ◌-◌, ◌^◌, ◌≤◌, vec_len, length}
use Rattle.std.specs.Io.KnownBytes.{Consumes}
use Rattle.engine_core.specs.declared.input.TheConstants.{BLOCK}
use Rattle.engine_core.proofs.input.read_by_block.Given as goal

abbrev pub invariant-loop-input : goal.invariant-loop-input
invariant-loop-input g l = record {
  within : vec_len l.input ≤ 2 ^ 28 + 1;
  room : length l.block ≡ BLOCK;
  taken : Consumes (g.R.Read.remaining l.fn.reader) (g.R.Read.remaining l.reader) l.input.items;
}

abbrev pub decreases-loop-input : goal.decreases-loop-input
decreases-loop-input g l = 2 ^ 28 + 1 - vec_len l.input

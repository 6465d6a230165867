use Rattle.std.proofs.Common.{◌≤◌, ◌-◌, length, take}
use Rattle.shape_dict.specs.Inner.Parsing.{AreDigits}
use Rattle.shape_dict.proofs.numbers.count_digits.Given as goal

abbrev pub invariant-loop-count : goal.invariant-loop-count
invariant-loop-count l = record {
  fits : l.count ≤ length l.bytes;
  digits : AreDigits (take l.count l.bytes);
}

abbrev pub decreases-loop-count : goal.decreases-loop-count
decreases-loop-count l = length l.bytes - l.count

use Rattle.std.proofs.Common.{◌≡◌, ◌≤◌, ◌<◌, ◌-◌, ◌^◌, length, take}
use Rattle.shape_dict.specs.Inner.Parsing.{AreDigits, read_on}
use Rattle.shape_dict.proofs.quick.quick_digits.Given as goal

abbrev pub invariant-loop-count : goal.invariant-loop-count
invariant-loop-count l = record {
  fits : l.count ≤ length l.bytes;
  few : l.count ≤ 18;
  digits : AreDigits (take l.count l.bytes);
  value : l.value ≡ read_on 0 (take l.count l.bytes);
  small : l.value < 10 ^ l.count;
}

abbrev pub decreases-loop-count : goal.decreases-loop-count
decreases-loop-count l = length l.bytes - l.count

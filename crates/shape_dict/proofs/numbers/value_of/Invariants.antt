use Rattle.std.proofs.Common.{◌≡◌, drop}
use Rattle.shape_dict.specs.Inner.Parsing.{AreDigits, read_on}
use Rattle.shape_dict.proofs.numbers.value_of.Given as goal

abbrev pub invariant-loop-byte : goal.invariant-loop-byte
invariant-loop-byte l = record {
  digits : AreDigits (drop l.byte-index l.digits);
  left : read_on l.value (drop l.byte-index l.digits) ≡ read_on 0 l.digits;
}

use Rattle.std.proofs.Common.{◌≡◌, ◌-◌, ◌*◌, ◌/◌, ◌^◌, take, length}
use Rattle.shape_dict.specs.Text.{hexadecimal}
use Rattle.shape_dict.proofs.writing.word_digits.Given as goal

abbrev pub invariant-loop-place : goal.invariant-loop-place
invariant-loop-place l = record {
  room : length l.digits ≡ 13;
  written : take l.place l.digits ≡ hexadecimal l.place (l.number / 2 ^ (52 - 4 * l.place));
}

use Rattle.std.proofs.Common.{◌≡◌, ◌≤◌, min, drop}
use Rattle.std.specs.List.{list_all}
use Rattle.go_record.specs.Spelling.{is_digit, digits_after}
use Rattle.go_record.specs.declared.spelling.TheConstants.{CAP}
use Rattle.go_record.proofs.spelling.unsigned.Given as goal

abbrev pub invariant-loop-digit : goal.invariant-loop-digit
invariant-loop-digit l = record {
  small : l.total ≤ CAP;
  digits : list_all is_digit (drop l.digit-index l.digits) ≡ list_all is_digit l.digits;
  number : min (digits_after l.total (drop l.digit-index l.digits)) CAP ≡ min (digits_after 0 l.digits) CAP;
}

use Rattle.std.proofs.Common.{◌≡◌, ◌++◌, map, take}
use Rattle.game_files.specs.Shown.{shown_byte}
use Rattle.game_files.proofs.showing.push_name.Given as goal

abbrev pub invariant-loop-byte : goal.invariant-loop-byte
invariant-loop-byte l = l.text.items ≡ l.fn.text.items ++ map shown_byte (take l.byte-index l.bytes)

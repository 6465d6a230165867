use Rattle.std.proofs.Common.{◌≡◌, ◌++◌, drop}
use Rattle.listing_core.specs.Simple.{simple_text, text_after}
use Rattle.listing_core.proofs.simple.push_simple.Given as goal

abbrev pub invariant-loop-byte : goal.invariant-loop-byte
invariant-loop-byte l =
    l.text.items ++ text_after l.before (drop l.byte-index l.bytes) ≡ l.fn.text.items ++ simple_text l.bytes

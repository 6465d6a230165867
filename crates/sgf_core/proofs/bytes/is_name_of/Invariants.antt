use Rattle.std.proofs.Common.{◌≡◌, ◌≤◌, ◌↔◌, drop, length}
use Rattle.sgf_core.specs.Tree.{name_of}
use Rattle.sgf_core.proofs.bytes.is_name_of.Given as goal

-- the rest of the name is that of the rest of the identifier exactly if the whole name is the identifier's
abbrev pub invariant-loop-byte : goal.invariant-loop-byte
invariant-loop-byte l = record {
  within : l.place ≤ length l.name;
  rest : (name_of (drop l.byte-index l.identifier) ≡ drop l.place l.name) ↔ (name_of l.identifier ≡ l.name);
}

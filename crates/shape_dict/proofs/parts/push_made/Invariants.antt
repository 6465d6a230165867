use Rattle.std.proofs.Common.{◌≡◌, ◌++◌, All, IsOk}
use Rattle.std.specs.List.{flat_map}
use Rattle.shape_dict.specs.Parts.{joined}
use Rattle.shape_dict.specs.Inner.Parts.{bytes_of}
use Rattle.shape_dict.proofs.parts.push_made.Given as goal

abbrev pub invariant-loop-part : goal.invariant-loop-part
invariant-loop-part l = record {
  joined : joined l.parts.items ≡ joined l.fn.parts.items ++ flat_map bytes_of l.yielded;
  all : All IsOk l.yielded;
}

use Rattle.std.proofs.Common.{◌≡◌, All, IsOk}
use Rattle.std.specs.List.{flat_map}
use Rattle.hits_core.specs.Hits.{first_of}
use Rattle.hits_core.specs.Inner.Parts.{hits_made}
use Rattle.hits_core.proofs.parts.joined.Given as goal

abbrev pub invariant-loop-part : goal.invariant-loop-part
invariant-loop-part l = record {
  asked : l.found.most ≡ l.initial.found.most;
  joined : l.found.hits.items ≡ first_of l.initial.found.most (flat_map hits_made l.yielded);
  all : All IsOk l.yielded;
}

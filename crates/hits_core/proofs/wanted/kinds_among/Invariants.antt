use Rattle.std.proofs.Common.{◌≡◌, All, take}
use Rattle.shape_core.specs.Word.{kind_of}
use Rattle.shape_core.specs.declared.words.Kind.TheVariants as kind
use Rattle.hits_core.proofs.wanted.kinds_among.Given as goal

abbrev pub invariant-loop-shape : goal.invariant-loop-shape
invariant-loop-shape l = All (λ word. kind_of word ≡ kind.Square) (take l.shape-index l.words)

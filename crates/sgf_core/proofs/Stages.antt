-- What the marks of a tree lead to after its first, mark by mark.
use Rattle.std.proofs.Common.{◌≡◌, ℕ, zero, suc, List, [], ◌∷◌, ◌++◌, refl, sym, ◌∙◌}
use Rattle.sgf_core.specs.Tree.{PropertyValue}
use Rattle.sgf_core.specs.declared.marks.Mark.{Mark}
use Rattle.sgf_core.specs.declared.marks.Mark.TheVariants as mark
use Rattle.sgf_core.specs.declared.marks.Expects.{Expects}
use Rattle.sgf_core.specs.declared.marks.Expects.TheVariants as expects

-- no front of a tree; the tree; or less than it, within this many trees beside the innermost
pub data Stage : Type 0 where
  wrong : Stage
  finished : Stage
  inside : (expected : Expects) → (depth : ℕ) → Stage

abbrev pub ended : ℕ → Stage
ended zero = finished
ended (suc depth) = inside expects.Tree depth

-- only a property with a value goes on
abbrev pub valued_stage : List PropertyValue → ℕ → Stage
valued_stage [] depth = wrong
valued_stage (value ∷ values) depth = inside expects.Any depth

abbrev pub follow : Stage → Mark → Stage
follow wrong m = wrong
follow finished m = wrong
follow (inside expects.Node depth) mark.Node = inside expects.Any depth
follow (inside expects.Node depth) mark.Begin = wrong
follow (inside expects.Node depth) (mark.Prop property) = wrong
follow (inside expects.Node depth) mark.End = wrong
follow (inside expects.Any depth) mark.Node = inside expects.Any depth
follow (inside expects.Any depth) (mark.Prop property) = valued_stage property.values depth
follow (inside expects.Any depth) mark.Begin = inside expects.Node (suc depth)
follow (inside expects.Any depth) mark.End = ended depth
follow (inside expects.Tree depth) mark.Begin = inside expects.Node (suc depth)
follow (inside expects.Tree depth) mark.End = ended depth
follow (inside expects.Tree depth) mark.Node = wrong
follow (inside expects.Tree depth) (mark.Prop property) = wrong

abbrev pub follow_all : Stage → List Mark → Stage
follow_all stage [] = stage
follow_all stage (m ∷ marks) = follow_all (follow stage m) marks

pub follow_all-append : (stage : Stage) (a b : List Mark) → follow_all stage (a ++ b) ≡ follow_all (follow_all stage a) b
follow_all-append stage [] b = refl
follow_all-append stage (m ∷ a) b = follow_all-append (follow stage m) a b

pub follow_wrong : (a : List Mark) → follow_all wrong a ≡ wrong
follow_wrong [] = refl
follow_wrong (m ∷ a) = follow_wrong a

-- after the end nothing comes
pub follow_finished : (a : List Mark) → follow_all finished a ≡ finished → a ≡ []
follow_finished [] h = refl
follow_finished (m ∷ a) h = let e : wrong ≡ finished = sym (follow_wrong a) ∙ h in cc

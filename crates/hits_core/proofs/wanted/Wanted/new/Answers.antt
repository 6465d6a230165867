use Rattle.std.proofs.Common.{◌≡◌, ◌==◌, All, ℕ, List, sym, subst}
use Rattle.std.proofs.lemmas.List.Sorted.{IsNonDecreasingBy-from_sort, list_any-IsPermutation}
use Rattle.shape_core.specs.Word.{kind_of}
use Rattle.shape_core.specs.declared.words.Kind.TheVariants as kind
use Rattle.hits_core.proofs.wanted.Wanted.new.Goals as goal

pub invariant_of-result : goal.invariant_of-result
invariant_of-result c = record {
  rise = λ i j below inside. IsNonDecreasingBy-from_sort (λ x. x) c.sort_unstable.new.self.items c.sort_unstable.ensures.sorted i j 0 below inside;
  squares = λ is. subst (λ (words : List ℕ). All (λ word. kind_of word ≡ kind.Square) words) c.deref.ensures.value (c.kinds_among-kinds.ensures is);
}

pub returns : goal.returns
returns c = λ word. sym (list_any-IsPermutation (λ w. w == word) c.args.words.items c.sort_unstable.new.self.items c.sort_unstable.ensures.permutation)

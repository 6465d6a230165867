-- Which dictionaries of those that were looked at can't be joined.
use Rattle.std.proofs.Common.{◌≡◌, ◌+◌, ◌∙◌, ℕ, List, Some, sym, subst, below_more}
use Rattle.std.specs.Prelude.{slice_get}
use Rattle.std.specs.Borrow.{Bor}
use Rattle.shape_merge.specs.Files.{AreFreeBelow, IsBarred, IsBarredAt}
use Rattle.shape_merge.specs.declared.files.FileIdentity.{FileIdentity}
use Rattle.shape_merge.specs.declared.files.Sights.{Sights}
use Rattle.shape_merge.specs.declared.words.Asked.{Asked}

-- a dictionary that can be joined
pub free_here : (asked : Asked) (sights : Sights) (k : ℕ) (name : Bor (List ℕ)) (dictionary : FileIdentity) → slice_get asked.names.items k ≡ Some name → slice_get sights.dictionaries.items k ≡ Some dictionary →
    (IsBarred asked sights.target name.now dictionary → ⊥) → (other : Bor (List ℕ)) → IsBarredAt asked sights k other → ⊥
free_here asked sights k name dictionary named identified free other at =
    let same_name : other ≡ name = let both = sym at.named ∙ named in cc in
    let same_dictionary : at.dictionary ≡ dictionary = let both = sym at.identified ∙ identified in cc in
    free (subst (λ (f : FileIdentity). IsBarred asked sights.target name.now f) same_dictionary (subst (λ (n : Bor (List ℕ)). IsBarred asked sights.target n.now at.dictionary) same_name at.barred))

-- one more dictionary that can be joined
pub free_more : (asked : Asked) (sights : Sights) (k : ℕ) → AreFreeBelow asked sights k → ((other : Bor (List ℕ)) → IsBarredAt asked sights k other → ⊥) → AreFreeBelow asked sights (k + 1)
free_more asked sights k free here = below_more _ _ free here

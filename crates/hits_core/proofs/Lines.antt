-- Words read line by line.
use Rattle.std.proofs.Common.{◌≡◌, ◌≢◌, ℕ, suc, ◌+◌, List, [], ◌∷◌, ◌++◌, length, inl, inr, refl, sym, subst, arith, append_assoc, length-append}
use Rattle.std.proofs.lemmas.List.{append-nil}
use Rattle.hits_core.specs.WordLists.{first_line, other_lines, HasWord, AreWordsOf, IsBadLine}
use Rattle.hits_core.specs.Inner.WordLists.{IsReadUpTo}

pub read-begins : (bytes : List ℕ) → IsReadUpTo bytes bytes []
read-begins bytes = record { others = λ more h. h; bad = λ line h. subst (IsBadLine bytes) (omega arith) h }

pub read-on : (bytes rest words : List ℕ) (word : ℕ) → IsReadUpTo bytes rest words → rest ≢ [] → HasWord (first_line rest) word → IsReadUpTo bytes (other_lines rest) (words ++ word ∷ [])
read-on bytes rest words word up some has = record {
  others = λ more h. subst (AreWordsOf bytes) (sym (append_assoc words (word ∷ []) more)) (up.others (word ∷ more) (some, has, h));
  bad = λ line h.
      let next : length words + suc line ≡ length (words ++ word ∷ []) + line = omega (arith, length-append words (word ∷ [])) in
      subst (IsBadLine bytes) next (up.bad (suc line) (some, inr (word, has, h)));
}

pub read-ends : (bytes rest words : List ℕ) → IsReadUpTo bytes rest words → rest ≡ [] → AreWordsOf bytes words
read-ends bytes rest words up none = subst (AreWordsOf bytes) (append-nil words) (up.others [] none)

pub read-stops : (bytes rest words : List ℕ) → IsReadUpTo bytes rest words → rest ≢ [] → ((word : ℕ) → HasWord (first_line rest) word → ⊥) → IsBadLine bytes (length words + 1)
read-stops bytes rest words up some none = up.bad 1 (some, inl (refl, none))

-- Joins of texts may be made of parts: those of the first dictionaries, those of the ones that follow, and then of both.
use Rattle.std.proofs.Common.{◌≡◌, ℕ, ◌+◌, ◌≤◌, List, [], ◌∷◌, ◌++◌, length, ap, sym, subst, ◌∙◌, append_assoc, arith, length-append}
use Rattle.shape_dict.specs.Contents.{Contents}
use Rattle.shape_dict.specs.Join.{IsJoin, IsOverflow}
use Rattle.shape_dict.proofs.Regrouped.{sum_is_dictionary, sum_has_kinds, joins_follow, joins_append}
use Rattle.engine_core.specs.Joins.{AreTextsOf, IsJoinedText}
use Rattle.engine_core.proofs.Joined.{text_has_byte}

texts_append : (all more : List Contents) (read text : List ℕ) → AreTextsOf all read → AreTextsOf more text → AreTextsOf (all ++ more) (read ++ text)
texts_append [] more read text h k = subst (λ (x : List ℕ). AreTextsOf more (x ++ text)) (sym h) k
texts_append (one ∷ all) more read text h k =
    (h.0, h.1 ++ text, h.2, ap (λ (xs : List ℕ). xs ++ text) h.3 ∙ append_assoc h.0 h.1 text, texts_append all more h.1 text h.4 k)

-- the texts of two batches, and the join of their sums
pub both_joined : (read text : List ℕ) (m n : ℕ) (left right sum : Contents) → IsJoinedText read m left → IsJoinedText text n right → left.counts_diamonds ≡ right.counts_diamonds → (IsOverflow left right → ⊥) → IsJoin left right sum →
    IsJoinedText (read ++ text) (m + n) sum
both_joined read text m n left right sum h k kinds fits join = record {
  first = h.first;
  others = h.others ++ k.first ∷ k.others;
  texts = texts_append (h.first ∷ h.others) (k.first ∷ k.others) read text h.texts k.texts;
  counted = omega (arith, length-append h.others (k.first ∷ k.others), h.counted, k.counted);
  joined = joins_append h.first h.others left (k.first ∷ k.others) sum h.joined
      (joins_follow left k.first k.others right sum (sum_is_dictionary h.first h.others left h.texts.2.dictionary h.joined) k.texts.2.dictionary (kinds ∙ sum_has_kinds k.first k.others right k.joined) k.joined fits join);
}

-- each text has a byte
texts_have_bytes : (all : List Contents) (bytes : List ℕ) → AreTextsOf all bytes → length all ≤ length bytes
texts_have_bytes [] bytes h = omega arith
texts_have_bytes (one ∷ all) bytes h =
    omega (arith, ap length h.3, length-append h.0 h.1, text_has_byte one h.0 h.2, texts_have_bytes all h.1 h.4)

pub no_more_than_bytes : (bytes : List ℕ) (number : ℕ) (sum : Contents) → IsJoinedText bytes number sum → number ≤ length bytes
no_more_than_bytes bytes number sum h = omega (arith, h.counted, texts_have_bytes (h.first ∷ h.others) bytes h.texts)

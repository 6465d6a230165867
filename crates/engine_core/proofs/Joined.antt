-- Texts of dictionaries one after another, and their joins: one more of them, and the first fault.
use Rattle.std.proofs.Common.{◌≡◌, ◌≢◌, ℕ, zero, suc, ◌+◌, ◌-◌, ◌^◌, ◌<◌, ◌≤◌, inl, inr, List, [], ◌∷◌, ◌++◌, length, take, drop, ap, sym, refl, subst, ◌∙◌, append_assoc, arith, take-add, length-append}
use Rattle.std.proofs.lemmas.List.{take_all, take-append-drop, append-nil, length-drop}
use Rattle.shape_dict.specs.declared.entries.Text.{Text}
use Rattle.shape_dict.specs.declared.entries.Text.TheVariants as kind
use Rattle.shape_dict.specs.Contents.{Contents}
use Rattle.shape_dict.specs.Text.{text_of}
use Rattle.shape_dict.specs.Reading.{IsTextOf, IsFrontFault}
use Rattle.shape_dict.specs.Join.{IsJoin, IsJoinOf, IsJoinFault, IsOverflow}
use Rattle.shape_dict.specs.declared.faults.DictFault.{DictFault}
use Rattle.shape_dict.specs.declared.faults.DictFault.TheVariants as dict_fault
use Rattle.engine_core.specs.Joins.{AreTextsOf, IsJoinedText, WereJoined, IsBadText, IsNotAdded, IsDictionaryFault}
use Rattle.engine_core.specs.Inner.Joins.{IsNextText, IsAddFault}

some_text : (t : Text) (contents : Contents) → 0 < length (text_of t contents)
some_text kind.One contents = omega arith
some_text kind.Two contents = omega arith
some_text kind.Three contents = omega arith

-- a text has a byte
pub text_has_byte : (contents : Contents) (bytes : List ℕ) → IsTextOf contents bytes → 0 < length bytes
text_has_byte contents bytes h = omega (arith, some_text h.text contents, ap length h.same)

pub next_has_byte : (bytes : List ℕ) (count : ℕ) (next : Contents) → IsNextText bytes count next → 0 < count
next_has_byte bytes zero next h = let some = text_has_byte next [] h.is_text in absurd (omega arith)
next_has_byte bytes (suc count) next h = omega arith

-- the rest of a slice
pub rest_is : (bytes : List ℕ) (at : ℕ) → take (length bytes - at) (drop at bytes) ≡ drop at bytes
rest_is bytes at = take_all (length bytes - at) (drop at bytes) (rw length-drop (omega arith))

pub all_taken : (bytes : List ℕ) (at : ℕ) → length bytes ≤ at → take at bytes ≡ bytes
all_taken bytes at all = take_all at bytes all

texts_more : (all : List Contents) (next : Contents) (read text : List ℕ) → AreTextsOf all read → IsTextOf next text → AreTextsOf (all ++ next ∷ []) (read ++ text)
texts_more [] next read text h is = (text, [], is, ap (λ xs. xs ++ text) h ∙ sym (append-nil text), refl)
texts_more (one ∷ all) next read text h is =
    (h.0, h.1 ++ text, h.2, ap (λ xs. xs ++ text) h.3 ∙ append_assoc h.0 h.1 text, texts_more all next h.1 text h.4 is)

joins_more : (first : Contents) (others : List Contents) (sum next both : Contents) → IsJoinOf first others sum → (IsOverflow sum next → ⊥) → IsJoin sum next both → IsJoinOf first (others ++ next ∷ []) both
joins_more first [] sum next both h fits join =
    (both, subst (λ (left : Contents). IsOverflow left next → ⊥) h fits, subst (λ (left : Contents). IsJoin left next both) h join, refl)
joins_more first (one ∷ others) sum next both h fits join = (h.0, h.1, h.2, joins_more h.0 others sum next both h.3 fits join)

-- the first dictionary is its own join
pub first_joined : (input : List ℕ) (at : ℕ) (first : Contents) → IsTextOf first (take at input) → IsJoinedText (take at input) 1 first
first_joined input at first is = record {
  first = first;
  others = [];
  texts = (take at input, [], is, sym (append-nil (take at input)), refl);
  counted = refl;
  joined = refl;
}

-- one dictionary more
pub more_joined : (input : List ℕ) (at count number : ℕ) (sum next both : Contents) →
    IsJoinedText (take at input) number sum → IsNextText (drop at input) count next → (IsOverflow sum next → ⊥) → IsJoin sum next both → IsJoinedText (take (at + count) input) (number + 1) both
more_joined input at count number sum next both h text fits join = record {
  first = h.first;
  others = h.others ++ next ∷ [];
  texts = subst (AreTextsOf (h.first ∷ (h.others ++ next ∷ []))) (sym (take-add at count input))
      (texts_more (h.first ∷ h.others) next (take at input) (take count (drop at input)) h.texts text.is_text);
  counted = omega (arith, length-append h.others (next ∷ []), h.counted);
  joined = joins_more h.first h.others sum next both h.joined fits join;
}

-- what was joined before a next text
joined_before : (number : ℕ) (read left : List ℕ) (sum : Contents) → IsJoinedText read number sum → left ≢ [] → WereJoined number read left
joined_before zero read left sum h some = absurd (omega (arith, h.counted))
joined_before (suc n) read left sum h some = (sum, h, some)

not_empty : (bytes : List ℕ) → 0 < length bytes → bytes ≢ []
not_empty bytes some none = omega (arith, ap length none)

-- a fault is the first after what was joined
bad_text : (input read left : List ℕ) (before : ℕ) (found : DictFault) → input ≡ read ++ left → WereJoined before read left → length input ≤ 2 ^ 28 → IsFrontFault left found → IsBadText input (before + 1) found
bad_text input read left before found parts joined few stands = record { few = few; before = before; read = read; left = left; at = refl; parts = parts; joined = joined; stands = stands }

bad_fault : (input read left : List ℕ) (before : ℕ) (found : DictFault) → input ≡ read ++ left → WereJoined before read left → length input ≤ 2 ^ 28 → IsFrontFault left found → IsDictionaryFault input (before + 1) found
bad_fault input read left before dict_fault.Memory parts joined few stands = inl (bad_text input read left before dict_fault.Memory parts joined few stands)
bad_fault input read left before dict_fault.TooLarge parts joined few stands = absurd (omega (arith, ap length parts, length-append read left, stands))
bad_fault input read left before dict_fault.Overflow parts joined few stands = absurd stands.1
bad_fault input read left before dict_fault.MixedKinds parts joined few stands = absurd stands.1
bad_fault input read left before dict_fault.BadHeader parts joined few stands = bad_text input read left before dict_fault.BadHeader parts joined few stands
bad_fault input read left before (dict_fault.BadLine line) parts joined few stands = bad_text input read left before (dict_fault.BadLine line) parts joined few stands
bad_fault input read left before (dict_fault.NotRising line) parts joined few stands = bad_text input read left before (dict_fault.NotRising line) parts joined few stands
bad_fault input read left before (dict_fault.NotCanonical line) parts joined few stands = bad_text input read left before (dict_fault.NotCanonical line) parts joined few stands
bad_fault input read left before dict_fault.WrongTotals parts joined few stands = bad_text input read left before dict_fault.WrongTotals parts joined few stands

-- the next one was read, and cannot be added
not_added_parts : (input : List ℕ) (at count : ℕ) → input ≡ take at input ++ take count (drop at input) ++ drop count (drop at input)
not_added_parts input at count =
    sym (take-append-drop at input) ∙ (ap (λ xs. take at input ++ xs) (sym (take-append-drop count (drop at input)))
    ∙ sym (append_assoc (take at input) (take count (drop at input)) (drop count (drop at input))))

not_added : (input : List ℕ) (at count before : ℕ) (sum next : Contents) (found : DictFault) →
    length input ≤ 2 ^ 28 → IsJoinedText (take at input) before sum → IsNextText (drop at input) count next → IsJoinFault sum next found → IsNotAdded input (before + 1) found
not_added input at count before sum next found few joined text stands = record {
  few = few;
  before = before;
  read = take at input;
  text = take count (drop at input);
  left = drop count (drop at input);
  sum = sum;
  next = next;
  at = refl;
  parts = not_added_parts input at count;
  joined = joined;
  is_text = text.is_text;
  stands = stands;
}

refused : (input : List ℕ) (at count before : ℕ) (sum next : Contents) (found : DictFault) →
    length input ≤ 2 ^ 28 → IsJoinedText (take at input) before sum → IsNextText (drop at input) count next → IsJoinFault sum next found → IsDictionaryFault input (before + 1) found
refused input at count before sum next dict_fault.Memory few joined text stands = inr (inl (not_added input at count before sum next dict_fault.Memory few joined text stands))
refused input at count before sum next dict_fault.Overflow few joined text stands = not_added input at count before sum next dict_fault.Overflow few joined text stands
refused input at count before sum next dict_fault.MixedKinds few joined text stands = not_added input at count before sum next dict_fault.MixedKinds few joined text stands
refused input at count before sum next dict_fault.BadHeader few joined text stands = absurd stands
refused input at count before sum next (dict_fault.BadLine line) few joined text stands = absurd stands
refused input at count before sum next (dict_fault.NotRising line) few joined text stands = absurd stands
refused input at count before sum next (dict_fault.NotCanonical line) few joined text stands = absurd stands
refused input at count before sum next dict_fault.WrongTotals few joined text stands = absurd stands
refused input at count before sum next dict_fault.TooLarge few joined text stands = absurd stands

pub add_fault : (input : List ℕ) (at before : ℕ) (sum : Contents) (found : DictFault) →
    IsJoinedText (take at input) before sum → at < length input → length input ≤ 2 ^ 28 → IsAddFault sum (drop at input) found → IsDictionaryFault input (before + 1) found
add_fault input at before sum found joined more few (inl stands) =
    let some : 0 < length (drop at input) = rw length-drop (omega arith) in
    bad_fault input (take at input) (drop at input) before found (sym (take-append-drop at input))
    (joined_before before (take at input) (drop at input) sum joined (not_empty (drop at input) some)) few stands
add_fault input at before sum found joined more few (inr stands) =
    refused input at stands.0 before sum stands.1 found few joined stands.2 stands.3

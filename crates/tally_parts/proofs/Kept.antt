-- Dictionaries whose texts are kept: one more of them, with the part that it is of.
use Rattle.std.proofs.Common.{◌≡◌, ℕ, ◌+◌, ◌<◌, List, [], ◌∷◌, ◌++◌, length, drop, false, Option, refl, ap, sym, subst, ◌∙◌, arith, append_assoc, length-append}
use Rattle.std.proofs.lemmas.List.{append-nil, drop_all}
use Rattle.shape_core.specs.declared.words.Kinds.{Kinds}
use Rattle.shape_dict.specs.Contents.{Contents}
use Rattle.shape_dict.specs.Text.{IsSmall}
use Rattle.tally_parts.specs.Parts.{AreGood, IsDictionaryOfTexts}
use Rattle.tally_parts.specs.Inner.Filling.{IsFilled, waiting_of}
use Rattle.tally_parts.specs.Inner.Joining.{AreOfParts, IsTextThere, AreTextsThere, IsKept, ArePartsKept, IsSpilled, IsSpilledButPart, IsSpilledSoFar}
use Rattle.tally_parts.specs.declared.filling.Feed.{Feed}
use Rattle.tally_parts.proofs.Good.{good_append}
use Rattle.tally_parts.proofs.Filled.{begun_none, waiting_none}

there_more : (bytes after : ℕ → Option (List ℕ)) (from number : ℕ) (dictionaries : List Contents) (next : Contents) → number ≡ from + length dictionaries →
    ((n : ℕ) → n < number → after n ≡ bytes n) → IsTextThere (after number) next → AreTextsThere bytes from dictionaries → AreTextsThere after from (dictionaries ++ next ∷ [])
there_more bytes after from number [] next at same last h =
    let here : number ≡ from = omega arith in
    (subst (λ (n : ℕ). IsTextThere (after n) next) here last, tt)
there_more bytes after from number (one ∷ dictionaries) next at same last h = (
  subst (λ (x : Option (List ℕ)). IsTextThere x one) (sym (same from (omega arith))) h.0,
  there_more bytes after (from + 1) number dictionaries next (omega arith) same last h.1,
)

parts_more : (kinds : Kinds) (texts part : List (List ℕ)) (dictionaries : List Contents) (next : Contents) → AreOfParts kinds texts dictionaries → IsDictionaryOfTexts kinds part next → IsSmall next →
    AreOfParts kinds (texts ++ part) (dictionaries ++ next ∷ [])
parts_more kinds texts part [] next h is small =
    (part, [], ap (λ (x : List (List ℕ)). x ++ part) h ∙ sym (append-nil part), is, small, refl)
parts_more kinds texts part (one ∷ dictionaries) next h is small =
    (h.0, h.1 ++ part, ap (λ (x : List (List ℕ)). x ++ part) h.2 ∙ append_assoc h.0 h.1 part, h.3, h.4, parts_more kinds h.1 part dictionaries next h.5 is small)

kept_more : (kinds : Kinds) (texts part : List (List ℕ)) (number after : ℕ) (bytes bytes_after : ℕ → Option (List ℕ)) (next : Contents) → ArePartsKept kinds texts number bytes →
    IsDictionaryOfTexts kinds part next → IsSmall next → IsKept number bytes after bytes_after next → ArePartsKept kinds (texts ++ part) after bytes_after
kept_more kinds texts part number after bytes bytes_after next h is small k = record {
  dictionaries = h.dictionaries ++ next ∷ [];
  of_parts = parts_more kinds texts part h.dictionaries next h.of_parts is small;
  many = length-append h.dictionaries (next ∷ []) ∙ ap (λ (n : ℕ). n + 1) h.many ∙ sym k.one_more;
  there = there_more bytes bytes_after 0 number h.dictionaries next (omega (arith, h.many)) k.others k.last h.there;
}

all_read : (read all : List (List ℕ)) (n : ℕ) → all ≡ read ++ drop n all → n ≡ length all → all ≡ read
all_read read all n h end = h ∙ ap (λ (x : List (List ℕ)). read ++ x) (drop_all n all (omega arith)) ∙ append-nil read

-- nothing was read, and nothing is kept
spilled_none : (kinds : Kinds) (all : List (List ℕ)) (feed : Feed) (number : ℕ) (bytes : ℕ → Option (List ℕ)) → feed.next ≡ 0 → feed.waits ≡ false → number ≡ 0 → IsSpilled kinds all feed number bytes
spilled_none kinds all feed number bytes next waits none = record {
  begun = begun_none all feed next waits;
  read = [];
  good = [];
  in_parts = [];
  are_read = ap (λ (n : ℕ). drop n all) (sym next);
  are_good = refl;
  parted = sym (waiting_none feed waits);
  kept = record { dictionaries = []; of_parts = refl; many = sym none; there = tt };
}

-- one part more is kept
pub spilled_more : (kinds : Kinds) (all : List (List ℕ)) (before feed : Feed) (number after : ℕ) (bytes bytes_after : ℕ → Option (List ℕ)) (part : List ℕ) (next : Contents) →
    IsSpilled kinds all before number bytes → (f : IsFilled all before feed part) → IsDictionaryOfTexts kinds f.in_part next → IsSmall next → IsKept number bytes after bytes_after next →
    IsSpilled kinds all feed after bytes_after
spilled_more kinds all before feed number after bytes bytes_after part next h f is small k = record {
  begun = f.begun;
  read = h.read ++ f.read;
  good = h.good ++ f.good;
  in_parts = h.in_parts ++ f.in_part;
  are_read = h.are_read ∙ ap (λ (x : List (List ℕ)). h.read ++ x) f.are_read ∙ sym (append_assoc h.read f.read (drop feed.next all));
  are_good = good_append h.read f.read h.good f.good h.are_good f.are_good;
  parted = ap (λ (x : List (List ℕ)). x ++ f.good) h.parted
      ∙ append_assoc h.in_parts (waiting_of before) f.good
      ∙ ap (λ (x : List (List ℕ)). h.in_parts ++ x) f.parted
      ∙ sym (append_assoc h.in_parts f.in_part (waiting_of feed));
  kept = kept_more kinds h.in_parts f.in_part number after bytes bytes_after next h.kept is small k;
}

-- the first part is filled, and nothing is kept
pub first_filled : (kinds : Kinds) (all : List (List ℕ)) (before feed : Feed) (number : ℕ) (bytes : ℕ → Option (List ℕ)) (part : List ℕ) →
    before.next ≡ 0 → before.waits ≡ false → number ≡ 0 → IsFilled all before feed part → IsSpilledButPart kinds all feed part number bytes
first_filled kinds all before feed number bytes part first waits none f = record {
  before = before;
  spilled = spilled_none kinds all before number bytes first waits none;
  filled = f;
}

-- the part is kept
pub part_spilled : (kinds : Kinds) (all : List (List ℕ)) (feed : Feed) (number after : ℕ) (bytes bytes_after : ℕ → Option (List ℕ)) (part : List ℕ) (next : Contents) →
    (h : IsSpilledButPart kinds all feed part number bytes) → IsDictionaryOfTexts kinds h.filled.in_part next → IsSmall next → IsKept number bytes after bytes_after next →
    IsSpilledSoFar kinds all feed after bytes_after
part_spilled kinds all feed number after bytes bytes_after part next h is small k = record {
  spilled = spilled_more kinds all h.before feed number after bytes bytes_after part next h.spilled h.filled is small k;
  ended = h.filled.ended;
}

-- where all was read, the good ones are all in parts
pub all_spilled : (kinds : Kinds) (all : List (List ℕ)) (feed : Feed) (number : ℕ) (bytes : ℕ → Option (List ℕ)) → feed.waits ≡ false → (h : IsSpilledSoFar kinds all feed number bytes) →
    AreGood all h.spilled.in_parts
all_spilled kinds all feed number bytes waits so_far =
    let h = so_far.spilled in
    subst (λ (x : List (List ℕ)). AreGood x h.in_parts) (sym (all_read h.read all feed.next h.are_read (so_far.ended waits)))
    (subst (λ (x : List (List ℕ)). AreGood h.read x) (h.parted ∙ ap (λ (x : List (List ℕ)). h.in_parts ++ x) (waiting_none feed waits) ∙ append-nil h.in_parts) h.are_good)

-- the same of one part
pub all_filled : (all : List (List ℕ)) (before feed : Feed) (part : List ℕ) → before.next ≡ 0 → before.waits ≡ false → feed.waits ≡ false → (f : IsFilled all before feed part) → AreGood all f.in_part
all_filled all before feed part first none waits f =
    subst (λ (x : List (List ℕ)). AreGood x f.in_part) (sym (all_read f.read all feed.next (ap (λ (n : ℕ). drop n all) (sym first) ∙ f.are_read) (f.ended waits)))
    (subst (λ (x : List (List ℕ)). AreGood f.read x)
    (ap (λ (x : List (List ℕ)). x ++ f.good) (sym (waiting_none before none)) ∙ f.parted ∙ ap (λ (x : List (List ℕ)). f.in_part ++ x) (waiting_none feed waits) ∙ append-nil f.in_part)
    f.are_good)

-- A part that is filled: what is known of it after one text more, and at its end.
use Rattle.std.proofs.Common.{◌≡◌, ℕ, suc, ◌<◌, Bool, true, false, List, [], ◌∷◌, ◌++◌, length, drop, refl, ap, sym, subst, ◌∙◌, arith, append_assoc, if◌then◌else◌}
use Rattle.std.proofs.lemmas.List.{append-nil}
use Rattle.batch_core.specs.Batch.{joined}
use Rattle.tally_parts.specs.Parts.{IsGood, IsLeftOut}
use Rattle.tally_parts.specs.Inner.Filling.{IsBegun, IsPut, IsFilled, waiting_of}
use Rattle.tally_parts.specs.Inner.Joining.{AreAllGood}
use Rattle.tally_parts.specs.declared.filling.Feed.{Feed}
use Rattle.tally_parts.proofs.Good.{good_one, good_none, all_good, all_append, all_front, all_waiting}

pub waiting_one : (feed : Feed) → feed.waits ≡ true → waiting_of feed ≡ feed.room.items ∷ []
waiting_one feed e = ap (λ (b : Bool). if b then feed.room.items ∷ [] else []) e

pub waiting_none : (feed : Feed) → feed.waits ≡ false → waiting_of feed ≡ []
waiting_none feed e = ap (λ (b : Bool). if b then feed.room.items ∷ [] else []) e

-- nothing was read
pub begun_none : (all : List (List ℕ)) (feed : Feed) → feed.next ≡ 0 → feed.waits ≡ false → IsBegun all feed
begun_none all feed next waits = record {
  within = omega arith;
  waits = λ some. absurd (let no : true ≡ false = sym some ∙ waits in cc);
}

-- nothing but what waited
pub put_none : (all : List (List ℕ)) (before : Feed) (to : ℕ) (part : List ℕ) → to ≡ before.next → part ≡ joined (waiting_of before) → IsPut all before to part
put_none all before to part at is = record {
  read = [];
  good = [];
  are_read = ap (λ (n : ℕ). drop n all) (sym at);
  are_good = refl;
  joined_is = is ∙ ap joined (sym (append-nil (waiting_of before)));
}

-- one text more
read_more : (read rest left more : List (List ℕ)) (text : List ℕ) → left ≡ read ++ rest → rest ≡ text ∷ more → left ≡ (read ++ text ∷ []) ++ more
read_more read rest left more text h e = h ∙ ap (λ (x : List (List ℕ)). read ++ x) e ∙ sym (append_assoc read (text ∷ []) more)

pub put_out : (all : List (List ℕ)) (before : Feed) (n to : ℕ) (text part : List ℕ) → to ≡ suc n → drop n all ≡ text ∷ drop (suc n) all → IsLeftOut text → IsPut all before n part → IsPut all before to part
put_out all before n to text part at next out h = record {
  read = h.read ++ text ∷ [];
  good = h.good;
  are_read = read_more h.read (drop n all) (drop before.next all) (drop to all) text h.are_read (next ∙ ap (λ (m : ℕ). text ∷ drop m all) (sym at));
  are_good = good_none h.read h.good text h.are_good out;
  joined_is = h.joined_is;
}

pub put_one : (all : List (List ℕ)) (before : Feed) (n to : ℕ) (text part more : List ℕ) → to ≡ suc n → drop n all ≡ text ∷ drop (suc n) all → IsGood text → (h : IsPut all before n part) →
    more ≡ joined ((waiting_of before ++ h.good) ++ text ∷ []) → IsPut all before to more
put_one all before n to text part more at next is h put = record {
  read = h.read ++ text ∷ [];
  good = h.good ++ text ∷ [];
  are_read = read_more h.read (drop n all) (drop before.next all) (drop to all) text h.are_read (next ∙ ap (λ (m : ℕ). text ∷ drop m all) (sym at));
  are_good = good_one h.read h.good text h.are_good is;
  joined_is = put ∙ ap joined (append_assoc (waiting_of before) h.good (text ∷ []));
}

-- a good text waits
pub filled_waits : (all : List (List ℕ)) (before after : Feed) (n : ℕ) (text part : List ℕ) → after.next ≡ suc n → n < length all → drop n all ≡ text ∷ drop (suc n) all → IsGood text →
    after.waits ≡ true → after.room.items ≡ text → IsPut all before n part → IsFilled all before after part
filled_waits all before after n text part at lt next is waits room h = record {
  begun = record { within = omega arith; waits = λ _. subst IsGood (sym room) is };
  read = h.read ++ text ∷ [];
  good = h.good ++ text ∷ [];
  in_part = waiting_of before ++ h.good;
  are_read = read_more h.read (drop n all) (drop before.next all) (drop after.next all) text h.are_read (next ∙ ap (λ (m : ℕ). text ∷ drop m all) (sym at));
  are_good = good_one h.read h.good text h.are_good is;
  parted = sym (append_assoc (waiting_of before) h.good (text ∷ []))
      ∙ ap (λ (x : List (List ℕ)). (waiting_of before ++ h.good) ++ x) (ap (λ (x : List ℕ). x ∷ []) (sym room) ∙ sym (waiting_one after waits));
  joined_is = h.joined_is;
  ended = λ none. absurd (let no : true ≡ false = sym waits ∙ none in cc);
}

-- no text is left
pub filled_all : (all : List (List ℕ)) (before after : Feed) (to : ℕ) (part : List ℕ) → after.next ≡ to → to ≡ length all → after.waits ≡ false → IsPut all before to part → IsFilled all before after part
filled_all all before after to part at end waits h = record {
  begun = record { within = omega arith; waits = λ some. absurd (let no : true ≡ false = sym some ∙ waits in cc) };
  read = h.read;
  good = h.good;
  in_part = waiting_of before ++ h.good;
  are_read = h.are_read ∙ ap (λ (m : ℕ). h.read ++ drop m all) (sym at);
  are_good = h.are_good;
  parted = sym (append-nil (waiting_of before ++ h.good)) ∙ ap (λ (x : List (List ℕ)). (waiting_of before ++ h.good) ++ x) (sym (waiting_none after waits));
  joined_is = h.joined_is;
  ended = λ _. at ∙ end;
}

-- all texts of a part are good
pub part_good : (all : List (List ℕ)) (before after : Feed) (part : List ℕ) → IsBegun all before → (h : IsFilled all before after part) → AreAllGood h.in_part
part_good all before after part begun h =
    all_front h.in_part (waiting_of after)
    (subst AreAllGood h.parted (all_append (waiting_of before) h.good (all_waiting before.waits before.room.items begun.waits) (all_good h.read h.good h.are_good)))

-- Dictionaries that are judged one after another.
use Rattle.std.proofs.Common.{◌≡◌, ℕ, zero, suc, take, ◌+◌, ◌-◌, ◌≤◌, ◌<◌, ◌^◌, inl, inr, List, [], ◌∷◌, ◌++◌, length, Bool, Option, Some, ap, sym, refl, subst, ◌∙◌, arith, length-append, None}
use Rattle.std.specs.List.{AllByRecursion}
use Rattle.std.proofs.lemmas.List.Elements.{recursion_from_All}
use Rattle.shape_dict.specs.declared.entries.Entry.{Entry}
use Rattle.shape_dict.specs.declared.faults.DictFault.{DictFault}
use Rattle.shape_dict.specs.declared.faults.DictFault.TheVariants as dict_fault
use Rattle.shape_dict.specs.Contents.{Contents, IsEntry, IsDictionary}
use Rattle.shape_dict.specs.Reading.{IsTextOf}
use Rattle.shape_dict.specs.Join.{IsJoin, IsJoinFault}
use Rattle.shape_dict.proofs.Joined.{join_of}
use Rattle.stream_core.specs.Faults.{IsWholeFault}
use Rattle.merge_core.specs.declared.entries.NextFault.TheVariants as next_fault
use Rattle.merge_core.specs.declared.faults.MergeFault.{MergeFault}
use Rattle.merge_core.specs.declared.faults.MergeFault.TheVariants as fault
use Rattle.merge_core.specs.declared.judged.Judged.{Judged}
use Rattle.merge_core.specs.declared.tallies.Tally.{Tally}
use Rattle.merge_core.specs.Entries.{IsSmallUse, IsNextFault}
use Rattle.merge_core.specs.Merge.{AreTexts, AreInputs, IsMerged, IsBadInput, IsNotAdded, IsDictFault}
use Rattle.merge_core.specs.Inner.Ranges.{IsCountOf}
use Rattle.merge_core.specs.Inner.Folds.{both_of, Folds, FoldsAll}
use Rattle.merge_core.specs.Inner.Leaves.{IsOffered, Offers}
use Rattle.merge_core.specs.Inner.Judging.{IsJudged, IsOwnFault, HasJudged, IsJudgeFault, IsFaultAt, IsBoth, IsBothFault}
use Rattle.merge_core.proofs.Alone.{folds_same}
use Rattle.merge_core.proofs.Folded.{sum_is_dictionary, sum_has_kinds, folds_append, folds_join}
use Rattle.merge_core.proofs.Large.{large_entry, text_is_small, weaken}
use Rattle.merge_core.proofs.Totals.{there_merged, small_by_total}

pub texts_number : (ds : List Contents) (inputs : List (List ℕ)) → AreTexts ds inputs → length ds ≡ length inputs
texts_number [] [] h = refl
texts_number [] (i ∷ inputs) h = absurd h
texts_number (d ∷ ds) [] h = absurd h
texts_number (d ∷ ds) (i ∷ inputs) h = let more = texts_number ds inputs h.1 in omega arith

texts_more : (ds : List Contents) (inputs : List (List ℕ)) (d : Contents) (input : List ℕ) → AreTexts ds inputs → IsTextOf d input → AreTexts (ds ++ d ∷ []) (inputs ++ input ∷ [])
texts_more [] [] d input h t = (t, tt)
texts_more [] (i ∷ inputs) d input h t = absurd h
texts_more (e ∷ ds) [] d input h t = absurd h
texts_more (e ∷ ds) (i ∷ inputs) d input h t = (h.0, texts_more ds inputs d input h.1 t)

offers_more : (bytes : ℕ → Option (List ℕ)) (kind : Bool) (from n : ℕ) (ds : List Contents) (d : Contents) → n ≡ from + length ds → Offers bytes kind from ds → IsOffered bytes kind n d → Offers bytes kind from (ds ++ d ∷ [])
offers_more bytes kind from n [] d at h o = (let same : n ≡ from = omega arith in subst (λ (m : ℕ). IsOffered bytes kind m d) same o, tt)
offers_more bytes kind from n (e ∷ ds) d at h o = (h.0, offers_more bytes kind (from + 1) n ds d (omega arith) h.1 o)

-- what was judged can be merged
pub merged_of : (bytes : ℕ → Option (List ℕ)) (n : ℕ) (judged : Judged) (inputs : List (List ℕ)) (h : HasJudged bytes n judged inputs) → IsMerged inputs h.sum
merged_of bytes n judged inputs h =
    record { first = h.first; others = h.others; texts = h.texts; joined = folds_join h.first h.others h.sum h.folds h.few_games h.few_moves h.small }

-- a first fault by itself
bad_is_fault : (inputs : List (List ℕ)) (input : List ℕ) (n : ℕ) (found : DictFault) → IsWholeFault input found → IsBadInput inputs n found → IsDictFault inputs n found
bad_is_fault inputs input n dict_fault.BadHeader w h = h
bad_is_fault inputs input n (dict_fault.BadLine line) w h = h
bad_is_fault inputs input n (dict_fault.NotRising line) w h = h
bad_is_fault inputs input n (dict_fault.NotCanonical line) w h = h
bad_is_fault inputs input n dict_fault.WrongTotals w h = h
bad_is_fault inputs input n dict_fault.Memory w h = w
bad_is_fault inputs input n dict_fault.Overflow w h = absurd w
bad_is_fault inputs input n dict_fault.TooLarge w h = h
bad_is_fault inputs input n dict_fault.MixedKinds w h = absurd w

pub first_fault : (input : List ℕ) (after : List (List ℕ)) (found : MergeFault) → IsOwnFault input 1 found → IsJudgeFault (input ∷ after) found
first_fault input after fault.Empty h = absurd h
first_fault input after (fault.Dict m found) h =
    bad_is_fault (input ∷ after) input m found h.1 (record { before = []; input = input; after = after; parts = refl; at = h.0; joined = inl refl; stands = h.1 })
first_fault input after (fault.Read m written) h = h
first_fault input after (fault.Changed written) h = h
first_fault input after (fault.Write written) h = h
first_fault input after (fault.Memory written) h = h

pub own_fault : (bytes : ℕ → Option (List ℕ)) (n : ℕ) (before : Judged) (inputs : List (List ℕ)) (input : List ℕ) (found : MergeFault) → HasJudged bytes n before inputs →
    IsOwnFault input (n + 1) found → IsFaultAt inputs input found
own_fault bytes n before inputs input fault.Empty h own = λ after. absurd own
own_fault bytes n before inputs input (fault.Dict m found) h own = λ after.
    bad_is_fault (inputs ++ input ∷ after) input m found own.1 (record {
      before = inputs;
      input = input;
      after = after;
      parts = refl;
      at = omega (arith, own.0, h.number);
      joined = inr (h.sum, merged_of bytes n before inputs h);
      stands = own.1;
    })
own_fault bytes n before inputs input (fault.Read m written) h own = λ after. own
own_fault bytes n before inputs input (fault.Changed written) h own = λ after. own
own_fault bytes n before inputs input (fault.Write written) h own = λ after. own
own_fault bytes n before inputs input (fault.Memory written) h own = λ after. own

not_added : (bytes : ℕ → Option (List ℕ)) (n : ℕ) (before : Judged) (inputs : List (List ℕ)) (input : List ℕ) (d : Contents) (found : DictFault) (h : HasJudged bytes n before inputs) →
    IsTextOf d input → IsJoinFault h.sum d found → (after : List (List ℕ)) → IsNotAdded (inputs ++ input ∷ after) (n + 1) found
not_added bytes n before inputs input d found h text stands after = record {
  before = inputs;
  input = input;
  after = after;
  parts = refl;
  at = omega (arith, h.number);
  sum = h.sum;
  merged = merged_of bytes n before inputs h;
  next = d;
  is_text = text;
  stands = stands;
}

pub both_fault : (bytes : ℕ → Option (List ℕ)) (n : ℕ) (before next : Judged) (inputs : List (List ℕ)) (input : List ℕ) (found : DictFault) → HasJudged bytes n before inputs →
    IsJudged input next → IsBothFault before.totals next.totals found → IsFaultAt inputs input (fault.Dict (n + 1) found)
both_fault bytes n before next inputs input dict_fault.MixedKinds h j bad =
    let a = h.of_sum in
    not_added bytes n before inputs input j.0 dict_fault.MixedKinds h j.1 (λ e. bad (a.kinds ∙ (e ∙ sym j.2.kinds)))
both_fault bytes n before next inputs input dict_fault.Overflow h j bad =
    let a = h.of_sum in
    not_added bytes n before inputs input j.0 dict_fault.Overflow h j.1
    (sym a.kinds ∙ (bad.0 ∙ j.2.kinds), elim bad.1 [ inl large ↦ inl (omega (arith, a.games, j.2.games)) | inr large ↦ inr (inl (omega (arith, a.moves, j.2.moves))) ])
both_fault bytes n before next inputs input dict_fault.BadHeader h j bad = absurd bad
both_fault bytes n before next inputs input (dict_fault.BadLine line) h j bad = absurd bad
both_fault bytes n before next inputs input (dict_fault.NotRising line) h j bad = absurd bad
both_fault bytes n before next inputs input (dict_fault.NotCanonical line) h j bad = absurd bad
both_fault bytes n before next inputs input dict_fault.WrongTotals h j bad = absurd bad
both_fault bytes n before next inputs input dict_fault.Memory h j bad = absurd bad
both_fault bytes n before next inputs input dict_fault.TooLarge h j bad = absurd bad

-- the first is a dictionary
first_is : (first : Contents) (others : List Contents) (inputs : List (List ℕ)) → AreTexts (first ∷ others) inputs → IsDictionary first
first_is first others [] h = absurd h
first_is first others (input ∷ inputs) h = h.0.dictionary

-- those before and the next one, joined
pub record AreJoined (bytes : ℕ → Option (List ℕ)) (n : ℕ) (inputs : List (List ℕ)) (input : List ℕ) (first : Contents) (others : List Contents) (sum d : Contents) : Type 0 where
  pub kinds : sum.counts_diamonds ≡ d.counts_diamonds
  pub join : IsJoin sum d (both_of sum d)
  pub folds : Folds first (others ++ d ∷ []) (both_of sum d)
  pub offers : Offers bytes first.counts_diamonds 0 (first ∷ (others ++ d ∷ []))
  pub texts : AreTexts (first ∷ (others ++ d ∷ [])) (inputs ++ input ∷ [])
  pub number : length (first ∷ (others ++ d ∷ [])) ≡ n + 1

joined : (bytes : ℕ → Option (List ℕ)) (n : ℕ) (before next : Judged) (inputs : List (List ℕ)) (input : List ℕ) (h : HasJudged bytes n before inputs) (j : IsJudged input next) → before.totals.counts_diamonds ≡ next.totals.counts_diamonds → bytes n ≡ Some input →
    AreJoined bytes n inputs input h.first h.others h.sum j.0
joined bytes n before next inputs input h j same known =
    let d = j.0 in
    let a = h.of_sum in
    let is_sum = sum_is_dictionary h.first h.others h.sum (first_is h.first h.others inputs h.texts) h.folds in
    let kinds : h.sum.counts_diamonds ≡ d.counts_diamonds = sym a.kinds ∙ (same ∙ j.2.kinds) in
    let join : IsJoin h.sum d (both_of h.sum d) = join_of h.sum d is_sum j.1.dictionary kinds in
    let of_first = sum_has_kinds h.first h.others h.sum h.folds in
    let count = texts_number (h.first ∷ h.others) inputs h.texts in
    record {
      kinds = kinds;
      join = join;
      folds = folds_append h.first h.others h.sum (d ∷ []) (both_of h.sum d) h.folds (both_of h.sum d, join, refl);
      offers = offers_more bytes h.first.counts_diamonds 0 n (h.first ∷ h.others) d (omega (arith, h.number)) h.offers (record { text = input; known = known; is_text = j.1; kinds = sym kinds ∙ of_first });
      texts = texts_more (h.first ∷ h.others) inputs d input h.texts j.1;
      number = omega (arith, h.number, length-append h.others (d ∷ []));
    }

new_judged : (bytes : ℕ → Option (List ℕ)) (n : ℕ) (before next both : Judged) (inputs : List (List ℕ)) (input : List ℕ) (h : HasJudged bytes n before inputs) (j : IsJudged input next) → IsBoth before next both → bytes n ≡ Some input →
    AllByRecursion IsSmallUse (both_of h.sum j.0).entries → HasJudged bytes (n + 1) both (inputs ++ input ∷ [])
new_judged bytes n before next both inputs input h j b known small =
    let d = j.0 in
    let a = h.of_sum in
    let k = joined bytes n before next inputs input h j b.same_kinds known in
    let there = there_merged h.sum.games h.sum.entries d.entries in
    record {
      first = h.first;
      others = h.others ++ d ∷ [];
      sum = both_of h.sum d;
      texts = k.texts;
      offers = k.offers;
      number = omega (arith, length-append inputs (input ∷ []), h.number);
      folds = k.folds;
      few_games = omega (arith, b.few_games, b.games, a.games, j.2.games);
      few_moves = omega (arith, b.few_moves, b.moves, a.moves, j.2.moves);
      small = small;
      of_sum = record {
        games = omega (arith, b.games, a.games, j.2.games);
        moves = omega (arith, b.moves, a.moves, j.2.moves);
        kinds = b.kinds ∙ a.kinds;
        there = omega (arith, b.there, a.there, j.2.there, there);
      };
    }

pub judged_more : (bytes : ℕ → Option (List ℕ)) (n : ℕ) (before next both : Judged) (inputs : List (List ℕ)) (input : List ℕ) → HasJudged bytes n before inputs → IsJudged input next → IsBoth before next both → bytes n ≡ Some input →
    both.there < 2 ^ 64 - 1 → HasJudged bytes (n + 1) both (inputs ++ input ∷ [])
judged_more bytes n before next both inputs input h j b known few =
    let d = j.0 in
    let a = h.of_sum in
    let k = joined bytes n before next inputs input h j b.same_kinds known in
    let join = k.join in
    let there = there_merged h.sum.games h.sum.entries d.entries in
    let all = both_of h.sum d in
    new_judged bytes n before next both inputs input h j b known
    (small_by_total all.entries (weaken (IsEntry all.games) (λ (e : Entry). e.played ≤ e.there) all.entries (λ e is. is.played) (recursion_from_All (IsEntry all.games) all.entries join.dictionary.each))
    (omega (arith, b.there, a.there, j.2.there, there)))

-- where the join was made
abbrev pub Joins : (ℕ → Option (List ℕ)) → ℕ → (Contents → Type 0) → Type 0
Joins bytes n P = (kind : Bool) (all : List Contents) → Offers bytes kind 0 all → length all ≡ n → (sum : Contents) × FoldsAll all sum × P sum

made : (bytes : ℕ → Option (List ℕ)) (n : ℕ) (inputs : List (List ℕ)) (input : List ℕ) (first : Contents) (others : List Contents) (sum d : Contents) (P : Contents → Type 0) → AreJoined bytes n inputs input first others sum d → Joins bytes (n + 1) P → P (both_of sum d)
made bytes n inputs input first others sum d P k h =
    let s = h first.counts_diamonds (first ∷ (others ++ d ∷ [])) k.offers k.number in
    subst P (folds_same first (others ++ d ∷ []) s.0 (both_of sum d) s.1 k.folds) s.2

pub judged_counted : (bytes : ℕ → Option (List ℕ)) (n : ℕ) (before next both : Judged) (counts : Tally) (inputs : List (List ℕ)) (input : List ℕ) → HasJudged bytes n before inputs → IsJudged input next → IsBoth before next both → bytes n ≡ Some input →
    Joins bytes (n + 1) (λ sum. IsCountOf None sum.entries counts) → HasJudged bytes (n + 1) both (inputs ++ input ∷ [])
judged_counted bytes n before next both counts inputs input h j b known joins =
    let k = joined bytes n before next inputs input h j b.same_kinds known in
    let counted = made bytes n inputs input h.first h.others h.sum j.0 (λ (sum : Contents). IsCountOf None sum.entries counts) k joins in
    new_judged bytes n before next both inputs input h j b known counted.small

pub large_fault : (bytes : ℕ → Option (List ℕ)) (n : ℕ) (before next both : Judged) (inputs : List (List ℕ)) (input : List ℕ) → HasJudged bytes n before inputs → IsJudged input next → IsBoth before next both →
    bytes n ≡ Some input → Joins bytes (n + 1) (λ sum. IsNextFault sum.entries next_fault.Overflow) → IsFaultAt inputs input (fault.Dict (n + 1) dict_fault.Overflow)
large_fault bytes n before next both inputs input h j b known joins =
    let k = joined bytes n before next inputs input h j b.same_kinds known in
    let large = made bytes n inputs input h.first h.others h.sum j.0 (λ (sum : Contents). IsNextFault sum.entries next_fault.Overflow) k joins in
    not_added bytes n before inputs input j.0 dict_fault.Overflow h j.1
    (k.kinds, inr (inr (large_entry h.sum j.0 (both_of h.sum j.0) k.join h.small (text_is_small j.0.entries j.1.small.each) large)))

-- the first one by itself
pub judged_first : (bytes : ℕ → Option (List ℕ)) (judged : Judged) (input : List ℕ) → IsJudged input judged → bytes 0 ≡ Some input → HasJudged bytes 1 judged (input ∷ [])
judged_first bytes judged input j known = record {
  first = j.0;
  others = [];
  sum = j.0;
  texts = (j.1, tt);
  offers = (record { text = input; known = known; is_text = j.1; kinds = refl }, tt);
  number = refl;
  folds = refl;
  few_games = j.1.small.games;
  few_moves = j.1.small.moves;
  small = text_is_small j.0.entries j.1.small.each;
  of_sum = j.2;
}

-- the input of a number
pub record IsNth (bytes : ℕ → Option (List ℕ)) (from n : ℕ) (inputs : List (List ℕ)) : Type 0 where
  pub input : List ℕ
  pub after : List (List ℕ)
  pub parts : inputs ≡ take n inputs ++ input ∷ after
  pub more : take (n + 1) inputs ≡ take n inputs ++ input ∷ []
  pub known : bytes (from + n) ≡ Some input

pub nth_input : (bytes : ℕ → Option (List ℕ)) (from n : ℕ) (inputs : List (List ℕ)) → AreInputs bytes from inputs → n < length inputs → IsNth bytes from n inputs
nth_input bytes from n [] h small = absurd (omega arith)
nth_input bytes from zero (i ∷ inputs) h small = record { input = i; after = inputs; parts = refl; more = refl; known = (let same : from ≡ from + 0 = omega arith in subst (λ (m : ℕ). bytes m ≡ Some i) same h.0) }
nth_input bytes from (suc n) (i ∷ inputs) h small =
    let rest = nth_input bytes (from + 1) n inputs h.1 (omega arith) in
    let deep : suc (n + 1) ≡ suc n + 1 = omega arith in
    record {
      input = rest.input;
      after = rest.after;
      parts = ap (λ (xs : List (List ℕ)). i ∷ xs) rest.parts;
      more = subst (λ (m : ℕ). take m (i ∷ inputs) ≡ i ∷ (take n inputs ++ rest.input ∷ [])) deep (ap (λ (xs : List (List ℕ)). i ∷ xs) rest.more);
      known = (let same : from + 1 + n ≡ from + suc n = omega arith in subst (λ (m : ℕ). bytes m ≡ Some rest.input) same rest.known);
    }

-- one more
pub judged_next : (bytes : ℕ → Option (List ℕ)) (n : ℕ) (judged : Judged) (inputs : List (List ℕ)) (s : IsNth bytes 0 n inputs) → HasJudged bytes (n + 1) judged (take n inputs ++ s.input ∷ []) → HasJudged bytes (n + 1) judged (take (n + 1) inputs)
judged_next bytes n judged inputs s h = subst (λ (xs : List (List ℕ)). HasJudged bytes (n + 1) judged xs) (sym s.more) h

pub known_at : (bytes : ℕ → Option (List ℕ)) (n : ℕ) (inputs : List (List ℕ)) (s : IsNth bytes 0 n inputs) → bytes n ≡ Some s.input
known_at bytes n inputs s = let same : 0 + n ≡ n = omega arith in subst (λ (m : ℕ). bytes m ≡ Some s.input) same s.known

pub fault_next : (bytes : ℕ → Option (List ℕ)) (n : ℕ) (inputs : List (List ℕ)) (s : IsNth bytes 0 n inputs) (found : MergeFault) → IsFaultAt (take n inputs) s.input found → IsJudgeFault inputs found
fault_next bytes n inputs s found h = subst (λ (xs : List (List ℕ)). IsJudgeFault xs found) (sym s.parts) (h s.after)

-- the first, where there is one
pub first_judged : (bytes : ℕ → Option (List ℕ)) (judged : Judged) (inputs : List (List ℕ)) → AreInputs bytes 0 inputs → 0 < length inputs → ((text : List ℕ) → bytes 0 ≡ Some text → IsJudged text judged) → HasJudged bytes 1 judged (take 1 inputs)
first_judged bytes judged [] h some f = absurd (omega arith)
first_judged bytes judged (i ∷ inputs) h some f = judged_first bytes judged i (f i h.0) h.0

pub first_failed : (bytes : ℕ → Option (List ℕ)) (found : MergeFault) (inputs : List (List ℕ)) → AreInputs bytes 0 inputs → 0 < length inputs → ((text : List ℕ) → bytes 0 ≡ Some text → IsOwnFault text 1 found) → IsJudgeFault inputs found
first_failed bytes found [] h some f = absurd (omega arith)
first_failed bytes found (i ∷ inputs) h some f = first_fault i inputs found (f i h.0)

-- Ranges by places that were taken, and what threads have taken together.
use Rattle.std.proofs.Common.{◌≡◌, ℕ, ◌==◌, cond, Bool, true, false, List, [], ◌∷◌, ◌++◌, length, replicate, Option, Some, None, IfSome, refl, ap, ap₂, sym, subst, ◌∙◌, arith, append-nil}
use Rattle.std.proofs.lemmas.List.Concat.{flat_map-append}
use Rattle.std.proofs.lemmas.List.Elements.{All-nil, All-cons}
use Rattle.std.proofs.lemmas.Option.{IfSome_then}
use Rattle.gather_core.proofs.Common.{nat_tests, AllByRecursion, Entry, Happened, IsNumber, Keeps, IsAtMost, IsLegal, content_of, least_at, earlier}
use Rattle.slot_table.proofs.Contents.{one_number}
use Rattle.gather_core.specs.WordShares.{IsSettled}
use Rattle.gather_core.specs.Numbering.{IsNumbered, AreNumbered}
use Rattle.gather_core.specs.declared.taking.Numbering.{Numbering}
use Rattle.gather_core.specs.Inner.Taking.{AreTaken}
use Rattle.slot_table.specs.Passes.{Known, IsPassOf}
use Rattle.range_core.specs.Totals.{Total, together, count_at, total_of, all_of, everything}
use Rattle.range_core.specs.Ranges.{AreDealtBy}
use Rattle.range_core.specs.Words.{word_ranges, range_of_word}
use Rattle.range_core.proofs.Adding.{together_comm, total_append}
use Rattle.range_core.proofs.Dealt.{empty_long, empty_dealt, empty_total}

-- what several workers count, and others
pub everything_append : (shape : ℕ) (some more : List (List (List Entry))) →
    total_of shape (everything (some ++ more)) ≡ together (total_of shape (everything some)) (total_of shape (everything more))
everything_append shape some more = ap (total_of shape) (flat_map-append all_of some more) ∙ total_append shape (everything some) (everything more)

pub all_append : (shape : ℕ) (front back : List (List Entry)) →
    total_of shape (all_of (front ++ back)) ≡ together (total_of shape (all_of front)) (total_of shape (all_of back))
all_append shape front back = ap (total_of shape) (flat_map-append (λ (l : List Entry). l) front back) ∙ total_append shape (all_of front) (all_of back)

pub both_totals : (some more : List (List (List Entry))) (front back : List (List Entry)) →
    ((shape : ℕ) → total_of shape (everything some) ≡ total_of shape (all_of front)) → ((shape : ℕ) → total_of shape (everything more) ≡ total_of shape (all_of back)) →
    (shape : ℕ) → total_of shape (everything (some ++ more)) ≡ total_of shape (all_of (front ++ back))
both_totals some more front back low high shape =
    everything_append shape some more ∙ ap₂ together (low shape) (high shape) ∙ sym (all_append shape front back)

-- ---- numbers
at_most : (least : Option ℕ) (one other : Option ℕ) → IfSome one (IsAtMost least) → IfSome other (IsAtMost least) → IfSome (earlier one other) (IsAtMost least)
at_most least None other h k = k
at_most least (Some one) None h k = h
at_most None (Some one) (Some other) h k = h
at_most (Some least) (Some one) (Some other) h k = omega (arith, h, k)

-- what has a number keeps it
pub numbered_later : {n : ℕ} {seen history : List Happened} (shape : ℕ) (total : Option Total) → Keeps n seen history → IsNumbered n seen shape total → IsNumbered n history shape total
numbered_later shape None keeps h = tt
numbered_later shape (Some total) keeps h =
    (h.0, keeps.numbers shape h.0 h.1, IfSome_then total.first h.2 (λ game marked. keeps.marks h.0 game marked))

pub numbered_both : {n : ℕ} {seen : List Happened} → IsLegal n seen → (shape : ℕ) (one other : Option Total) → IsNumbered n seen shape one → IsNumbered n seen shape other → IsNumbered n seen shape (together one other)
numbered_both legal shape None other h k = k
numbered_both legal shape (Some one) None h k = h
numbered_both {n = n} {seen = seen} legal shape (Some one) (Some other) h k =
    let same : k.0 ≡ h.0 = one_number n seen shape k.0 h.0 legal k.1 h.1 in
    (h.0, h.1, at_most (least_at h.0 seen) one.first other.first h.2 (subst (λ p. IfSome other.first (IsAtMost (least_at p seen))) same k.2))

one_numbered : {n : ℕ} {seen : List Happened} (shape : ℕ) (entry : Entry) → IsSettled n seen entry → IsNumbered n seen shape (count_at shape entry)
one_numbered {n = n} {seen = seen} shape entry is =
    elim (entry.shape == shape) as (λ b. (entry.shape == shape) ≡ b → IsNumbered n seen shape (cond b (Some (record { there = entry.there; played = entry.played; first = entry.first })) None)) [
      | true ↦ λ same. (is.number, subst (λ s. IsNumber (content_of n seen) s is.number) (Prim.grind (arith, nat_tests)) is.stands, is.marked)
      | false ↦ λ other. tt
    ] refl

-- entries that were numbered
pub settled_numbered : {n : ℕ} {seen : List Happened} → IsLegal n seen → (entries : List Entry) → AllByRecursion (IsSettled n seen) entries → AreNumbered n seen entries
settled_numbered legal [] all shape = tt
settled_numbered legal (entry ∷ entries) all shape =
    numbered_both legal shape (count_at shape entry) (total_of shape entries) (one_numbered shape entry all.0) (settled_numbered legal entries all.1 shape)

-- ---- what a thread takes
-- the lists of one thread
one_thread : (shape : ℕ) (words : List (List Entry)) → total_of shape (everything (words ∷ [])) ≡ total_of shape (all_of words)
one_thread shape words = ap (total_of shape) (append-nil (all_of words))

module _ {O : Type 0} (numbering : Numbering O) where
  abbrev Long : List (List Entry) → Type 0
  Long words = length words ≡ word_ranges

  abbrev Dealt : List (List Entry) → Type 0
  Dealt words = AreDealtBy (range_of_word numbering.cuts.now) words

  -- no range was taken yet
  pub none_taken : (pass : Known O) (words : List (List Entry)) → IsPassOf numbering.table.now pass → words ≡ replicate word_ranges [] → AreTaken numbering [] pass true (words ∷ [])
  none_taken pass words of is =
      let none : (shape : ℕ) → total_of shape (everything (words ∷ [])) ≡ None =
      λ shape. one_thread shape words ∙ ap (λ (l : List (List Entry)). total_of shape (all_of l)) is ∙ empty_total word_ranges shape in
      record {
        pass = of;
        long = All-cons Long words [] (ap length is ∙ empty_long word_ranges) (All-nil Long);
        dealt = All-cons Dealt words [] (subst Dealt (sym is) (empty_dealt (range_of_word numbering.cuts.now) word_ranges)) (All-nil Dealt);
        totals = none;
        numbered = λ told shape. subst (IsNumbered numbering.table.now.slots pass.seen shape) (sym (none shape)) tt;
      }

  -- one more was: what it counts was dealt, and is numbered where all is
  pub one_taken : (ranges : List (List Entry)) (range entries : List Entry) (old new : Known O) (was is : Bool) (before after : List (List Entry)) →
      AreTaken numbering ranges old was (before ∷ []) → IsPassOf numbering.table.now new → Keeps numbering.table.now.slots old.seen new.seen →
      (is ≡ true → was ≡ true) → (is ≡ true → AreNumbered numbering.table.now.slots new.seen entries) → Long after → Dealt after →
      ((shape : ℕ) → total_of shape (all_of after) ≡ together (total_of shape (all_of before)) (total_of shape entries)) →
      ((shape : ℕ) → total_of shape entries ≡ total_of shape range) → AreTaken numbering (range ∷ ranges) new is (after ∷ [])
  one_taken ranges range entries old new was is before after had pass keeps still numbered long dealt totals same =
      let so_far = λ (shape : ℕ). total_of shape (everything (before ∷ [])) in
      let total : (shape : ℕ) → total_of shape (everything (after ∷ [])) ≡ together (so_far shape) (total_of shape entries) =
      λ shape. one_thread shape after ∙ totals shape ∙ ap (λ t. together t (total_of shape entries)) (sym (one_thread shape before)) in
      record {
        pass = pass;
        long = All-cons Long after [] long (All-nil Long);
        dealt = All-cons Dealt after [] dealt (All-nil Dealt);
        totals = λ shape. total shape ∙ ap₂ together (had.totals shape) (same shape)
            ∙ together_comm (total_of shape (all_of ranges)) (total_of shape range) ∙ sym (total_append shape range (all_of ranges));
        numbered = λ told shape. subst (IsNumbered numbering.table.now.slots new.seen shape) (sym (total shape))
            (numbered_both pass.legal shape (so_far shape) (total_of shape entries)
            (numbered_later shape (so_far shape) keeps (had.numbered (still told) shape)) (numbered told shape));
      }

-- The views of all seats after a step of one of them.
use Rattle.std.proofs.Common.{◌≡◌, ◌≢◌, ℕ, zero, suc, ◌+◌, ◌*◌, ◌<◌, ◌≤◌, ◌⊎◌, List, [], ◌∷◌, ◌++◌, length, slice_set, slice_index_or, Some, refl, sym, ◌∙◌, ap, subst, inl, inr, arith, length-append}
use Rattle.std.specs.Prelude.{filter_map, slice_get}
use Rattle.std.proofs.lemmas.List.{length-set, set-get_or}
use mathlib.Core.Option.{some, some-ne-none}
use lib.ListN.{get_elem?}
use Rattle.atomic_table.proofs.Lists.{at_set, set_here}
use Rattle.slot_table.specs.declared.entries.Happened.{Happened}
use Rattle.slot_table.specs.declared.views.View.{View}
use Rattle.slot_table.specs.History.{IsLegal, Begins}
use Rattle.slot_table.specs.Places.{times, IsRising}
use Rattle.slot_table.specs.Places.{below}
use Rattle.slot_table.specs.Stakes.{AreUpTo, weight, IsWhole}
use Rattle.slot_table.specs.Rule.{slot_words, mark_words, Kept, IsSpent, times_owned, pieces_of}
use Rattle.slot_table.specs.Telling.{Grown, IsLone, places_from}
use Rattle.slot_table.proofs.Histories.{begins_itself, begins_longer, kept_since}
use Rattle.slot_table.proofs.Deciding.{Sound}
use Rattle.slot_table.proofs.Pairs.{slots_are_n, marks_are_n, set_slot, set_mark, slots_stay, marks_stay}
use Rattle.slot_table.proofs.Owning.{times-append, times_places, rising_more, owned_set, all_places, one_below}
use Rattle.slot_table.proofs.Staking.{finest, up_to_finest, up_to_at, one_owns, pieces_same, has_stake}
use Rattle.slot_table.proofs.Later.{calls_added}

pub at_below : {A : Type 0} (l : List A) (i : ℕ) (a : A) → get_elem? l i ≡ some a → i < length l
at_below [] i a e = absurd (some-ne-none a (sym e))
at_below (x ∷ xs) zero a e = omega arith
at_below (x ∷ xs) (suc i) a e = let h : i < length xs = at_below xs i a e in omega (arith, h)

-- the view of a seat whose step found the longest history and added these entries
abbrev pub grown_view : {O : Type 0} → View O → List Happened → List Happened → View O
grown_view view log added =
    record { order = view.order; seen = log ++ added; mine = view.mine ++ places_from (length log) added; met = []; stake = view.stake }

module _ {O : Type 0} (n : ℕ) (place : ℕ → ℕ → ℕ) (key : O) (words : List ℕ) (views : List (View O)) (kept : Kept n place key words views)
    (id : ℕ) (view : View O) (at : get_elem? views id ≡ some view) where
  pub sound_of : Sound n place (slot_words words) (mark_words words) kept.log
  sound_of = record {
    legal = kept.legal;
    whole = (slots_are_n words n kept.whole, marks_are_n words n kept.whole);
    slots = kept.slots;
    small = kept.small;
    marks = kept.marks;
    placed = kept.placed;
  }

  -- what the seat owns, with one more place where its step ended a call
  rises_on : (added : List Happened) → IsRising 0 (view.mine ++ places_from (length kept.log) added) (length (kept.log ++ added))
  rises_on added =
      let begun : Begins view.seen kept.log = (kept.longest.begun id view at).0
      in let short : length view.seen ≤ length kept.log =
      let l : length kept.log ≡ length view.seen + length begun.0 = ap (λ (t : List Happened). length t) begun.1 ∙ length-append view.seen begun.0 in omega (arith, l)
      in subst (λ (high : ℕ). IsRising 0 (view.mine ++ places_from (length kept.log) added) high) (sym (length-append kept.log added))
      (rising_more 0 view.mine (length view.seen) (length kept.log) added short (kept.rises id view at))

  owned_on : (added : List Happened) (k : ℕ) → times_owned k (slice_set views id (grown_view view kept.log added)) ≡ below k (length (kept.log ++ added))
  owned_on added k =
      let grown : View O = grown_view view kept.log added
      in let moved : times_owned k (slice_set views id grown) + times k view.mine ≡ times_owned k views + times k grown.mine = owned_set k views id view grown at
      in let split : times k grown.mine ≡ times k view.mine + times k (places_from (length kept.log) added) = times-append k view.mine (places_from (length kept.log) added)
      in let placed : times k (places_from (length kept.log) added) + below k (length kept.log) ≡ below k (length kept.log + length added) = times_places k (length kept.log) added
      in let whole : below k (length (kept.log ++ added)) ≡ below k (length kept.log + length added) = ap (λ (m : ℕ). below k m) (length-append kept.log added)
      in let before : times_owned k views ≡ below k (length kept.log) = kept.owned k
      in omega (arith, moved, split, placed, whole, before)

  -- a seat with the whole stake owns all places
  owns_all : IsWhole view.stake → (k : ℕ) → times k view.mine ≡ below k (length kept.log)
  owns_all whole k =
      let fine : ℕ = finest (pieces_of views)
      in let up : AreUpTo fine (pieces_of views) = up_to_finest (pieces_of views)
      in let all : weight fine (pieces_of views) ≡ weight fine view.stake = kept.stakes fine up ∙ sym (whole fine (up_to_at fine views id view at up))
      in sym (one_owns fine k views id view kept.staked at all) ∙ kept.owned k

  lone_on : (added : List Happened) → IsLone (grown_view view kept.log added)
  lone_on added whole =
      let seen : List Happened = kept.log ++ added
      in let mine : List ℕ = view.mine ++ places_from (length kept.log) added
      in let each : (k : ℕ) → 0 ≤ k → k < length seen → times k mine ≡ 1 =
      λ k from top.
      let split : times k mine ≡ times k view.mine + times k (places_from (length kept.log) added) = times-append k view.mine (places_from (length kept.log) added)
      in let placed : times k (places_from (length kept.log) added) + below k (length kept.log) ≡ below k (length kept.log + length added) = times_places k (length kept.log) added
      in let long : below k (length seen) ≡ below k (length kept.log + length added) = ap (λ (m : ℕ). below k m) (length-append kept.log added)
      in let all : times k view.mine ≡ below k (length kept.log) = owns_all whole k
      in let one : below k (length seen) ≡ 1 = one_below k (length seen) top
      in omega (arith, split, placed, long, all, one)
      in ap (λ (t : List ℕ). filter_map (slice_get seen) t) (all_places 0 (length seen) seen mine (omega arith) (rises_on added) each) ∙ calls_added [] seen

  -- where a step wrote one word
  kept_by_step : view.order ≡ Some key → (q w : ℕ) (added : List Happened) → Sound n place (slot_words (slice_set words q w)) (mark_words (slice_set words q w)) (kept.log ++ added)
      → Kept n place key (slice_set words q w) (slice_set views id (grown_view view kept.log added))
  kept_by_step of q w added sound =
      let log : List Happened = kept.log ++ added
      in let grown : View O = grown_view view kept.log added
      in record {
        log = log;
        longest = record {
          is_seen = (grown, (id, set_here views id grown (at_below views id view at)), refl);
          begun = λ seat u there. elim (at_set views id seat grown u there) [
            | inl t ↦ let P : View O → Type 0 = λ w. Begins w.seen log × Begins w.met log in subst P t.1 (begins_itself log, (log, refl))
            | inr t ↦ let b : Begins u.seen kept.log × Begins u.met kept.log = kept.longest.begun seat u t.1 in (begins_longer _ _ added b.0, begins_longer _ _ added b.1)
          ];
        };
        legal = sound.legal;
        whole = length-set words q w ∙ kept.whole;
        slots = sound.slots;
        small = sound.small;
        marks = sound.marks;
        placed = sound.placed;
        owned = owned_on added;
        rises = λ seat u there. elim (at_set views id seat grown u there) [
          | inl t ↦ let P : View O → Type 0 = λ w. IsRising 0 w.mine (length w.seen) in subst P t.1 (rises_on added)
          | inr t ↦ kept.rises seat u t.1
        ];
        orders = λ seat u there. elim (at_set views id seat grown u there) [
          | inl t ↦ let P : View O → Type 0 = λ w. (w.order ≡ Some key) ⊎ IsSpent w in subst P t.1 (inl of)
          | inr t ↦ kept.orders seat u t.1
        ];
        stakes = subst IsWhole (sym (pieces_same views id view grown at refl)) kept.stakes;
        staked = λ seat u there. elim (at_set views id seat grown u there) [
          | inl t ↦ let P : View O → Type 0 = λ w. (w.stake ≢ []) ⊎ IsSpent w in subst P t.1 (inl (has_stake view key of (kept.staked id view at)))
          | inr t ↦ kept.staked seat u t.1
        ];
      }

  -- where it wrote none
  pub kept_by_load : view.order ≡ Some key → (q : ℕ) (added : List Happened) → Sound n place (slot_words words) (mark_words words) (kept.log ++ added)
      → Kept n place key (slice_set words q (slice_index_or words q 0)) (slice_set views id (grown_view view kept.log added))
  kept_by_load of q added sound = kept_by_step of q (slice_index_or words q 0) added (rw (set-get_or words q 0) sound)

  -- the word of a slot
  pub kept_by_slot : view.order ≡ Some key → (p w : ℕ) (added : List Happened) → Sound n place (slice_set (slot_words words) p w) (mark_words words) (kept.log ++ added)
      → Kept n place key (slice_set words (2 * p) w) (slice_set views id (grown_view view kept.log added))
  kept_by_slot of p w added sound = kept_by_step of (2 * p) w added (rw (set_slot words p w, marks_stay words p w) sound)

  -- the word of a mark
  pub kept_by_mark : view.order ≡ Some key → (p w : ℕ) (added : List Happened) → Sound n place (slot_words words) (slice_set (mark_words words) p w) (kept.log ++ added)
      → Kept n place key (slice_set words (2 * p + 1) w) (slice_set views id (grown_view view kept.log added))
  kept_by_mark of p w added sound = kept_by_step of (2 * p + 1) w added (rw (slots_stay words p w, set_mark words p w) sound)

  pub grown_by_step : (added : List Happened) → IsLegal n (kept.log ++ added) → Grown n view kept.log added (grown_view view kept.log added)
  grown_by_step added legal = record {
    later = (kept.longest.begun id view at).0;
    after_met = (kept.longest.begun id view at).1;
    seen = refl;
    legal = legal;
    keeps = kept_since n view.seen (kept.log ++ added) legal (begins_longer view.seen kept.log added (kept.longest.begun id view at).0);
    mine = refl;
    met = refl;
    order = refl;
    rises = rises_on added;
    stake = refl;
    lone = lone_on added;
  }

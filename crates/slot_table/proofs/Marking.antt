-- The two kinds of step on a mark word keep the rule, and tell what they are said to tell.
use Rattle.std.proofs.Common.{◌≡◌, ◌≢◌, ℕ, ◌+◌, ◌*◌, ◌/◌, ◌^◌, ◌<◌, ◌≤◌, min, List, [], ◌∷◌, ◌++◌, length, slice_set, slice_index, slice_index_or, Option, Some, None, refl, sym, ◌∙◌, ap, subst, inl, inr, arith}
use Rattle.std.proofs.lemmas.Bool.{cases_eq, eq-eqb, ne_eqb}
use Rattle.std.proofs.lemmas.List.{get_or-set_same, get_or-set_other, length-set}
use mathlib.Core.Option.{none}
use Rattle.atomic_table.specs.Table.{State, Me, keeps, Allows, step}
use Rattle.probe_core.specs.Sequential.{Table}
use Rattle.slot_table.specs.declared.entries.Happened.{Happened}
use Rattle.slot_table.specs.declared.entries.Happened.TheVariants as entry
use Rattle.slot_table.specs.declared.views.View.{View}
use Rattle.slot_table.specs.History.{lowered, least_at, IsLegal, IsAtMost}
use Rattle.slot_table.specs.Rule.{slot_words, mark_words, Kept, AreSlotWords, IsMarkWord}
use Rattle.slot_table.specs.Telling.{Called, mark_of, marked, first_told}
use Rattle.slot_table.proofs.Histories.{content_same, legal_more, least_from-append, last_first}
use Rattle.slot_table.proofs.Deciding.{Sound}
use Rattle.slot_table.proofs.Pairs.{mark_at}
use Rattle.slot_table.proofs.Seating.{grown_view, sound_of, kept_by_load, kept_by_mark, grown_by_step}
use Rattle.slot_table.proofs.Stepping.{at_number}

-- least games and their words

lowered_word : (o : Option ℕ) (x game : ℕ) → IsMarkWord o x → game < 0xFFFF_FFFF_FFFF_FFFF → IsMarkWord (lowered o game) (min x game)
lowered_word None x game is h = let e : x ≡ 0xFFFF_FFFF_FFFF_FFFF = is in (omega (arith, e, h), h)
lowered_word (Some g) x game is h = (ap (λ (y : ℕ). min y game) is.0, (let l : g < 0xFFFF_FFFF_FFFF_FFFF = is.1 in omega (arith, l)))

pub mark_none : (x : ℕ) → x ≡ 0xFFFF_FFFF_FFFF_FFFF → mark_of x ≡ None
mark_none x e = rw (eq-eqb x 0xFFFF_FFFF_FFFF_FFFF e) refl

pub mark_some : (x : ℕ) → x ≢ 0xFFFF_FFFF_FFFF_FFFF → mark_of x ≡ Some x
mark_some x e = rw (ne_eqb x 0xFFFF_FFFF_FFFF_FFFF e) refl

mark_is : (o : Option ℕ) (x : ℕ) → IsMarkWord o x → mark_of x ≡ o
mark_is None x is = mark_none x is
mark_is (Some g) x is = mark_some x (λ e. let same : x ≡ g = is.0 in let l : g < 0xFFFF_FFFF_FFFF_FFFF = is.1 in omega (arith, e, same, l)) ∙ ap Some is.0

least_marked : (q p game : ℕ) (log : List Happened) → q ≡ p → least_at q (log ++ entry.Marked p game ∷ []) ≡ lowered (least_at q log) game
least_marked q p game log same = least_from-append None q log (entry.Marked p game ∷ []) ∙ (rw (eq-eqb p q (sym same)) refl)

least_other : (q p game : ℕ) (log : List Happened) → q ≢ p → least_at q (log ++ entry.Marked p game ∷ []) ≡ least_at q log
least_other q p game log apart = least_from-append None q log (entry.Marked p game ∷ []) ∙ (rw (ne_eqb p q (λ e. apart (sym e))) refl)

least_first : (q p : ℕ) (found : Option ℕ) (log : List Happened) → least_at q (log ++ entry.First p found ∷ []) ≡ least_at q log
least_first q p found log = least_from-append None q log (entry.First p found ∷ [])

-- after a mark the least game is not above it
lowered_at_most : (o : Option ℕ) (game : ℕ) → IsAtMost (lowered o game) game
lowered_at_most None game = let le : game ≤ game = omega arith in le
lowered_at_most (Some h) game = let le : min h game ≤ game = omega arith in le

pub marked_at_most : {O : Type 0} (n : ℕ) (old new : View O) (p game : ℕ) → Called n old (entry.Marked p game) new → IsAtMost (least_at p new.seen) game
marked_at_most n old new p game called =
    subst (λ (o : Option ℕ). IsAtMost o game) (sym (ap (λ (t : List Happened). least_at p t) called.1.seen ∙ least_marked p p game called.0 refl))
    (lowered_at_most (least_at p called.0) game)

-- what a load of a mark word answers is the least game
pub first_is_least : {O : Type 0} (n : ℕ) (old new : View O) (p : ℕ) (found : Option ℕ) → Called n old (entry.First p found) new → found ≡ least_at p new.seen
first_is_least n old new p found called =
    let legal : IsLegal n (called.0 ++ entry.First p found ∷ []) = subst (λ (t : List Happened). IsLegal n t) called.1.seen called.1.legal
    in last_first [] called.0 (entry.First p found) legal.firsts ∙ sym (least_first p p found called.0) ∙ ap (λ (t : List Happened). least_at p t) (sym called.1.seen)

module _ (n : ℕ) (place : ℕ → ℕ → ℕ) (words games : List ℕ) (log : List Happened) (sound : Sound n place words games log) (p : ℕ) (inside : p < n) where
  lowers : (game : ℕ) → game < 0xFFFF_FFFF_FFFF_FFFF
      → Sound n place words (slice_set games p (min (slice_index_or games p 0) game)) (log ++ entry.Marked p game ∷ [])
  lowers game low =
      let x : ℕ = min (slice_index_or games p 0) game
      in let whole : length games ≡ n = sound.whole.1
      in record {
        legal = legal_more n log (entry.Marked p game) refl tt (inside, omega (arith, low)) sound.legal;
        whole = (sound.whole.0, length-set games p x ∙ whole);
        slots = subst (λ (t : Table). AreSlotWords n words t) (sym (content_same n log (entry.Marked p game) refl)) sound.slots;
        small = sound.small;
        marks = λ q h. elim (cases_eq q p) [
          | inl same ↦
              let P : ℕ → Type 0 = λ r. IsMarkWord (least_at r (log ++ entry.Marked p game ∷ [])) (slice_index_or (slice_set games p x) r 0)
              in subst P (sym same) (rw (least_marked p p game log refl, get_or-set_same games p x 0 (omega (arith, whole, inside)))
              (lowered_word (least_at p log) (slice_index_or games p 0) game (sound.marks p inside) low))
          | inr apart ↦ rw (least_other q p game log apart, get_or-set_other games p q x 0 apart) (sound.marks q h)
        ];
        placed = sound.placed;
      }

  shows_first : Sound n place words games (log ++ entry.First p (mark_of (slice_index_or games p 0)) ∷ [])
  shows_first =
      let found : Option ℕ = mark_of (slice_index_or games p 0)
      in record {
        legal = legal_more n log (entry.First p found) refl (mark_is (least_at p log) (slice_index_or games p 0) (sound.marks p inside)) inside sound.legal;
        whole = sound.whole;
        slots = subst (λ (t : Table). AreSlotWords n words t) (sym (content_same n log (entry.First p found) refl)) sound.slots;
        small = sound.small;
        marks = λ q h. subst (λ (o : Option ℕ). IsMarkWord o (slice_index_or games q 0)) (sym (least_first q p found log)) (sound.marks q h);
        placed = sound.placed;
      }

module _ {O : Type 0} (exponent : O → ℕ) (place : ℕ → ℕ → ℕ) (key : O) (slots id : ℕ) (me : Me (Unit {0}) (View O)) (of : me.0.order ≡ Some key)
    (p : ℕ) (inside : p < 2 ^ exponent key) where
  pub mark_allowed : (game : ℕ) → game < 0xFFFF_FFFF_FFFF_FFFF
      → Allows (λ (s : State (Unit {0}) (View O)). Kept (2 ^ exponent key) place key s.words s.views) slots id me (2 * p + 1) (λ x. min x game)
      (marked exponent (step slots (2 * p + 1) game 0 none) me)
  mark_allowed game low s kept homes at range =
      let n : ℕ = 2 ^ exponent key
      in let e : Happened = entry.Marked p game
      in let games : List ℕ = mark_words s.words
      in let before : Sound n place (slot_words s.words) games kept.log = sound_of n place key s.words s.views kept id me.0 at
      in let after : Sound n place (slot_words s.words) (slice_set games p (min (slice_index s.words (2 * p + 1)) game)) (kept.log ++ e ∷ []) =
      rw (mark_at s.words p) (lowers n place (slot_words s.words) games kept.log before p inside game low)
      in let w : View O = grown_view me.0 kept.log (e ∷ [])
      in let called : Called n me.0 e w = (kept.log, grown_by_step n place key s.words s.views kept id me.0 at (e ∷ []) after.legal)
      in (
        w,
        keeps,
        tt,
        kept_by_mark n place key s.words s.views kept id me.0 at of p (min (slice_index s.words (2 * p + 1)) game) (e ∷ []) after,
        (refl, λ o is. at_number (λ k i. Called (2 ^ exponent k) me.0 (entry.Marked i game) w) key o me.0.order p ((2 * p + 1) / 2) of is (omega arith) called),
      )

  pub first_allowed : Allows (λ (s : State (Unit {0}) (View O)). Kept (2 ^ exponent key) place key s.words s.views) slots id me (2 * p + 1) (λ x. x)
      (first_told exponent (step slots (2 * p + 1) 0 0 none) me)
  first_allowed s kept homes at range =
      let n : ℕ = 2 ^ exponent key
      in let x : ℕ = slice_index s.words (2 * p + 1)
      in let e : Happened = entry.First p (mark_of x)
      in let games : List ℕ = mark_words s.words
      in let before : Sound n place (slot_words s.words) games kept.log = sound_of n place key s.words s.views kept id me.0 at
      in let after : Sound n place (slot_words s.words) games (kept.log ++ e ∷ []) =
      subst (λ (v : ℕ). Sound n place (slot_words s.words) games (kept.log ++ entry.First p (mark_of v) ∷ [])) (sym (mark_at s.words p))
      (shows_first n place (slot_words s.words) games kept.log before p inside)
      in let w : View O = grown_view me.0 kept.log (e ∷ [])
      in let called : Called n me.0 e w = (kept.log, grown_by_step n place key s.words s.views kept id me.0 at (e ∷ []) after.legal)
      in (
        w,
        keeps,
        tt,
        kept_by_load n place key s.words s.views kept id me.0 at of (2 * p + 1) (e ∷ []) after,
        (refl, λ o is. at_number (λ k i. Called (2 ^ exponent k) me.0 (entry.First i (mark_of x)) w) key o me.0.order p ((2 * p + 1) / 2) of is (omega arith) called),
      )

-- A new table, and a seat that is split off, keep the rule.
use Rattle.std.proofs.Common.{◌≡◌, ◌≢◌, ℕ, zero, suc, ◌+◌, ◌*◌, ◌^◌, ◌<◌, ◌≤◌, ◌⊎◌, List, [], ◌∷◌, ◌++◌, length, slice_set, slice_index_or, Some, None, refl, sym, ◌∙◌, ap, subst, inl, inr, arith}
use Rattle.std.specs.List.{repeat}
use Rattle.std.proofs.lemmas.List.{get_or-replicate}
use Rattle.std.proofs.lemmas.Bool.{cases_eq}
use Rattle.std.proofs.lemmas.Bool.Decides.{nat_tests}
use mathlib.Core.Option.{some, some-injective, some-ne-none}
use lib.ListN.{get_elem?}
use Rattle.atomic_table.proofs.Lists.{at_snoc, at_longer, at_set, set_here, set_else}
use Rattle.atomic_table.specs.Table.{State, Splits}
use Rattle.probe_core.specs.Order.{IsOrder}
use Rattle.probe_core.specs.History.{word_of}
use Rattle.slot_table.specs.declared.views.View.{View}
use Rattle.slot_table.specs.History.{Begins}
use Rattle.slot_table.specs.Places.{times, IsRising}
use Rattle.slot_table.specs.Places.{below}
use Rattle.slot_table.specs.Stakes.{AreUpTo, weight, IsWhole, halved, half_of}
use Rattle.slot_table.specs.Rule.{slot_words, mark_words, Kept, IsSpent, IsView, newcomer, cut_off, parted, times_owned, pieces_of}
use Rattle.slot_table.proofs.Seating.{at_below}
use Rattle.slot_table.proofs.Owning.{owned_set, owned_snoc}
use Rattle.slot_table.proofs.Staking.{up_to_halved, halves_weigh, halved_is_some, half_is_some, whole_piece, has_stake, weigh_set, weigh_snoc, up_to_at, up_to_set, up_to_snoc}
use Rattle.slot_table.proofs.Pairs.{slots_repeated, marks_repeated}

nothing_rises : (high : ℕ) → IsRising 0 [] high
nothing_rises high = let le : 0 ≤ high = omega arith in le

nothing_owned : (k : ℕ) → 0 + 0 ≡ below k 0
nothing_owned k = grind (arith, nat_tests)

module _ {O : Type 0} (n : ℕ) (place : ℕ → ℕ → ℕ) (key : O) (words : List ℕ) (views : List (View O)) (kept : Kept n place key words views)
    (id : ℕ) (view : View O) (at : get_elem? views id ≡ some view) (of : view.order ≡ Some key) where
  abbrev part : List (View O)
  part = slice_set views id (parted view)

  -- all views afterwards
  abbrev cut : List (View O)
  cut = part ++ cut_off view ∷ []

  -- whoever has a view afterwards
  cases_cut : (P : View O → Type 0) → P (parted view) → P (cut_off view) → ((seat : ℕ) (u : View O) → get_elem? views seat ≡ some u → P u)
      → (seat : ℕ) (u : View O) → get_elem? cut seat ≡ some u → P u
  cases_cut P of_parted of_cut of_others seat u e =
      elim (at_snoc part (cut_off view) u seat e) [
        | inl t ↦ elim (at_set views id seat (parted view) u t) [
          | inl s ↦ subst P s.1 of_parted
          | inr s ↦ of_others seat u s.1
        ]
        | inr t ↦ subst P t of_cut
      ]

  still_seen : (u : View O) × IsView cut u × (u.seen ≡ kept.log)
  still_seen =
      let q : (u : View O) × IsView views u × (u.seen ≡ kept.log) = kept.longest.is_seen
      in let P : View O → Type 0 = λ u. u.seen ≡ kept.log
      in let last : List (View O) = cut_off view ∷ []
      in elim (cases_eq q.1.0 id) [
        | inl same ↦
            let is : q.0 ≡ view = some-injective q.0 view (sym q.1.1 ∙ ap (λ (s : ℕ). get_elem? views s) same ∙ at)
            in (parted view, (id, at_longer part last id (parted view) (set_here views id (parted view) (at_below views id view at))), subst P is q.2)
        | inr one ↦ (q.0, (q.1.0, at_longer part last q.1.0 q.0 (set_else views id q.1.0 (parted view) one ∙ q.1.1)), q.2)
      ]

  owned_cut : (k : ℕ) → times_owned k cut ≡ below k (length kept.log)
  owned_cut k =
      let more : times_owned k cut ≡ times_owned k part + 0 = owned_snoc k part (cut_off view)
      in let same : times_owned k part + times k view.mine ≡ times_owned k views + times k view.mine = owned_set k views id view (parted view) at
      in let before : times_owned k views ≡ below k (length kept.log) = kept.owned k
      in omega (arith, more, same, before)

  stakes_cut : IsWhole (pieces_of cut)
  stakes_cut fine up =
      let part_up : AreUpTo fine (pieces_of part) = up_to_snoc fine part (cut_off view) up
      in let half_up : AreUpTo fine (halved view.stake) = up_to_at fine part id (parted view) (set_here views id (parted view) (at_below views id view at)) part_up
      in let before : AreUpTo fine (pieces_of views) = up_to_set fine views id view (parted view) at (up_to_halved fine view.stake half_up) part_up
      in let more : weight fine (pieces_of cut) ≡ weight fine (pieces_of part) + weight fine (half_of view.stake) = weigh_snoc fine part (cut_off view)
      in let less : weight fine (pieces_of part) + weight fine view.stake ≡ weight fine (pieces_of views) + weight fine (halved view.stake) =
      weigh_set fine views id view (parted view) at
      in let both : weight fine (halved view.stake) + weight fine (half_of view.stake) ≡ weight fine view.stake = halves_weigh fine view.stake half_up
      in let whole : weight fine (pieces_of views) ≡ 2 ^ fine = kept.stakes fine before
      in omega (arith, more, less, both, whole)

  kept_by_split : Kept n place key words cut
  kept_by_split =
      let begun : Begins view.seen kept.log × Begins view.met kept.log = kept.longest.begun id view at
      in let some : view.stake ≢ [] = has_stake view key of (kept.staked id view at)
      in record {
        log = kept.log;
        longest = record {
          is_seen = still_seen;
          begun = cases_cut (λ u. Begins u.seen kept.log × Begins u.met kept.log) begun (begun.0, (kept.log, refl)) kept.longest.begun;
        };
        legal = kept.legal;
        whole = kept.whole;
        slots = kept.slots;
        small = kept.small;
        marks = kept.marks;
        placed = kept.placed;
        owned = owned_cut;
        rises = cases_cut (λ u. IsRising 0 u.mine (length u.seen)) (kept.rises id view at) (nothing_rises (length view.seen)) kept.rises;
        orders = cases_cut (λ u. (u.order ≡ Some key) ⊎ IsSpent u) (inl of) (inl of) kept.orders;
        stakes = stakes_cut;
        staked = cases_cut (λ u. (u.stake ≢ []) ⊎ IsSpent u) (inl (halved_is_some view.stake some)) (inl (half_is_some view.stake some)) kept.staked;
      }

module _ {O : Type 0} (n : ℕ) (place : ℕ → ℕ → ℕ) (key : O) where
  pub split_allowed : (id : ℕ) (view : View O) → view.order ≡ Some key
      → Splits (λ (s : State (Unit {0}) (View O)). Kept n place key s.words s.views) id view (parted view) (cut_off view)
  split_allowed id view of s kept at = kept_by_split n place key s.words s.views kept id view at of

  only_one : (a b : View O) (seat : ℕ) → get_elem? (a ∷ []) seat ≡ some b → a ≡ b
  only_one a b zero e = some-injective a b e
  only_one a b (suc seat) e = absurd (some-ne-none b (sym e))

  pub new_allowed : ((k : ℕ) → IsOrder n (place k)) → (words : List ℕ) → length words ≡ 2 * n → words ≡ repeat n (0 ∷ 0xFFFF_FFFF_FFFF_FFFF ∷ [])
      → Kept n place key words (newcomer key [] ∷ [])
  new_allowed order words long is =
      let none : ℕ = 0xFFFF_FFFF_FFFF_FFFF
      in let is_free : (p : ℕ) → p < n → slice_index_or (slot_words words) p 0 ≡ 0 =
      λ p h. ap (λ (ws : List ℕ). slice_index_or ws p 0) (ap slot_words is ∙ slots_repeated n 0 none) ∙ get_or-replicate n p 0 0 h
      in let no_mark : (p : ℕ) → p < n → slice_index_or (mark_words words) p 0 ≡ none =
      λ p h. ap (λ (ws : List ℕ). slice_index_or ws p 0) (ap mark_words is ∙ marks_repeated n 0 none) ∙ get_or-replicate n p none 0 h
      in let first : View O = newcomer key []
      in record {
        log = [];
        longest = record {
          is_seen = (first, (0, refl), refl);
          begun = λ seat u there.
              let P : View O → Type 0 = λ w. Begins w.seen [] × Begins w.met []
              in subst P (only_one first u seat there) (([], refl), ([], refl));
        };
        legal = record { run = tt; firsts = tt; within = tt };
        whole = long;
        slots = λ p h. is_free p h ∙ ap word_of (sym (get_or-replicate n p None None h));
        small = λ p h. let e : slice_index_or (slot_words words) p 0 ≡ 0 = is_free p h in omega (arith, e);
        marks = no_mark;
        placed = λ k i h e. let none_is : slice_index_or (slot_words words) (place k i) 0 ≡ 0 = is_free (place k i) ((order k).within i h) in let clash : 0 ≡ k + 1 = sym none_is ∙ e in absurd (omega (arith, clash));
        owned = λ k. nothing_owned k;
        rises = λ seat u there. let P : View O → Type 0 = λ w. IsRising 0 w.mine (length w.seen) in subst P (only_one first u seat there) (nothing_rises 0);
        orders = λ seat u there. let P : View O → Type 0 = λ w. (w.order ≡ Some key) ⊎ IsSpent w in subst P (only_one first u seat there) (inl refl);
        stakes = λ fine up. whole_piece fine;
        staked = λ seat u there. let P : View O → Type 0 = λ w. (w.stake ≢ []) ⊎ IsSpent w in subst P (only_one first u seat there) (inl (λ none. cc));
      }

-- Places that are kept of a list, in the same room: each goes to the front, after those that were kept before.
use Rattle.std.proofs.Common.{◌≡◌, ◌≢◌, ℕ, ◌+◌, ◌<◌, ◌≤◌, ◌⊎◌, Bool, true, false, List, length, slice_set, slice_index, slice_index_or, refl, sym, ◌∙◌, ap, subst, inl, inr, arith}
use Rattle.std.proofs.lemmas.Bool.{cases_eq}
use Rattle.std.proofs.lemmas.List.{get_or-set_same, get_or-set_other, get_or_default}
use mir.Val.{bool_byte}
use Rattle.slot_table.specs.declared.batches.Look.{Look}
use Rattle.slot_table.specs.Inner.Batches.{look_at, IsPassed, AreChosen, ArePassed}

-- a key that was read stands at its place
pub key_read : (keys : List ℕ) (j read : ℕ) → j < length keys → read ≡ slice_index_or keys j read → read ≡ slice_index keys j
key_read keys j read inside is = is ∙ get_or_default keys j read 0 inside

module _ (left : List ℕ) (kept i count : ℕ) (room : count ≤ length left) (few : kept ≤ i) (more : i < count) where
  abbrev packed : List ℕ
  packed = slice_set left kept (slice_index left i)

  packed_here : slice_index packed kept ≡ slice_index left i
  packed_here = get_or-set_same left kept (slice_index left i) 0 (omega (arith, room, few, more))

  packed_other : (a : ℕ) → a ≢ kept → slice_index packed a ≡ slice_index left a
  packed_other a apart = get_or-set_other left kept a (slice_index left i) 0 apart

  -- which places are kept then: one more where this one is kept
  module _ (b : Bool) (P : Type 0) (if_kept : b ≡ true → P) where
    kept_by : (c : Bool) → b ≡ c → (a : ℕ) → a < kept + bool_byte c → (a < kept) ⊎ ((a ≡ kept) × P)
    kept_by true is a h = elim (cases_eq a kept) [ inl same ↦ inr (same, if_kept is) | inr apart ↦ inl (omega (arith, apart, h)) ]
    kept_by false is a h = inl (omega (arith, h))

    pub few_kept : (c : Bool) → kept + bool_byte c ≤ i + 1
    few_kept true = omega (arith, few)
    few_kept false = omega (arith, few)

    module _ (high : ℕ) (first : List ℕ) (given : AreChosen high first count) (chosen : AreChosen high left kept)
        (before : (a d : ℕ) → a < kept → i ≤ d → d < count → slice_index left a < slice_index left d)
        (same : (a : ℕ) → i ≤ a → a < count → slice_index left a ≡ slice_index first a) where
      here_is : slice_index packed kept ≡ slice_index first i
      here_is = packed_here ∙ same i (omega arith) more

      within_packed : (a : ℕ) → a < kept + bool_byte b → slice_index packed a < high
      within_packed a h = elim (kept_by b refl a h) [
        | inl old ↦ subst (λ (x : ℕ). x < high) (sym (packed_other a (λ e. omega (arith, e, old)))) (chosen.within a old)
        | inr one ↦ subst (λ (k : ℕ). slice_index packed k < high) (sym one.0) (subst (λ (x : ℕ). x < high) (sym here_is) (given.within i more))
      ]

      rises_packed : (a d : ℕ) → a < d → d < kept + bool_byte b → slice_index packed a < slice_index packed d
      rises_packed a d lt h = elim (kept_by b refl d h) [
        | inl old ↦
            let one : slice_index packed a ≡ slice_index left a = packed_other a (λ e. omega (arith, e, old, lt))
            in let two : slice_index packed d ≡ slice_index left d = packed_other d (λ e. omega (arith, e, old))
            in let rises : slice_index left a < slice_index left d = chosen.rises a d lt old
            in omega (arith, one, two, rises)
        | inr last ↦
            let one : slice_index packed a ≡ slice_index left a = packed_other a (λ e. omega (arith, e, last.0, lt))
            in let two : slice_index packed d ≡ slice_index left i = ap (λ (k : ℕ). slice_index packed k) last.0 ∙ packed_here
            in let rises : slice_index left a < slice_index left i = before a i (omega (arith, last.0, lt)) (omega arith) more
            in omega (arith, one, two, rises)
      ]

      pub chosen_packed : AreChosen high packed (kept + bool_byte b)
      chosen_packed = record { within = within_packed; rises = rises_packed }

      pub before_packed : (a d : ℕ) → a < kept + bool_byte b → i + 1 ≤ d → d < count → slice_index packed a < slice_index packed d
      before_packed a d h le inside =
          let two : slice_index packed d ≡ slice_index left d = packed_other d (λ e. omega (arith, e, le, few))
          in elim (kept_by b refl a h) [
            | inl old ↦
                let one : slice_index packed a ≡ slice_index left a = packed_other a (λ e. omega (arith, e, old))
                in let rises : slice_index left a < slice_index left d = before a d old (omega (arith, le)) inside
                in omega (arith, one, two, rises)
            | inr last ↦
                let one : slice_index packed a ≡ slice_index first i = ap (λ (k : ℕ). slice_index packed k) last.0 ∙ here_is
                in let three : slice_index left d ≡ slice_index first d = same d (omega (arith, le)) inside
                in let rises : slice_index first i < slice_index first d = given.rises i d (omega (arith, le)) inside
                in omega (arith, one, two, three, rises)
          ]

      pub same_packed : (a : ℕ) → i + 1 ≤ a → a < count → slice_index packed a ≡ slice_index first a
      same_packed a le inside = packed_other a (λ e. omega (arith, e, le, few)) ∙ same a (omega (arith, le)) inside

  -- those that were kept met other keys, and so did this one where it is kept
  pub passed_packed : (n : ℕ) (keys : List ℕ) (looks : List Look) (b : Bool)
      → (b ≡ true → IsPassed n (slice_index keys (slice_index left i)) (look_at looks (slice_index left i)))
      → ArePassed n keys looks left 0 kept → ArePassed n keys looks packed 0 (kept + bool_byte b)
  passed_packed n keys looks b if_kept passed a from h =
      let P : ℕ → Type 0 = λ (x : ℕ). IsPassed n (slice_index keys x) (look_at looks x)
      in elim (kept_by b (P (slice_index left i)) if_kept b refl a h) [
        | inl old ↦ subst P (sym (packed_other a (λ e. omega (arith, e, old)))) (passed a from old)
        | inr one ↦ subst (λ (k : ℕ). P (slice_index packed k)) (sym one.0) (subst P (sym packed_here) one.1)
      ]

-- one more place that stands at itself
pub one_more : (places : List ℕ) (i k : ℕ) → i < length places → ((j : ℕ) → j < i → slice_index places j ≡ j) → k < i + 1 → slice_index (slice_set places i i) k ≡ k
one_more places i k room each h =
    elim (cases_eq k i) [
      | inl same ↦ ap (λ (j : ℕ). slice_index (slice_set places i i) j) same ∙ get_or-set_same places i i 0 room ∙ sym same
      | inr apart ↦ get_or-set_other places i k i 0 apart ∙ each k (omega (arith, h, apart))
    ]

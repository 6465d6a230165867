-- Where sums of all entries are below 2 ^ 64, so are those of some of them.
use Rattle.std.proofs.Common.{◌≡◌, ℕ, ◌+◌, ◌<◌, ◌^◌, List, [], ◌∷◌, ◌++◌, take, drop, refl, ap, ap₂, sym, subst, ◌∙◌, arith}
use Rattle.std.proofs.lemmas.Bool.Decides.{nat_tests}
use Rattle.std.proofs.lemmas.List.{take-append-drop}
use Rattle.std.proofs.lemmas.List.Concat.{flat_map-append}
use Rattle.shape_dict.specs.declared.entries.Entry.{Entry}
use Rattle.range_core.specs.Totals.{count_at, total_of, all_of, there_of, played_of, HaveSmallSums}
use Rattle.range_core.proofs.Adding.{total_append, total_push}
use Rattle.range_core.proofs.Joining.{there_together, played_together}

pub small_same : (xs ys : List Entry) → ((shape : ℕ) → total_of shape ys ≡ total_of shape xs) → HaveSmallSums xs → HaveSmallSums ys
small_same xs ys same small shape = subst (λ t. there_of t + played_of t < 2 ^ 64) (sym (same shape)) (small shape)

there_append : (shape : ℕ) (xs ys : List Entry) → there_of (total_of shape (xs ++ ys)) ≡ there_of (total_of shape xs) + there_of (total_of shape ys)
there_append shape xs ys = ap there_of (total_append shape xs ys) ∙ there_together (total_of shape xs) (total_of shape ys)

played_append : (shape : ℕ) (xs ys : List Entry) → played_of (total_of shape (xs ++ ys)) ≡ played_of (total_of shape xs) + played_of (total_of shape ys)
played_append shape xs ys = ap played_of (total_append shape xs ys) ∙ played_together (total_of shape xs) (total_of shape ys)

pub small_front : (xs ys : List Entry) → HaveSmallSums (xs ++ ys) → HaveSmallSums xs
small_front xs ys small shape = omega (arith, small shape, there_append shape xs ys, played_append shape xs ys)

pub small_back : (xs ys : List Entry) → HaveSmallSums (xs ++ ys) → HaveSmallSums ys
small_back xs ys small shape = omega (arith, small shape, there_append shape xs ys, played_append shape xs ys)

-- the first entries, as many as there are before a place
pub small_take : (n : ℕ) (xs : List Entry) → HaveSmallSums xs → HaveSmallSums (take n xs)
small_take n xs small = small_front (take n xs) (drop n xs) (subst HaveSmallSums (sym (take-append-drop n xs)) small)

-- lists, and more lists
pub small_lists : (low high : List (List Entry)) → HaveSmallSums (all_of (low ++ high)) → HaveSmallSums (all_of low) × HaveSmallSums (all_of high)
small_lists low high small =
    let both = subst HaveSmallSums (flat_map-append (λ (l : List Entry). l) low high) small in
    (small_front (all_of low) (all_of high) both, small_back (all_of low) (all_of high) both)

-- the two parts that lists are split into
pub small_parts : (all low high : List (List Entry)) (n : ℕ) → low ≡ take n all → high ≡ drop n all → HaveSmallSums (all_of all) →
    HaveSmallSums (all_of low) × HaveSmallSums (all_of high)
small_parts all low high n front back small =
    let together : low ++ high ≡ all = ap₂ (λ (a b : List (List Entry)). a ++ b) front back ∙ take-append-drop n all in
    small_lists low high (subst (λ (l : List (List Entry)). HaveSmallSums (all_of l)) (sym together) small)

-- two entries of one pattern
there_own : (x : Entry) (shape : ℕ) → x.shape ≡ shape → there_of (count_at shape x) ≡ x.there
there_own x shape same = Prim.grind (arith, nat_tests)

played_own : (x : Entry) (shape : ℕ) → x.shape ≡ shape → played_of (count_at shape x) ≡ x.played
played_own x shape same = Prim.grind (arith, nat_tests)

pub small_pair : (front : List Entry) (last x : Entry) → last.shape ≡ x.shape → HaveSmallSums ((front ++ last ∷ []) ++ x ∷ []) →
    last.there + last.played + x.there + x.played < 2 ^ 64
small_pair front last x same small =
    let shape = x.shape in
    let so_far = front ++ last ∷ [] in
    let had = total_of shape front in
    omega (
      arith,
      small shape,
      ap there_of (total_push shape so_far x) ∙ there_together (total_of shape so_far) (count_at shape x),
      ap played_of (total_push shape so_far x) ∙ played_together (total_of shape so_far) (count_at shape x),
      ap there_of (total_push shape front last) ∙ there_together had (count_at shape last),
      ap played_of (total_push shape front last) ∙ played_together had (count_at shape last),
      there_own last shape same,
      played_own last shape same,
      there_own x shape refl,
      played_own x shape refl,
    )

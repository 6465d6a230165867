-- Whether a full table is one of patterns of rows, number by number.
use Rattle.std.proofs.Common.{◌≡◌, ◌≢◌, ℕ, ◌+◌, ◌<◌, ◌⊎◌, inl, inr, List, length, get_or, AllPairs, Option, Some, None, refl, sym, subst, ◌∙◌, arith, Contains}
use Rattle.table_shares.proofs.Common.{All, Contains-get_or, IsFree, IsFull, Happened, content_of, keys_of, IsLegal, Keeps, TellsAt, length-content, key_is_numbered, keys_differ, full_keys, number_below, one_key, Row, shape_at, HasShape, HasShapeAt, IsKnown, IsUnknown, first_shape, IsUnconfirmed, IsConfirmation}
use Rattle.harvest_faults.specs.declared.faults.HarvestFault.TheVariants as fault
use Rattle.table_shares.specs.Inner.Confirming.{AreFrom, IsLeastOf, IsOfRow}
use Rattle.table_shares.proofs.Stood.{nothing_at}
use borrow.Author.Count.{below_more}

-- ---- number by number
known_kept : (n : ℕ) (seen history : List Happened) (rows : List Row) (number : ℕ) → Keeps n seen history → IsKnown n seen rows number → IsKnown n history rows number
known_kept n seen history rows number keeps h = (h.0, keeps.numbers h.0 number h.1, h.2)

known_told : (n : ℕ) (seen : List Happened) (rows : List Row) (number : ℕ) (found : Option ℕ) → TellsAt n seen number found → IsOfRow rows found → IsKnown n seen rows number
known_told n seen rows number None told of = absurd of
known_told n seen rows number (Some key) told of = (key, told, of)

-- the numbers below this one are known, and the refused word has no row of any of them
pub record AreConfirmed (n : ℕ) (seen : List Happened) (rows : List Row) (word high : ℕ) : Type 0 where
  pub known : (number : ℕ) → number < high → IsKnown n seen rows number
  pub above : AreFrom word rows high

-- one number more
above_more : (rows : List Row) (word number : ℕ) (least : Option ℕ) → (least ≡ Some number → ⊥) → IsLeastOf word rows least → AreFrom word rows number → AreFrom word rows (number + 1)
above_more rows word number None other h above row among same = absurd (h (row, among, same))
above_more rows word number (Some least) other h above row among same = Prim.grind (arith, h.1 row among, above h.0.0 h.0.1, h.0.2, h.0.3)

pub confirmed_more : {n : ℕ} {seen history : List Happened} {rows : List Row} {word number : ℕ} → AreConfirmed n seen rows word number → (found least : Option ℕ) →
    Keeps n seen history → TellsAt n history number found → IsOfRow rows found × (least ≡ Some number → ⊥) → IsLeastOf word rows least →
    AreConfirmed n history rows word (number + 1)
confirmed_more {n = n} {seen = seen} {history = history} {rows = rows} {word = word} {number = number} h found least keeps told agrees is = record {
  known = below_more (IsKnown n history rows) number (λ low before. known_kept n seen history rows low keeps (h.known low before))
      (known_told n history rows number found told agrees.0);
  above = above_more rows word number least agrees.1 is h.above;
}

-- why a number is the last one
why_last : (n : ℕ) (seen : List Happened) (rows : List Row) (word number : ℕ) (found least : Option ℕ) → TellsAt n seen number found → IsLeastOf word rows least →
    (IsOfRow rows found → ⊥) ⊎ (least ≡ Some number) → IsFree (content_of n seen) number ⊎ (IsUnknown n seen rows number ⊎ HasShapeAt rows number word)
why_last n seen rows word number None least told is (inl unknown) = inl told
why_last n seen rows word number (Some key) least told is (inl unknown) = inr (inl (key, told, unknown))
why_last n seen rows word number found least told is (inr at) = inr (inr ((subst (IsLeastOf word rows) at is).0))

pub stopped : {n : ℕ} {seen history : List Happened} {rows : List Row} {word number : ℕ} → AreConfirmed n seen rows word number → (found least : Option ℕ) →
    Keeps n seen history → TellsAt n history number found → found ≡ shape_at n history number → IsLeastOf word rows least →
    (IsOfRow rows found → ⊥) ⊎ (least ≡ Some number) → IsUnconfirmed n history rows word number (first_shape rows number) found
stopped {n = n} {seen = seen} {history = history} {rows = rows} {word = word} {number = number} h found least keeps told shown is differs = record {
  share = refl;
  table = shown;
  why = why_last n history rows word number found least told is differs;
  known = λ lesser low within. known_kept n seen history rows lesser keeps (h.known lesser low);
  others = λ lesser low here. Prim.grind (arith, h.above here.0 here.1 here.3, here.2);
}

-- after all numbers
pub beyond : (n : ℕ) (seen : List Happened) (rows : List Row) (word number : ℕ) → IsLeastOf word rows (Some number) → AreConfirmed n seen rows word n →
    IsUnconfirmed n seen rows word number (first_shape rows number) None
beyond n seen rows word number is h = record {
  share = refl;
  table = nothing_at n seen number (Prim.grind (arith, h.above is.0.0 is.0.1 is.0.3, is.0.2));
  why = inr (inr is.0);
  known = λ lesser low within. h.known lesser within;
  others = λ lesser low here. Prim.grind (arith, is.1 here.0 here.1 here.3, here.2);
}

-- ---- a full table shows more patterns than numbers
none_free : (n : ℕ) (seen : List Happened) (rows : List Row) → ((number : ℕ) → number < n → IsKnown n seen rows number) → IsFull (content_of n seen)
none_free n seen rows known p free =
    let long : length (content_of n seen) ≡ n = length-content n seen in
    let one = known p (omega (arith, long, free.within)) in
    let clash : None ≡ Some one.0 = sym free.free ∙ one.1.stands in
    cc

pub more_patterns : (n : ℕ) (seen : List Happened) (rows : List Row) (game word : ℕ) → IsLegal n seen → IsConfirmation n seen rows game word (fault.Full game word) →
    (keys : List ℕ) × (length keys ≡ n) × AllPairs (λ one other. one ≢ other) keys × All (HasShape rows) keys × (Contains keys word → ⊥)
more_patterns n seen rows game word legal h =
    let shapes : (key : ℕ) → Contains (keys_of (content_of n seen)) key → HasShape rows key = λ key among.
    let number = key_is_numbered n seen key among in
    let one = h.2 number.0 (number_below n seen key number.0 number.1) in
    subst (HasShape rows) (one_key n seen one.0 key number.0 one.1 number.1) one.2 in (
      keys_of (content_of n seen),
      full_keys n seen (none_free n seen rows h.2),
      keys_differ n seen legal,
      λ k d low. shapes (get_or (keys_of (content_of n seen)) k d) (Contains-get_or (keys_of (content_of n seen)) k d low),
      λ among. h.3 (shapes word among),
    )

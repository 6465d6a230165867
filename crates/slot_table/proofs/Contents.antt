-- Which keys the content of a history shows at which numbers.
use Rattle.std.proofs.Common.{◌≡◌, ◌≢◌, ℕ, zero, suc, ◌<◌, List, [], ◌∷◌, length, slice_index_or, AllPairs, Contains, Option, Some, None, true, false, refl, ap, sym, ◌∙◌, subst, eq-eqb, arith}
use Rattle.std.specs.List.{AllByRecursion, IsDistinct}
use Rattle.std.proofs.Math.Dec.{eqb}
use Rattle.std.proofs.lemmas.Bool.{ne_eqb}
use Rattle.std.proofs.lemmas.Map.Keys.{apart_from_distinct}
use Rattle.probe_core.specs.Sequential.{Table, IsNumber, IsFree, IsFull}
use Rattle.probe_core.proofs.Histories.{HasOneEach, one_each_legal}
use Rattle.slot_table.specs.declared.entries.Happened.{Happened}
use Rattle.slot_table.specs.History.{asked_of, content_of, keys_of, IsLegal, TellsAt}
use Rattle.slot_table.proofs.Histories.{length-content}

-- a number below n is within the content
within_content : (n : ℕ) (history : List Happened) (p : ℕ) → p < n → p < length (content_of n history)
within_content n history p inside = let l : length (content_of n history) ≡ n = length-content n history in omega (arith, l, inside)

-- where the content shows a key, or none, is the key's number, or a free one
pub number_shown : (n : ℕ) (history : List Happened) (key p : ℕ) → p < n → slice_index_or (content_of n history) p None ≡ Some key
    → IsNumber (content_of n history) key p
number_shown n history key p inside shows = record { within = within_content n history p inside; stands = shows }

pub free_shown : (n : ℕ) (history : List Happened) (p : ℕ) → p < n → slice_index_or (content_of n history) p None ≡ None
    → IsFree (content_of n history) p
free_shown n history p inside shows = record { within = within_content n history p inside; free = shows }

pub tells_at : (n : ℕ) (history : List Happened) (p : ℕ) (found : Option ℕ) → p < n → found ≡ slice_index_or (content_of n history) p None
    → TellsAt n history p found
tells_at n history p None inside shows = free_shown n history p inside (sym shows)
tells_at n history p (Some key) inside shows = number_shown n history key p inside (sym shows)

-- a number is below n
pub number_below : (n : ℕ) (history : List Happened) (key p : ℕ) → IsNumber (content_of n history) key p → p < n
number_below n history key p number = let l : length (content_of n history) ≡ n = length-content n history in omega (arith, l, number.within)

-- a key has one number after a legal history
pub one_number : (n : ℕ) (history : List Happened) (key p q : ℕ) → IsLegal n history
    → IsNumber (content_of n history) key p → IsNumber (content_of n history) key q → p ≡ q
one_number n history key p q legal one other = one_each_legal n (asked_of history) legal.run key p q one other

-- a number is that of one key
pub one_key : (n : ℕ) (history : List Happened) (key other p : ℕ)
    → IsNumber (content_of n history) key p → IsNumber (content_of n history) other p → key ≡ other
one_key n history key other p one two = let same : Some key ≡ Some other = sym one.stands ∙ two.stands in cc

-- the keys of a table

number_after : (o : Option ℕ) (table : Table) (key p : ℕ) → IsNumber table key p → IsNumber (o ∷ table) key (suc p)
number_after o table key p number = record { within = omega (arith, number.within); stands = number.stands }

number_here : (table : Table) (key : ℕ) → IsNumber (Some key ∷ table) key 0
number_here table key = record { within = omega arith; stands = refl }

all_keys : (P : ℕ → Type 0) (table : Table) → ((key p : ℕ) → IsNumber table key p → P key) → AllByRecursion P (keys_of table)
all_keys P [] each = tt
all_keys P (None ∷ table) each = all_keys P table (λ key p number. each key (suc p) (number_after None table key p number))
all_keys P (Some x ∷ table) each =
    (each x 0 (number_here table x), all_keys P table (λ key p number. each key (suc p) (number_after (Some x) table key p number)))

one_each_after_first : (o : Option ℕ) (table : Table) → HasOneEach (o ∷ table) → HasOneEach table
one_each_after_first o table one key p q first second =
    let same : suc p ≡ suc q = one key (suc p) (suc q) (number_after o table key p first) (number_after o table key q second) in omega (arith, same)

keys_distinct : (table : Table) → HasOneEach table → IsDistinct eqb (keys_of table)
unfolding IsDistinct
keys_distinct [] one = tt
keys_distinct (None ∷ table) one = keys_distinct table (one_each_after_first None table one)
keys_distinct (Some x ∷ table) one = (
  all_keys (λ y. eqb x y ≡ false) table
      (λ y p number. ne_eqb x y (λ same.
      let clash : 0 ≡ suc p = one y 0 (suc p) (subst (λ (k : ℕ). IsNumber (Some x ∷ table) k 0) same (number_here table x)) (number_after (Some x) table y p number)
      in omega (arith, clash))),
  keys_distinct table (one_each_after_first (Some x) table one),
)

numbered_key : (table : Table) (k key : ℕ) → k < length (keys_of table) → slice_index_or (keys_of table) k key ≡ key → (p : ℕ) × IsNumber table key p
numbered_key [] k key h e = absurd (omega (arith, h))
numbered_key (None ∷ table) k key h e =
    let r : (p : ℕ) × IsNumber table key p = numbered_key table k key h e in (suc r.0, number_after None table key r.0 r.1)
numbered_key (Some x ∷ table) zero key h e = (0, subst (λ (y : ℕ). IsNumber (Some x ∷ table) y 0) e (number_here table x))
numbered_key (Some x ∷ table) (suc k) key h e =
    let r : (p : ℕ) × IsNumber table key p = numbered_key table k key (omega (arith, h)) e in (suc r.0, number_after (Some x) table key r.0 r.1)

key_numbered : (table : Table) (key p : ℕ) → IsNumber table key p → Contains (keys_of table) key
key_numbered [] key p number = absurd (omega (arith, number.within))
key_numbered (None ∷ table) key zero number = let clash : None ≡ Some key = number.stands in cc
key_numbered (None ∷ table) key (suc p) number = key_numbered table key p (record { within = omega (arith, number.within); stands = number.stands })
key_numbered (Some x ∷ table) key zero number =
    (0, (let l : 0 < suc (length (keys_of table)) = omega arith in l), (let same : Some x ≡ Some key = number.stands in cc))
key_numbered (Some x ∷ table) key (suc p) number =
    let r : Contains (keys_of table) key = key_numbered table key p (record { within = omega (arith, number.within); stands = number.stands })
    in (suc r.0, omega (arith, r.1), r.2)

full_table : (table : Table) → IsFull table → length (keys_of table) ≡ length table
full_table [] full = refl
full_table (None ∷ table) full = absurd (full 0 (record { within = omega arith; free = refl }))
full_table (Some x ∷ table) full =
    ap suc (full_table table (λ p free. full (suc p) (record { within = omega (arith, free.within); free = free.free })))

pub key_is_numbered : (n : ℕ) (history : List Happened) (key : ℕ) → Contains (keys_of (content_of n history)) key
    → (p : ℕ) × IsNumber (content_of n history) key p
key_is_numbered n history key among = numbered_key (content_of n history) among.0 key among.1 among.2

pub numbered_is_key : (n : ℕ) (history : List Happened) (key : ℕ) → (p : ℕ) × IsNumber (content_of n history) key p
    → Contains (keys_of (content_of n history)) key
numbered_is_key n history key number = key_numbered (content_of n history) key number.0 number.1

-- after a legal history they are all different
pub keys_differ : (n : ℕ) (history : List Happened) → IsLegal n history → AllPairs (λ key other. key ≢ other) (keys_of (content_of n history))
keys_differ n history legal i j d before inside same =
    let keys : List ℕ = keys_of (content_of n history)
    in let apart : eqb (slice_index_or keys i d) (slice_index_or keys j d) ≡ false =
    apart_from_distinct eqb keys i j d (keys_distinct (content_of n history) (one_each_legal n (asked_of history) legal.run)) before inside
    in let equal : eqb (slice_index_or keys i d) (slice_index_or keys j d) ≡ true = eq-eqb (slice_index_or keys i d) (slice_index_or keys j d) same
    in let clash : true ≡ false = sym equal ∙ apart in cc

-- and where no number is free there are n of them
pub full_keys : (n : ℕ) (history : List Happened) → IsFull (content_of n history) → length (keys_of (content_of n history)) ≡ n
full_keys n history full = full_table (content_of n history) full ∙ length-content n history

-- The sum of dictionaries that sources offer, by halves.
use Rattle.std.proofs.Common.{◌≡◌, ℕ, zero, suc, ◌+◌, ◌-◌, ◌≤◌, ◌<◌, List, [], ◌∷◌, ◌++◌, length, Bool, Option, Some, Result, Ok, Err, MatchResult, IfOk, ap, sym, refl, subst, arith, length-append}
use Rattle.std.specs.List.{AllByRecursion}
use Rattle.shape_dict.specs.declared.entries.Entry.{Entry}
use Rattle.shape_dict.specs.Contents.{Contents}
use Rattle.shape_dict.specs.Reading.{IsTextOf}
use Rattle.shape_dict.specs.Inner.Merging.{merged}
use Rattle.merge_core.specs.Inner.Folds.{both_of, FoldsAll}
use Rattle.merge_core.specs.Inner.Leaves.{Offers}
use Rattle.merge_core.specs.Entries.{IsNextFault}
use Rattle.merge_core.specs.Inner.Judging.{IsTotal}
use Rattle.merge_core.specs.Inner.Trees.{Yields}
use Rattle.merge_core.specs.declared.growing.Grown.{Grown}
use Rattle.merge_core.specs.declared.entries.NextFault.{NextFault}
use Rattle.merge_core.proofs.Folded.{IsOf, folds_both, folds_exist}

pub offers_are : (bytes : ℕ → Option (List ℕ)) (kind : Bool) (from : ℕ) (all : List Contents) → Offers bytes kind from all → AllByRecursion (IsOf kind) all
offers_are bytes kind from [] h = tt
offers_are bytes kind from (d ∷ all) h = ((h.0.is_text.dictionary, h.0.kinds), offers_are bytes kind (from + 1) all h.1)

-- the first of them, and the others
pub record AreSplit (bytes : ℕ → Option (List ℕ)) (kind : Bool) (from count : ℕ) (all : List Contents) : Type 0 where
  pub first : List Contents
  pub last : List Contents
  pub parts : all ≡ first ++ last
  pub number : length first ≡ count
  pub of_first : Offers bytes kind from first
  pub of_last : Offers bytes kind (from + count) last

split : (bytes : ℕ → Option (List ℕ)) (kind : Bool) (from count : ℕ) (all : List Contents) → count ≤ length all → Offers bytes kind from all → AreSplit bytes kind from count all
split bytes kind from zero all few h = record {
  first = [];
  last = all;
  parts = refl;
  number = refl;
  of_first = tt;
  of_last = (let same : from ≡ from + 0 = omega arith in subst (λ (n : ℕ). Offers bytes kind n all) same h);
}
split bytes kind from (suc count) [] few h = absurd (omega arith)
split bytes kind from (suc count) (d ∷ all) few h =
    let rest = split bytes kind (from + 1) count all (omega arith) h.1 in
    record {
      first = d ∷ rest.first;
      last = rest.last;
      parts = ap (λ (xs : List Contents). d ∷ xs) rest.parts;
      number = omega (arith, rest.number);
      of_first = (h.0, rest.of_first);
      of_last = (let same : from + 1 + count ≡ from + suc count = omega arith in subst (λ (n : ℕ). Offers bytes kind n rest.last) same rest.of_last);
    }

abbrev pub HasSum : List Contents → (Contents → Type 0) → Type 0
HasSum all P = (sum : Contents) × FoldsAll all sum × P sum

pub one_sum : (bytes : ℕ → Option (List ℕ)) (kind : Bool) (from : ℕ) (all : List Contents) (P : Contents → Type 0) → Offers bytes kind from all → length all ≡ 1 →
    ((text : List ℕ) (d : Contents) → bytes from ≡ Some text → IsTextOf d text → P d) → HasSum all P
one_sum bytes kind from [] P h one f = absurd (omega arith)
one_sum bytes kind from (d ∷ []) P h one f = (d, refl, f h.0.text d h.0.known h.0.is_text)
one_sum bytes kind from (d ∷ e ∷ all) P h one f = absurd (omega arith)

some_sum : (bytes : ℕ → Option (List ℕ)) (kind : Bool) (from : ℕ) (all : List Contents) → Offers bytes kind from all → 0 < length all → HasSum all (λ sum. Unit {0})
some_sum bytes kind from all h some = let s = folds_exist kind 0 all some (offers_are bytes kind from all h) in (s.0, s.1, tt)

both_sums : (bytes : ℕ → Option (List ℕ)) (kind : Bool) (from count : ℕ) (all : List Contents) (P Q R : Contents → Type 0) (s : AreSplit bytes kind from count all) → HasSum s.first P → HasSum s.last Q →
    ((a b : Contents) → P a → Q b → R (both_of a b)) → HasSum all R
both_sums bytes kind from count all P Q R s p q f =
    let join = folds_both kind s.first s.last p.0 q.0 (offers_are bytes kind from s.first s.of_first) (offers_are bytes kind (from + count) s.last s.of_last) p.1 q.1 in
    (both_of p.0 q.0, subst (λ (xs : List Contents). FoldsAll xs (both_of p.0 q.0)) (sym s.parts) join.0, f p.0 q.0 p.2 q.2)

-- of what each half gives
pub halves_sum : (bytes : ℕ → Option (List ℕ)) (kind : Bool) (from count half : ℕ) (all : List Contents) (P Q R : Contents → Type 0) → Offers bytes kind from all → length all ≡ count → half ≤ count →
    ((xs : List Contents) → Offers bytes kind from xs → length xs ≡ half → HasSum xs P) →
    ((ys : List Contents) → Offers bytes kind (from + half) ys → length ys ≡ count - half → HasSum ys Q) →
    ((a b : Contents) → P a → Q b → R (both_of a b)) → HasSum all R
halves_sum bytes kind from count half all P Q R h number low p q f =
    let s = split bytes kind from half all (omega arith) h in
    let last : length s.last ≡ count - half = omega (arith, length-append s.first s.last, ap length s.parts, s.number) in
    both_sums bytes kind from half all P Q R s (p s.first s.of_first s.number) (q s.last s.of_last last) f

-- of what the first half gives, whatever the other does
pub first_sum : (bytes : ℕ → Option (List ℕ)) (kind : Bool) (from count half : ℕ) (all : List Contents) (P R : Contents → Type 0) → Offers bytes kind from all → length all ≡ count → half < count →
    ((xs : List Contents) → Offers bytes kind from xs → length xs ≡ half → HasSum xs P) → ((a b : Contents) → P a → R (both_of a b)) → HasSum all R
first_sum bytes kind from count half all P R h number low p f =
    halves_sum bytes kind from count half all P (λ sum. Unit {0}) R h number (omega arith) p (λ ys offers is. some_sum bytes kind (from + half) ys offers (omega arith)) (λ a b x y. f a b x)

pub last_sum : (bytes : ℕ → Option (List ℕ)) (kind : Bool) (from count half : ℕ) (all : List Contents) (Q R : Contents → Type 0) → Offers bytes kind from all → length all ≡ count → 0 < half → half ≤ count →
    ((ys : List Contents) → Offers bytes kind (from + half) ys → length ys ≡ count - half → HasSum ys Q) → ((a b : Contents) → Q b → R (both_of a b)) → HasSum all R
last_sum bytes kind from count half all Q R h number some low q f =
    halves_sum bytes kind from count half all (λ sum. Unit {0}) Q R h number low (λ xs offers is. some_sum bytes kind from xs offers (omega arith)) q (λ a b x y. f a b y)

abbrev pub Gives : {E : Type 0} → (E → List Entry → Type 0) → Contents → Grown E → Type 0
Gives Of sum grown = (grown.totals.games ≡ sum.games) × Yields Of grown.tree sum.entries

-- the tree of two gives the join of what both give
pub pair_sum : {E : Type 0} (Of : E → List Entry → Type 0) (result : Result (Grown E) NextFault) (left right : Grown E) (a b : Contents) →
    ((mine other : List Entry) → Yields Of left.tree mine → Yields Of right.tree other →
    MatchResult result (λ both. Yields Of both.tree (merged left.totals.games mine other)) (IsNextFault (merged left.totals.games mine other))) →
    IfOk result (λ both. IsTotal left.totals right.totals both.totals) → Gives Of a left → Gives Of b right → MatchResult result (Gives Of (both_of a b)) (IsNextFault (both_of a b).entries)
pair_sum {E} Of (Ok both) left right a b h t p q =
    let games : both.totals.games ≡ a.games + b.games = omega (arith, t.games, p.0, q.0) in
    (games, subst (λ (m : ℕ). Yields Of both.tree (merged m a.entries b.entries)) p.0 (h a.entries b.entries p.1 q.1))
pair_sum {E} Of (Err found) left right a b h t p q = subst (λ (m : ℕ). IsNextFault (merged m a.entries b.entries) found) p.0 (h a.entries b.entries p.1 q.1)

-- Refusals as they are parted, and the one that is told.
use Rattle.std.proofs.Common.{◌≡◌, ℕ, ◌<◌, ◌+◌, ◌≤◌, ◌⊎◌, refl, length, get_or, nat_lt, true, false, inl, inr, List, [], ◌∷◌, ◌++◌, Some, None, Option, ap, sym, subst, ◌∙◌, arith, All, Contains, ⊎_elim, append_assoc}
use Rattle.std.specs.Prelude.{slice_get, MatchOption}
use Rattle.std.specs.List.{AllByRecursion, cons_option}
use Rattle.std.proofs.lemmas.Bool.Decides.{nat_tests}
use Rattle.std.proofs.lemmas.List.Elements.{All-map, All-weaker, All-from_recursion, recursion_from_All, filter_map-append}
use Rattle.std.proofs.lemmas.Option.{same_Some, slice_get_within, slice_get_read, slice_get_cases}
use Rattle.shape_core.specs.declared.words.Kinds.{Kinds}
use Rattle.gather_core.specs.Shares.{Held}
use Rattle.harvest_faults.specs.declared.faults.HarvestFault.{HarvestFault}
use Rattle.table_harvest.specs.declared.working.Worked.{Worked}
use Rattle.harvest_core.specs.Working.{IsWorked}
use Rattle.table_harvest.specs.Working.{IsRefusal, IsRefused}
use Rattle.table_harvest.specs.Inner.Working.{IsWorkOf}
use Rattle.table_harvest.specs.Inner.Parted.{shares_of, refusals_of, rank, game_of, GoesFirst, IsWorst}

-- one worker's share moves from those that are left to those that are parted
pub shares_on : (done : List Held) (one : Worked) (rest : List Worked) → (done ++ one.share ∷ []) ++ shares_of rest ≡ done ++ shares_of (one ∷ rest)
shares_on done one rest = append_assoc done (one.share ∷ []) (shares_of rest)

-- and its refusal, if there is one
pub refusals_on : (done : List HarvestFault) (one : Worked) (rest : List Worked) → (done ++ refusals_of (one ∷ [])) ++ refusals_of rest ≡ done ++ refusals_of (one ∷ rest)
refusals_on done one rest =
    append_assoc done (refusals_of (one ∷ [])) (refusals_of rest)
    ∙ ap (λ (more : List HarvestFault). done ++ more) (sym (filter_map-append (λ (w : Worked). w.refused) (one ∷ []) rest))

-- shares of workers are of the input
pub shares_worked : (bytes : List ℕ) (kinds : Kinds) (worked : List Worked) → All (IsWorkOf bytes kinds) worked → All (IsWorked bytes kinds) (shares_of worked)
shares_worked bytes kinds worked all =
    All-map (IsWorked bytes kinds) (λ (one : Worked). one.share) worked
    (All-weaker (IsWorkOf bytes kinds) (λ (one : Worked). IsWorked bytes kinds one.share) (λ one h. h.0) worked all)

some_refused : (bytes : List ℕ) (kinds : Kinds) (refused : Option HarvestFault) (rest : List HarvestFault) → IsRefused bytes kinds refused →
    AllByRecursion (IsRefusal bytes kinds) rest → AllByRecursion (IsRefusal bytes kinds) (cons_option refused rest)
some_refused bytes kinds None rest is all = all
some_refused bytes kinds (Some found) rest is all = (is, all)

each_refused : (bytes : List ℕ) (kinds : Kinds) (worked : List Worked) → AllByRecursion (IsWorkOf bytes kinds) worked → AllByRecursion (IsRefusal bytes kinds) (refusals_of worked)
each_refused bytes kinds [] all = tt
each_refused bytes kinds (one ∷ worked) all = some_refused bytes kinds one.refused (refusals_of worked) all.0.1 (each_refused bytes kinds worked all.1)

-- and so are their refusals
pub refusals_worked : (bytes : List ℕ) (kinds : Kinds) (worked : List Worked) → All (IsWorkOf bytes kinds) worked → All (IsRefusal bytes kinds) (refusals_of worked)
refusals_worked bytes kinds worked all =
    All-from_recursion (IsRefusal bytes kinds) (refusals_of worked) (each_refused bytes kinds worked (recursion_from_All (IsWorkOf bytes kinds) worked all))

-- what goes before a fault that goes before another one goes before that too
before_both : (one two three : HarvestFault) → GoesFirst one two → GoesFirst two three → GoesFirst one three
before_both one two three h k =
    ⊎_elim
    (λ (low : rank one < rank two). inl (⊎_elim
    (λ (next : rank two < rank three). let e : rank one < rank three = omega arith in e)
    (λ (same : (rank two ≡ rank three) × (game_of two < game_of three)). let is = same.0 in let e : rank one < rank three = omega arith in e) k))
    (λ (same : (rank one ≡ rank two) × (game_of one < game_of two)). let is = same.0 in let less = same.1 in ⊎_elim
    (λ (next : rank two < rank three). let e : rank one < rank three = omega arith in inl e)
    (λ (also : (rank two ≡ rank three) × (game_of two < game_of three)). let on = also.0 in let more = also.1 in inr (is ∙ on, (let e : game_of one < game_of three = omega arith in e))) k)
    h

not_itself : (one : HarvestFault) → GoesFirst one one → ⊥
not_itself one h = ⊎_elim
    (λ (low : rank one < rank one). absurd (omega arith))
    (λ (same : (rank one ≡ rank one) × (game_of one < game_of one)). let less = same.1 in absurd (omega arith))
    h

contains_at : (refusals : List HarvestFault) (n : ℕ) (one : HarvestFault) → slice_get refusals n ≡ Some one → Contains refusals one
contains_at refusals n one is = ⊎_elim
    (λ (inside : (x : HarvestFault) × (n < length refusals) × (slice_get refusals n ≡ Some x) × (get_or refusals n x ≡ x)).
    let same : inside.0 ≡ one = same_Some inside.0 one (sym inside.2 ∙ is) in
    (n, inside.1, subst (λ (x : HarvestFault). get_or refusals n x ≡ x) same inside.3))
    (λ (past : (length refusals ≤ n) × (slice_get refusals n ≡ None)). let low = slice_get_within refusals n one is in let high = past.0 in absurd (omega arith))
    (slice_get_cases refusals n).1

no_elements : (refusals : List HarvestFault) → length refusals ≡ 0 → refusals ≡ []
no_elements [] none = refl
no_elements (one ∷ refusals) none = absurd (omega arith)

-- of the first n refusals none goes before this one
abbrev NoneBefore : List HarvestFault → ℕ → HarvestFault → Type 0
NoneBefore refusals n found = (k : ℕ) (other : HarvestFault) → k < n → slice_get refusals k ≡ Some other → GoesFirst other found → ⊥

-- a fault so far: one of the refusals, and of the first n none goes before it
abbrev pub IsWorstOf : List HarvestFault → ℕ → HarvestFault → Type 0
IsWorstOf refusals n found = Contains refusals found × NoneBefore refusals n found

-- one refusal more is looked at, and goes first
goes : (refusals : List HarvestFault) (n : ℕ) (found one : HarvestFault) → slice_get refusals n ≡ Some one → NoneBefore refusals n found → GoesFirst one found →
    NoneBefore refusals (n + 1) one
goes refusals n found one is none first k other low at before =
    elim (nat_lt k n) as (λ b. nat_lt k n ≡ b → ⊥) [
      | true ↦ λ test. none k other (Prim.grind (arith, nat_tests)) at (before_both other one found before first)
      | false ↦ λ test.
          let here : k ≡ n = Prim.grind (arith, nat_tests) in
          let same : other ≡ one = same_Some other one (sym at ∙ ap (slice_get refusals) here ∙ is) in
          not_itself one (subst (λ (x : HarvestFault). GoesFirst x one) same before)
    ] refl

-- or does not
stays : (refusals : List HarvestFault) (n : ℕ) (found one : HarvestFault) → slice_get refusals n ≡ Some one → NoneBefore refusals n found → (GoesFirst one found → ⊥) →
    NoneBefore refusals (n + 1) found
stays refusals n found one is none not_first k other low at before =
    elim (nat_lt k n) as (λ b. nat_lt k n ≡ b → ⊥) [
      | true ↦ λ test. none k other (Prim.grind (arith, nat_tests)) at before
      | false ↦ λ test.
          let here : k ≡ n = Prim.grind (arith, nat_tests) in
          let same : other ≡ one = same_Some other one (sym at ∙ ap (slice_get refusals) here ∙ is) in
          not_first (subst (λ (x : HarvestFault). GoesFirst x found) same before)
    ] refl

-- what is told of a fault so far and one more
abbrev IsTold : Option HarvestFault → HarvestFault → HarvestFault → Type 0
IsTold found one result = MatchOption found (result ≡ one) (λ (so_far : HarvestFault).
    ((result ≡ one) × GoesFirst one so_far) ⊎ ((result ≡ so_far) × (GoesFirst one so_far → ⊥)))

-- one refusal more is looked at
pub worst_more : (refusals : List HarvestFault) (n : ℕ) (found : Option HarvestFault) (one result : HarvestFault) → n < length refusals → slice_get refusals n ≡ Some one →
    MatchOption found (n ≡ 0) (IsWorstOf refusals n) → IsTold found one result → IsWorstOf refusals (n + 1) result
worst_more refusals n None one result low is so_far told =
    subst (IsWorstOf refusals (n + 1)) (sym told) (
      contains_at refusals n one is,
      λ k other below at before.
          let here : k ≡ n = omega arith in
          let same : other ≡ one = same_Some other one (sym at ∙ ap (slice_get refusals) here ∙ is) in
          not_itself one (subst (λ (x : HarvestFault). GoesFirst x one) same before),
    )
worst_more refusals n (Some found) one result low is so_far told = ⊎_elim
    (λ (first : (result ≡ one) × GoesFirst one found).
    subst (IsWorstOf refusals (n + 1)) (sym first.0) (contains_at refusals n one is, goes refusals n found one is so_far.1 first.1))
    (λ (not_first : (result ≡ found) × (GoesFirst one found → ⊥)).
    subst (IsWorstOf refusals (n + 1)) (sym not_first.0) (so_far.0, stays refusals n found one is so_far.1 not_first.1))
    told

-- all were looked at
pub worst_all : (refusals : List HarvestFault) (n : ℕ) (found : Option HarvestFault) → length refusals ≤ n → MatchOption found (n ≡ 0) (IsWorstOf refusals n) →
    MatchOption found (refusals ≡ []) (IsWorst refusals)
worst_all refusals n None long none = no_elements refusals (let e : length refusals ≡ 0 = omega arith in e)
worst_all refusals n (Some found) long h = record {
  among = h.0;
  first = λ other among before.
      let low = among.1 in
      h.1 among.0 other (omega arith) (slice_get_read refusals (length refusals) among.0 other refl among.1 (sym among.2)) before;
}

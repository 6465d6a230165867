-- Stakes that are as much as one another: counted in finer pieces they still are, and put together.
use Rattle.std.proofs.Common.{◌≡◌, ℕ, zero, suc, ◌+◌, ◌-◌, ◌*◌, ◌^◌, ◌≤◌, List, [], ◌∷◌, ◌++◌, refl, sym, ◌∙◌, ap, subst, arith}
use Rattle.std.proofs.Math.Nat.{pow-suc}
use Rattle.slot_table.specs.Stakes.{AreUpTo, weight, IsAsMuch, IsWhole, halved, half_of}
use Rattle.slot_table.proofs.Staking.{up_to_more, up_to_parts, weight-append, finest, up_to_finest, halves_weigh, whole_piece}

-- a stake in pieces of half the size is twice as many
twice : (fine : ℕ) (stake : List ℕ) → AreUpTo fine stake → weight (fine + 1) stake ≡ weight fine stake + weight fine stake
twice fine [] up = refl
twice fine (piece ∷ stake) up =
    let le : piece ≤ fine = up.0
    in let one : fine + 1 - piece ≡ suc (fine - piece) = omega (arith, le)
    in let more : 2 ^ (fine + 1 - piece) ≡ 2 ^ (fine - piece) * 2 = ap (λ (k : ℕ). 2 ^ k) one ∙ pow-suc 2 (fine - piece)
    in let rest : weight (fine + 1) stake ≡ weight fine stake + weight fine stake = twice fine stake up.1
    in omega (arith, more, rest)

-- what is as much in finer pieces is as much
coarser : (fine more : ℕ) (stake other : List ℕ) → AreUpTo fine stake → AreUpTo fine other → weight (fine + more) stake ≡ weight (fine + more) other
    → weight fine stake ≡ weight fine other
coarser fine zero stake other up up' e = let same : fine + 0 ≡ fine = omega arith in subst (λ (k : ℕ). weight k stake ≡ weight k other) same e
coarser fine (suc more) stake other up up' e =
    let same : fine + suc more ≡ fine + 1 + more = omega arith
    in let finer : weight (fine + 1) stake ≡ weight (fine + 1) other =
    coarser (fine + 1) more stake other (up_to_more fine (fine + 1) stake (omega arith) up) (up_to_more fine (fine + 1) other (omega arith) up')
    (subst (λ (k : ℕ). weight k stake ≡ weight k other) same e)
    in let one : weight (fine + 1) stake ≡ weight fine stake + weight fine stake = twice fine stake up
    in let two : weight (fine + 1) other ≡ weight fine other + weight fine other = twice fine other up'
    in omega (arith, finer, one, two)

pub as_much_through : (stake middle other : List ℕ) → IsAsMuch stake middle → IsAsMuch middle other → IsAsMuch stake other
as_much_through stake middle other first next fine up up' =
    let finer : ℕ = fine + finest middle
    in let there : AreUpTo finer middle = up_to_more (finest middle) finer middle (omega arith) (up_to_finest middle)
    in coarser fine (finest middle) stake other up up'
    (first finer (up_to_more fine finer stake (omega arith) up) there ∙ next finer there (up_to_more fine finer other (omega arith) up'))

pub as_much_together : (stake other first next : List ℕ) → IsAsMuch stake first → IsAsMuch other next → IsAsMuch (stake ++ other) (first ++ next)
as_much_together stake other first next one two fine up up' =
    let parts : AreUpTo fine stake × AreUpTo fine other = up_to_parts fine stake other up
    in let parts' : AreUpTo fine first × AreUpTo fine next = up_to_parts fine first next up'
    in let sum : weight fine (stake ++ other) ≡ weight fine stake + weight fine other = weight-append fine stake other
    in let sum' : weight fine (first ++ next) ≡ weight fine first + weight fine next = weight-append fine first next
    in let one' : weight fine stake ≡ weight fine first = one fine parts.0 parts'.0
    in let two' : weight fine other ≡ weight fine next = two fine parts.1 parts'.1
    in omega (arith, sum, sum', one', two')

pub as_much_turned : (stake other : List ℕ) → IsAsMuch (stake ++ other) (other ++ stake)
as_much_turned stake other fine up up' =
    let sum : weight fine (stake ++ other) ≡ weight fine stake + weight fine other = weight-append fine stake other
    in let sum' : weight fine (other ++ stake) ≡ weight fine other + weight fine stake = weight-append fine other stake
    in omega (arith, sum, sum')

pub split_is_as_much : (stake : List ℕ) → IsAsMuch (halved stake ++ half_of stake) stake
split_is_as_much stake fine up up' = weight-append fine (halved stake) (half_of stake) ∙ halves_weigh fine stake (up_to_parts fine (halved stake) (half_of stake) up).0

pub the_first_is_whole : IsWhole (0 ∷ [])
the_first_is_whole fine up = whole_piece fine

pub as_much_as_whole : (stake whole : List ℕ) → IsAsMuch stake whole → IsWhole whole → IsWhole stake
as_much_as_whole stake whole same is fine up =
    let first : IsAsMuch whole (0 ∷ []) = λ finer up' up''. is finer up' ∙ sym (whole_piece finer)
    in let from : 0 ≤ fine = omega arith
    in as_much_through stake whole (0 ∷ []) same first fine up (from, tt) ∙ whole_piece fine

-- What stakes weigh, and what the stakes of all seats together weigh when one seat's view changes.
use Rattle.std.proofs.Common.{◌≡◌, ◌≢◌, ℕ, zero, suc, ◌+◌, ◌-◌, ◌*◌, ◌^◌, ◌<◌, ◌≤◌, ◌⊎◌, List, [], ◌∷◌, ◌++◌, slice_set, Some, None, refl, sym, ◌∙◌, ap, subst, inl, inr, arith}
use Rattle.std.proofs.Math.Nat.{pow-suc}
use Rattle.std.proofs.Math.Pow.{pow_pos}
use mathlib.Core.Option.{some, some-injective, some-ne-none}
use lib.ListN.{get_elem?}
use Rattle.slot_table.specs.declared.views.View.{View}
use Rattle.slot_table.specs.Places.{times}
use Rattle.slot_table.specs.Stakes.{AreUpTo, weight, halved, half_of}
use Rattle.slot_table.specs.Rule.{IsSpent, pieces_of, times_owned}

-- stakes alone

pub up_to_more : (fine finer : ℕ) (stake : List ℕ) → fine ≤ finer → AreUpTo fine stake → AreUpTo finer stake
up_to_more fine finer [] h up = tt
up_to_more fine finer (piece ∷ stake) h up = (let le : piece ≤ fine = up.0 in omega (arith, le, h), up_to_more fine finer stake h up.1)

pub up_to_parts : (fine : ℕ) (stake other : List ℕ) → AreUpTo fine (stake ++ other) → AreUpTo fine stake × AreUpTo fine other
up_to_parts fine [] other up = (tt, up)
up_to_parts fine (piece ∷ stake) other up = let rest : AreUpTo fine stake × AreUpTo fine other = up_to_parts fine stake other up.1 in ((up.0, rest.0), rest.1)

up_to_both : (fine : ℕ) (stake other : List ℕ) → AreUpTo fine stake → AreUpTo fine other → AreUpTo fine (stake ++ other)
up_to_both fine [] other one two = two
up_to_both fine (piece ∷ stake) other one two = (one.0, up_to_both fine stake other one.1 two)

pub weight-append : (fine : ℕ) (stake other : List ℕ) → weight fine (stake ++ other) ≡ weight fine stake + weight fine other
weight-append fine [] other = omega arith
weight-append fine (piece ∷ stake) other =
    let rest : weight fine (stake ++ other) ≡ weight fine stake + weight fine other = weight-append fine stake other in omega (arith, rest)

-- pieces that are fine enough for each piece of a stake
abbrev pub finest : List ℕ → ℕ
finest [] = 0
finest (piece ∷ stake) = piece + finest stake

pub up_to_finest : (stake : List ℕ) → AreUpTo (finest stake) stake
up_to_finest [] = tt
up_to_finest (piece ∷ stake) = (omega arith, up_to_more (finest stake) (piece + finest stake) stake (omega arith) (up_to_finest stake))

-- a stake that weighs nothing has no piece
weightless : (fine : ℕ) (stake : List ℕ) → weight fine stake ≡ 0 → stake ≡ []
weightless fine [] e = refl
weightless fine (piece ∷ stake) e = let weighs : 0 < 2 ^ (fine - piece) = pow_pos (fine - piece) in absurd (omega (arith, weighs, e))

-- the piece 0 is as many pieces as the whole
pub whole_piece : (fine : ℕ) → 2 ^ (fine - 0) + 0 ≡ 2 ^ fine
whole_piece fine = let e : fine - 0 ≡ fine = omega arith in let same : 2 ^ (fine - 0) ≡ 2 ^ fine = ap (λ (k : ℕ). 2 ^ k) e in omega (arith, same)

-- halves

half_weighs : (fine piece : ℕ) → piece + 1 ≤ fine → 2 ^ (fine - piece) ≡ 2 ^ (fine - (piece + 1)) + 2 ^ (fine - (piece + 1))
half_weighs fine piece h =
    let half : ℕ = fine - (piece + 1)
    in let one : fine - piece ≡ suc half = omega (arith, h)
    in let twice : 2 ^ suc half ≡ 2 ^ half * 2 = pow-suc 2 half
    in ap (λ (k : ℕ). 2 ^ k) one ∙ (omega (arith, twice))

pub halves_weigh : (fine : ℕ) (stake : List ℕ) → AreUpTo fine (halved stake) → weight fine (halved stake) + weight fine (half_of stake) ≡ weight fine stake
halves_weigh fine [] up = refl
halves_weigh fine (piece ∷ stake) up =
    let both : 2 ^ (fine - piece) ≡ 2 ^ (fine - (piece + 1)) + 2 ^ (fine - (piece + 1)) = half_weighs fine piece up.0 in omega (arith, both)

pub up_to_halved : (fine : ℕ) (stake : List ℕ) → AreUpTo fine (halved stake) → AreUpTo fine stake
up_to_halved fine [] up = tt
up_to_halved fine (piece ∷ stake) up = (let le : piece + 1 ≤ fine = up.0 in omega (arith, le), up.1)

pub halved_is_some : (stake : List ℕ) → stake ≢ [] → halved stake ≢ []
halved_is_some [] one none = one refl
halved_is_some (piece ∷ stake) one none = cc

pub half_is_some : (stake : List ℕ) → stake ≢ [] → half_of stake ≢ []
half_is_some [] one none = one refl
half_is_some (piece ∷ stake) one none = cc

pub joined_is_some : (stake other : List ℕ) → stake ≢ [] → (stake ++ other) ≢ []
joined_is_some [] other one none = absurd (one refl)
joined_is_some (piece ∷ stake) other one none = cc

-- a view of the table's order has a stake
pub has_stake : {O : Type 0} (view : View O) (key : O) → view.order ≡ Some key → (view.stake ≢ []) ⊎ IsSpent view → view.stake ≢ []
has_stake view key of (inl one) = one
has_stake view key of (inr gone) = let clash : None ≡ Some key = sym gone.order ∙ of in cc

-- all seats together

-- a view that changes and keeps its stake
pub pieces_same : {O : Type 0} (views : List (View O)) (id : ℕ) (view new : View O) → get_elem? views id ≡ some view → new.stake ≡ view.stake
    → pieces_of (slice_set views id new) ≡ pieces_of views
pieces_same [] id view new e same = absurd (some-ne-none view (sym e))
pieces_same {O = O} (v ∷ views) zero view new e same =
    ap (λ (s : List ℕ). s ++ pieces_of views) (same ∙ sym (ap (λ (u : View O). u.stake) (some-injective v view e)))
pieces_same (v ∷ views) (suc id) view new e same = ap (λ (s : List ℕ). v.stake ++ s) (pieces_same views id view new e same)

module _ {O : Type 0} (fine : ℕ) where
  pub weigh_set : (views : List (View O)) (id : ℕ) (view new : View O) → get_elem? views id ≡ some view
      → weight fine (pieces_of (slice_set views id new)) + weight fine view.stake ≡ weight fine (pieces_of views) + weight fine new.stake
  weigh_set [] id view new e = absurd (some-ne-none view (sym e))
  weigh_set (v ∷ views) zero view new e =
      let same : weight fine v.stake ≡ weight fine view.stake = ap (λ (u : View O). weight fine u.stake) (some-injective v view e)
      in let old : weight fine (v.stake ++ pieces_of views) ≡ weight fine v.stake + weight fine (pieces_of views) = weight-append fine v.stake (pieces_of views)
      in let now : weight fine (new.stake ++ pieces_of views) ≡ weight fine new.stake + weight fine (pieces_of views) = weight-append fine new.stake (pieces_of views)
      in omega (arith, same, old, now)
  weigh_set (v ∷ views) (suc id) view new e =
      let after : List (View O) = slice_set views id new
      in let rest : weight fine (pieces_of after) + weight fine view.stake ≡ weight fine (pieces_of views) + weight fine new.stake = weigh_set views id view new e
      in let old : weight fine (v.stake ++ pieces_of views) ≡ weight fine v.stake + weight fine (pieces_of views) = weight-append fine v.stake (pieces_of views)
      in let now : weight fine (v.stake ++ pieces_of after) ≡ weight fine v.stake + weight fine (pieces_of after) = weight-append fine v.stake (pieces_of after)
      in omega (arith, rest, old, now)

  pub weigh_snoc : (views : List (View O)) (new : View O) → weight fine (pieces_of (views ++ new ∷ [])) ≡ weight fine (pieces_of views) + weight fine new.stake
  weigh_snoc [] new = let all : weight fine (new.stake ++ []) ≡ weight fine new.stake + 0 = weight-append fine new.stake [] in omega (arith, all)
  weigh_snoc (v ∷ views) new =
      let rest : weight fine (pieces_of (views ++ new ∷ [])) ≡ weight fine (pieces_of views) + weight fine new.stake = weigh_snoc views new
      in let old : weight fine (v.stake ++ pieces_of views) ≡ weight fine v.stake + weight fine (pieces_of views) = weight-append fine v.stake (pieces_of views)
      in let now : weight fine (v.stake ++ pieces_of (views ++ new ∷ [])) ≡ weight fine v.stake + weight fine (pieces_of (views ++ new ∷ [])) = weight-append fine v.stake (pieces_of (views ++ new ∷ []))
      in omega (arith, rest, old, now)

  pub up_to_at : (views : List (View O)) (id : ℕ) (view : View O) → get_elem? views id ≡ some view → AreUpTo fine (pieces_of views) → AreUpTo fine view.stake
  up_to_at [] id view e up = absurd (some-ne-none view (sym e))
  up_to_at (v ∷ views) zero view e up = subst (λ (u : View O). AreUpTo fine u.stake) (some-injective v view e) (up_to_parts fine v.stake (pieces_of views) up).0
  up_to_at (v ∷ views) (suc id) view e up = up_to_at views id view e (up_to_parts fine v.stake (pieces_of views) up).1

  -- the pieces of all views before one of them changed, where those of its old view are known
  pub up_to_set : (views : List (View O)) (id : ℕ) (view new : View O) → get_elem? views id ≡ some view → AreUpTo fine view.stake
      → AreUpTo fine (pieces_of (slice_set views id new)) → AreUpTo fine (pieces_of views)
  up_to_set [] id view new e one up = absurd (some-ne-none view (sym e))
  up_to_set (v ∷ views) zero view new e one up =
      up_to_both fine v.stake (pieces_of views) (subst (λ (u : View O). AreUpTo fine u.stake) (sym (some-injective v view e)) one) (up_to_parts fine new.stake (pieces_of views) up).1
  up_to_set (v ∷ views) (suc id) view new e one up =
      let parts : AreUpTo fine v.stake × AreUpTo fine (pieces_of (slice_set views id new)) = up_to_parts fine v.stake (pieces_of (slice_set views id new)) up
      in up_to_both fine v.stake (pieces_of views) parts.0 (up_to_set views id view new e one parts.1)

  pub up_to_snoc : (views : List (View O)) (new : View O) → AreUpTo fine (pieces_of (views ++ new ∷ [])) → AreUpTo fine (pieces_of views)
  up_to_snoc [] new up = tt
  up_to_snoc (v ∷ views) new up =
      let parts : AreUpTo fine v.stake × AreUpTo fine (pieces_of (views ++ new ∷ [])) = up_to_parts fine v.stake (pieces_of (views ++ new ∷ [])) up
      in up_to_both fine v.stake (pieces_of views) parts.0 (up_to_snoc views new parts.1)

  -- who has the whole stake owns all that is owned

  abbrev AreStaked : List (View O) → Type 0
  AreStaked views = (seat : ℕ) (view : View O) → get_elem? views seat ≡ some view → (view.stake ≢ []) ⊎ IsSpent view

  weigh_one : (views : List (View O)) (id : ℕ) (view : View O) → get_elem? views id ≡ some view → weight fine view.stake ≤ weight fine (pieces_of views)
  weigh_one [] id view e = absurd (some-ne-none view (sym e))
  weigh_one (v ∷ views) zero view e =
      let same : weight fine v.stake ≡ weight fine view.stake = ap (λ (u : View O). weight fine u.stake) (some-injective v view e)
      in let both : weight fine (v.stake ++ pieces_of views) ≡ weight fine v.stake + weight fine (pieces_of views) = weight-append fine v.stake (pieces_of views)
      in omega (arith, same, both)
  weigh_one (v ∷ views) (suc id) view e =
      let rest : weight fine view.stake ≤ weight fine (pieces_of views) = weigh_one views id view e
      in let both : weight fine (v.stake ++ pieces_of views) ≡ weight fine v.stake + weight fine (pieces_of views) = weight-append fine v.stake (pieces_of views)
      in omega (arith, rest, both)

  -- a seat with no stake owns nothing
  owns_nothing : (k : ℕ) (view : View O) → (view.stake ≢ []) ⊎ IsSpent view → weight fine view.stake ≡ 0 → times k view.mine ≡ 0
  owns_nothing k view (inl one) e = absurd (one (weightless fine view.stake e))
  owns_nothing k view (inr gone) e = ap (λ (t : List ℕ). times k t) gone.mine

  none_own : (k : ℕ) (views : List (View O)) → AreStaked views → weight fine (pieces_of views) ≡ 0 → times_owned k views ≡ 0
  none_own k [] staked e = refl
  none_own k (v ∷ views) staked e =
      let both : weight fine (v.stake ++ pieces_of views) ≡ weight fine v.stake + weight fine (pieces_of views) = weight-append fine v.stake (pieces_of views)
      in let one : times k v.mine ≡ 0 = owns_nothing k v (staked zero v refl) (omega (arith, both, e))
      in let rest : times_owned k views ≡ 0 = none_own k views (λ seat view at. staked (suc seat) view at) (omega (arith, both, e))
      in omega (arith, one, rest)

  pub one_owns : (k : ℕ) (views : List (View O)) (id : ℕ) (view : View O) → AreStaked views → get_elem? views id ≡ some view
      → weight fine (pieces_of views) ≡ weight fine view.stake → times_owned k views ≡ times k view.mine
  one_owns k [] id view staked e all = absurd (some-ne-none view (sym e))
  one_owns k (v ∷ views) zero view staked e all =
      let same : v ≡ view = some-injective v view e
      in let both : weight fine (v.stake ++ pieces_of views) ≡ weight fine v.stake + weight fine (pieces_of views) = weight-append fine v.stake (pieces_of views)
      in let weighs : weight fine v.stake ≡ weight fine view.stake = ap (λ (u : View O). weight fine u.stake) same
      in let owns : times k v.mine ≡ times k view.mine = ap (λ (u : View O). times k u.mine) same
      in let rest : times_owned k views ≡ 0 = none_own k views (λ seat u at. staked (suc seat) u at) (omega (arith, both, weighs, all))
      in omega (arith, owns, rest)
  one_owns k (v ∷ views) (suc id) view staked e all =
      let both : weight fine (v.stake ++ pieces_of views) ≡ weight fine v.stake + weight fine (pieces_of views) = weight-append fine v.stake (pieces_of views)
      in let least : weight fine view.stake ≤ weight fine (pieces_of views) = weigh_one views id view e
      in let one : times k v.mine ≡ 0 = owns_nothing k v (staked zero v refl) (omega (arith, both, least, all))
      in let rest : times_owned k views ≡ times k view.mine = one_owns k views id view (λ seat u at. staked (suc seat) u at) e (omega (arith, both, least, all))
      in omega (arith, one, rest)

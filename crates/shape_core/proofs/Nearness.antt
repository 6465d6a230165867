-- Marks near the points that changed.
use Rattle.std.proofs.Common.{◌≡◌, ℕ, ◌+◌, true, ltb, ◌&&◌, List, [], ◌∷◌, inl, inr, ⊎_elim, arith}
use Rattle.std.specs.List.{Contains}
use Rattle.std.proofs.lemmas.Bool.{and_parts, ltb-true}
use Rattle.std.proofs.lemmas.List.Elements.{Contains-push}
use Rattle.go_board.specs.declared.points.Point.{Point}
use Rattle.shape_core.specs.Field.{IsMarked, AreWithin, IsNear, MarksNear}
use Rattle.shape_core.specs.Inner.Table.{Sees, is_away_within}

-- a point whose cell is at another is within reach of it
pub within_reach : (reach : ℕ) (p q : Point) (away : ℕ × ℕ) → Sees q away p → is_away_within reach away ≡ true → AreWithin reach p q
within_reach reach p q away sees within =
    let parts = and_parts (ltb 2 (away.0 + reach) && ltb away.0 (4 + reach)) (ltb 2 (away.1 + reach) && ltb away.1 (4 + reach)) within in
    let columns = and_parts (ltb 2 (away.0 + reach)) (ltb away.0 (4 + reach)) parts.0 in
    let rows = and_parts (ltb 2 (away.1 + reach)) (ltb away.1 (4 + reach)) parts.1 in
    let left = ltb-true 2 (away.0 + reach) columns.0 in
    let right = ltb-true away.0 (4 + reach) columns.1 in
    let up = ltb-true 2 (away.1 + reach) rows.0 in
    let down = ltb-true away.1 (4 + reach) rows.1 in
    ((omega (arith, sees.0, left)), (omega (arith, sees.0, right)), (omega (arith, sees.1, up)), (omega (arith, sees.1, down)))

-- more points have more within reach
pub IsNear-more : (reach : ℕ) (some all : List Point) (q : Point) → ((p : Point) → Contains some p → Contains all p) → IsNear reach some q → IsNear reach all q
IsNear-more reach some all q more near = (near.0, more near.0 near.1, near.2)

-- marks, and then more of them, near points that are all among others
pub MarksNear-twice : (reach : ℕ) (some others all : List Point) (before between after : List ℕ) →
    ((p : Point) → Contains some p → Contains all p) → ((p : Point) → Contains others p → Contains all p) →
    MarksNear reach some before between → MarksNear reach others between after → MarksNear reach all before after
MarksNear-twice reach some others all before between after first second marks later q is =
    ⊎_elim
    (λ (was : IsMarked between q). ⊎_elim
    (λ (old : IsMarked before q). inl old)
    (λ (near : IsNear reach some q). inr (IsNear-more reach some all q first near))
    (marks q was))
    (λ (near : IsNear reach others q). inr (IsNear-more reach others all q second near))
    (later q is)

-- marks near one point, of a set of points that it is among
pub near_one : (reach : ℕ) (p q : Point) → AreWithin reach p q → IsNear reach (p ∷ []) q
near_one reach p q within = (p, Contains-push [] p, within)

-- The places of points in a list of a board's points, what a position shows there, and how many points a list without
-- repeats can have.
use Rattle.std.proofs.Common.{◌≡◌, ◌≢◌, ◌<◌, ◌≤◌, ◌*◌, ◌∙◌, ℕ, suc, true, eqb, List, [], ◌∷◌, map, length, get_or, ap, subst, sym, inl, inr, refl, arith, All}
use Rattle.std.specs.List.{AllPairs, list_any}
use Rattle.std.proofs.lemmas.Nat.{mul-add-lt, same_from_place}
use Rattle.std.proofs.lemmas.List.{length-map}
use Rattle.std.proofs.lemmas.List.Elements.{All-map, All-head, All-tail}
use Rattle.std.proofs.lemmas.List.Kept.{AllPairs-cons}
use Rattle.std.proofs.lemmas.Map.Made.{IsDistinct-from_AllPairs}
use Rattle.std.proofs.lemmas.Map.Steps.{length-le_from_distinct_below}
use Rattle.std.proofs.lemmas.Bool.{lt-ltb}
use Rattle.std.proofs.lemmas.Bool.Decides.{Decides-eqb, eqb_tells}
use Rattle.go_board.specs.declared.points.Point.{Point}
use Rattle.go_board.specs.Extent.{Extent}
use Rattle.go_board.specs.declared.points.Stone.{Stone}
use Rattle.go_board.specs.declared.points.Stone.TheVariants as stone
use Rattle.go_board.specs.Point.{IsOn, index_of}
use Rattle.go_board.specs.Position.{position_in}

pub index_below : (size : Extent) (p : Point) → IsOn size p → index_of size p < size.columns * size.rows
index_below size p on = mul-add-lt p.row size.columns p.column size.rows on.1 on.0

pub same_index : (size : Extent) (p q : Point) → IsOn size p → IsOn size q → index_of size p ≡ index_of size q → p ≡ q
same_index size p q a b e =
    let h = same_from_place p.row p.column q.row q.column size.columns a.0 b.0 e in
    ap (λ c. record { column = c; row = p.row }) h.1 ∙ ap (λ r. record { column = q.column; row = r }) h.0

-- on the board a position shows the stone at the point's place
pub shown_on : (size : Extent) (stones : List Stone) (p : Point) → IsOn size p →
    position_in size stones p ≡ get_or stones (index_of size p) stone.Empty
shown_on size stones p on = rw (lt-ltb p.column size.columns on.0, lt-ltb p.row size.rows on.1) refl

pairs_head : {X : Type 0} (R : X → X → Type 0) (x : X) (xs : List X) → AllPairs R (x ∷ xs) → All (R x) xs
pairs_head R x xs h = λ k d in'. h 0 (suc k) d (omega arith) (omega arith)

pairs_tail : {X : Type 0} (R : X → X → Type 0) (x : X) (xs : List X) → AllPairs R (x ∷ xs) → AllPairs R xs
pairs_tail R x xs h = λ i j d lt in'. h (suc i) (suc j) d (omega arith) (omega arith)

apart : (size : Extent) (xs : List Point) → All (IsOn size) xs → AllPairs (λ p q. p ≢ q) xs →
    AllPairs (λ a b. a ≢ b) (map (index_of size) xs)
apart size [] on once = λ i j d lt in'. absurd (omega arith)
apart size (x ∷ xs) on once =
    AllPairs-cons (λ a b. a ≢ b) (index_of size x) (map (index_of size) xs)
    (All-map (λ b. index_of size x ≢ b) (index_of size) xs
    (λ k d in' e. pairs_head (λ p q. p ≢ q) x xs once k d in'
    (same_index size x (get_or xs k d) (All-head (IsOn size) x xs on) (All-tail (IsOn size) x xs on k d in') e)))
    (apart size xs (All-tail (IsOn size) x xs on) (pairs_tail (λ p q. p ≢ q) x xs once))

found : (P : ℕ → Type 0) (q : ℕ) (xs : List ℕ) → list_any (eqb q) xs ≡ true → All P xs → P q
found P q [] e h = absurd (cc)
found P q (x ∷ xs) e h = elim (eqb_tells q x) [
  | inl t ↦ subst P (sym t.1) (All-head P x xs h)
  | inr f ↦ found P q xs (rw f.0 at e) (All-tail P x xs h)
]

-- no more points than the board has
pub few_points : (size : Extent) (xs : List Point) → All (IsOn size) xs → AllPairs (λ p q. p ≢ q) xs →
    length xs ≤ size.columns * size.rows
few_points size xs on once =
    let below : All (λ a. a < size.columns * size.rows) (map (index_of size) xs) =
    All-map (λ a. a < size.columns * size.rows) (index_of size) xs (λ k d in'. index_below size (get_or xs k d) (on k d in')) in
    let few : length (map (index_of size) xs) ≤ size.columns * size.rows =
    length-le_from_distinct_below (map (index_of size) xs) (size.columns * size.rows)
    (IsDistinct-from_AllPairs Decides-eqb (map (index_of size) xs) (apart size xs on once))
    (λ q e. found (λ a. a < size.columns * size.rows) q (map (index_of size) xs) e below) in
    rw length-map at few

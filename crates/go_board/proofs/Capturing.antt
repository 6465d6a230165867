-- A move captures at one neighbour after another.
use Rattle.std.proofs.Common.{◌≡◌, ◌≢◌, ◌∙◌, ◌⊎◌, ◌+◌, ◌<◌, ◌≤◌, ℕ, List, [], ◌∷◌, ◌++◌, Option, Some, None, IfSome, length, take, get_or, subst, sym, ap, inl, inr, All, Contains}
use Rattle.std.proofs.lemmas.List.{take_all, take_more}
use Rattle.std.proofs.lemmas.List.Elements.{All-contains, Contains-append_left, Contains-push, Contains-push_cases}
use Rattle.go_board.specs.declared.points.Point.{Point}
use Rattle.go_board.specs.declared.points.Colour.{Colour}
use Rattle.go_board.specs.declared.points.Colour.TheVariants as colour
use Rattle.go_board.specs.declared.points.Stone.{Stone}
use Rattle.go_board.specs.declared.points.Stone.TheVariants as stone
use Rattle.go_board.specs.Extent.{Extent}
use Rattle.go_board.specs.Point.{IsOn, AreNeighbours}
use Rattle.go_board.specs.Position.{Position, AreJoined, IsAlive}
use Rattle.go_board.specs.Play.{Removes, IsCaptured, stone_of, other}
use Rattle.go_board.specs.Inner.Groups.{IsDead}
use Rattle.go_board.proofs.Captures.{IsTaken, Removes-same, Removes-more, taken_more}

-- such a group was removed, so its points are those of the list
pub Removes-dead : (size : Extent) (before now : Position) (kind : Stone) (p : Point) (group : List Point) →
    ((q : Point) → (Contains group q → IsDead size before kind p q) × (IsDead size before kind p q → Contains group q)) →
    Removes size (Contains group) before now → Removes size (IsDead size before kind p) before now
Removes-dead size before now kind p group same r =
    Removes-same size (Contains group) (IsDead size before kind p) before now (λ q on. (same q).0) (λ q on. (same q).1) r

-- a group that was found to have no liberty
pub group_dead : (size : Extent) (position : Position) (kind : Stone) (p : Point) (group : List Point) → position p ≡ kind →
    (IsAlive size position p → ⊥) →
    ((q : Point) → (Contains group q → AreJoined size position p q) × (AreJoined size position p q → Contains group q)) →
    (q : Point) → (Contains group q → IsDead size position kind p q) × (IsDead size position kind p q → Contains group q)
group_dead size position kind p group same dead joined q = (
  (λ c. record { of_kind = same; joined = (joined q).0 c; dead = dead }),
  (λ d. (joined q).1 d.joined),
)

-- one of the listed neighbours
abbrev pub Among : List (Option Point) → Point → Type 0
Among around q = Contains around (Some q)

-- what was captured at the listed neighbours
pub record Capturing (size : Extent) (before : Position) (kind : Stone) (around : List (Option Point)) (now : Position) (listed : List Point) : Type 0 where
  pub gone : Removes size (IsTaken size before kind (Among around)) before now
  pub in_list : (q : Point) → (Contains listed q → IsTaken size before kind (Among around) q) × (IsTaken size before kind (Among around) q → Contains listed q)

pub stone_solid : (c : Colour) → stone_of c ≢ stone.Empty
stone_solid colour.Black = λ e. cc
stone_solid colour.White = λ e. cc

some_injective : (p q : Point) → Some p ≡ Some q → p ≡ q
some_injective p q e = cc

module _ (size : Extent) (before : Position) (kind : Stone) where
  Capturing-push : (around : List (Option Point)) (now after : Position) (listed more : List Point) (p : Point) → kind ≢ stone.Empty → IsOn size p →
      Removes size (IsDead size now kind p) now after →
      ((q : Point) → (Contains more q → Contains listed q ⊎ IsDead size now kind p q) × (Contains listed q ⊎ IsDead size now kind p q → Contains more q)) →
      Capturing size before kind around now listed →
      Capturing size before kind (around ++ Some p ∷ []) after more
  Capturing-push around now after listed more p solid on r added c =
      let wider = around ++ Some p ∷ [] in
      let keeps : (q : Point) → Among around q → Among wider q = λ q h. Contains-append_left around (Some p ∷ []) (Some q) h in
      let has : Among wider p = Contains-push around (Some p) in
      let cases : (q : Point) → Among wider q → Among around q ⊎ (p ≡ q) = λ q h. elim (Contains-push_cases around (Some p) (Some q) h) [
        | inl old ↦ inl old
        | inr same ↦ inr (some_injective p q same)
      ] in
      record {
        gone = Removes-more size before kind (Among around) (Among wider) now solid c.gone p on keeps has cases after r;
        in_list = taken_more size before kind (Among around) (Among wider) now solid c.gone p on keeps has cases (Contains listed) (Contains more) c.in_list added;
      }

  Capturing-none : (around : List (Option Point)) (now : Position) (listed : List Point) →
      Capturing size before kind around now listed → Capturing size before kind (around ++ None ∷ []) now listed
  Capturing-none around now listed c =
      let wider = around ++ None ∷ [] in
      let to : (q : Point) → IsTaken size before kind (Among around) q → IsTaken size before kind (Among wider) q = λ q t. record {
        by = t.by;
        on_board = t.on_board;
        is_among = Contains-append_left around (None ∷ []) (Some t.by) t.is_among;
        dead = t.dead;
      } in
      let from : (q : Point) → IsTaken size before kind (Among wider) q → IsTaken size before kind (Among around) q = λ q t. record {
        by = t.by;
        on_board = t.on_board;
        is_among = elim (Contains-push_cases around None (Some t.by) t.is_among) [ inl old ↦ old | inr same ↦ absurd (cc) ];
        dead = t.dead;
      } in
      record {
        gone = Removes-same size (IsTaken size before kind (Among around)) (IsTaken size before kind (Among wider)) before now (λ q on. to q) (λ q on. from q) c.gone;
        in_list = λ q. ((λ l. to q ((c.in_list q).0 l)), (λ t. (c.in_list q).1 (from q t)));
      }

  pub Capturing-more : (around : List (Option Point)) (i : ℕ) (now after : Position) (listed more : List Point) (p : Point) → kind ≢ stone.Empty → IsOn size p →
      i < length around → get_or around i None ≡ Some p →
      Removes size (IsDead size now kind p) now after →
      ((q : Point) → (Contains more q → Contains listed q ⊎ IsDead size now kind p q) × (Contains listed q ⊎ IsDead size now kind p q → Contains more q)) →
      Capturing size before kind (take i around) now listed →
      Capturing size before kind (take (i + 1) around) after more
  Capturing-more around i now after listed more p solid on in' at r added c =
      subst (λ (l : List (Option Point)). Capturing size before kind l after more)
      (sym (take_more around i None in' ∙ ap (λ (x : Option Point). take i around ++ x ∷ []) at))
      (Capturing-push (take i around) now after listed more p solid on r added c)

  pub Capturing-skip : (around : List (Option Point)) (i : ℕ) (now : Position) (listed : List Point) → i < length around → get_or around i None ≡ None →
      Capturing size before kind (take i around) now listed → Capturing size before kind (take (i + 1) around) now listed
  Capturing-skip around i now listed in' at c =
      subst (λ (l : List (Option Point)). Capturing size before kind l now listed)
      (sym (take_more around i None in' ∙ ap (λ (x : Option Point). take i around ++ x ∷ []) at))
      (Capturing-none (take i around) now listed c)

-- what was captured at all neighbours is what the move captures
module _ (size : Extent) (before : Position) (mover : Colour) (at : Point) (around : List (Option Point))
    (only : All (λ next. IfSome next (λ q. IsOn size q × AreNeighbours at q)) around)
    (each : (q : Point) → IsOn size q → AreNeighbours at q → Contains around (Some q)) where
  captured : (q : Point) → IsTaken size before (stone_of (other mover)) (Among around) q → IsCaptured size before mover at q
  captured q t = record {
    neighbour = t.by;
    on_board = t.on_board;
    next_to = (All-contains (λ next. IfSome next (λ q. IsOn size q × AreNeighbours at q)) around (Some t.by) only t.is_among).1;
    of_other = t.dead.of_kind;
    joined = t.dead.joined;
    dead = t.dead.dead;
  }

  taken : (q : Point) → IsCaptured size before mover at q → IsTaken size before (stone_of (other mover)) (Among around) q
  taken q c = record {
    by = c.neighbour;
    on_board = c.on_board;
    is_among = each c.neighbour c.on_board c.next_to;
    dead = record { of_kind = c.of_other; joined = c.joined; dead = c.dead };
  }

  module _ (kind : Stone) (is : kind ≡ stone_of (other mover)) (i : ℕ) (past : length around ≤ i) (now : Position) (listed : List Point)
      (c : Capturing size before kind (take i around) now listed) where
    whole : Capturing size before (stone_of (other mover)) around now listed
    whole = subst (λ (s : Stone). Capturing size before s around now listed) is
        (subst (λ (l : List (Option Point)). Capturing size before kind l now listed) (take_all i around past) c)

    pub Capturing-gone : Removes size (IsCaptured size before mover at) before now
    Capturing-gone = Removes-same size (IsTaken size before (stone_of (other mover)) (Among around)) (IsCaptured size before mover at) before now
        (λ q on. captured q) (λ q on. taken q) whole.gone

    pub Capturing-listed : (q : Point) → (Contains listed q → IsCaptured size before mover at q) × (IsCaptured size before mover at q → Contains listed q)
    Capturing-listed q = ((λ l. captured q ((whole.in_list q).0 l)), (λ t. (whole.in_list q).1 (taken q t)))

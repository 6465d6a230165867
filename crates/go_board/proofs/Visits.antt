-- One visit of a point: the neighbours that were looked at so far.
use Rattle.std.proofs.Common.{◌≡◌, ◌≢◌, ◌∙◌, ◌⊎◌, ◌+◌, ◌<◌, ◌≤◌, ℕ, List, [], ◌∷◌, ◌++◌, Option, Some, None, IfSome, length, take, get_or, subst, sym, ap, inl, inr, All, Contains, append_assoc, append-nil}
use Rattle.std.proofs.lemmas.List.{take_all}
use Rattle.std.proofs.lemmas.List.Elements.{All-nil, All-push, All-more, All-weaker, All-contains, Contains-append_left, Contains-push}
use Rattle.go_board.specs.declared.points.Point.{Point}
use Rattle.go_board.specs.declared.points.Stone.{Stone}
use Rattle.go_board.specs.declared.points.Stone.TheVariants as stone
use Rattle.go_board.specs.Extent.{Extent}
use Rattle.go_board.specs.Point.{IsOn, AreNeighbours}
use Rattle.go_board.specs.Position.{Position}
use Rattle.go_board.specs.Inner.Groups.{Gathers, IsSuchNeighbour, IsSurrounded}

-- this neighbour is not empty, and is in the list if such a stone stands there
pub record IsSeen (position : Position) (kind : Stone) (points : List Point) (q : Point) : Type 0 where
  pub full : position q ≢ stone.Empty
  pub listed : position q ≡ kind → Contains points q

abbrev pub Seen : Position → Stone → List Point → Option Point → Type 0
Seen position kind points next = IfSome next (IsSeen position kind points)

-- after i neighbours
pub record Visiting (size : Extent) (position : Position) (kind : Stone) (p : Point) (around : List (Option Point)) (i : ℕ)
    (before after : List Point) : Type 0 where
  pub gathers : Gathers size position kind p before after
  pub seen : All (Seen position kind after) (take i around)

module _ (size : Extent) (position : Position) (kind : Stone) (p : Point) (around : List (Option Point)) where
  pub Visiting-start : (points : List Point) → Visiting size position kind p around 0 points points
  Visiting-start points = record {
    gathers = record { more = []; appended = sym (append-nil points); only = All-nil (IsSuchNeighbour size position kind p) };
    seen = All-nil (Seen position kind points);
  }

  Visiting-kept : (i : ℕ) (next : Option Point) (before after : List Point) → i < length around →
      get_or around i None ≡ next → Seen position kind after next → Visiting size position kind p around i before after →
      Visiting size position kind p around (i + 1) before after
  Visiting-kept i next before after in' is seen v = record {
    gathers = v.gathers;
    seen = All-more (Seen position kind after) around i None in' v.seen (subst (Seen position kind after) (sym is) seen);
  }

  pub Visiting-none : (i : ℕ) (before after : List Point) → i < length around →
      get_or around i None ≡ None → Visiting size position kind p around i before after →
      Visiting size position kind p around (i + 1) before after
  Visiting-none i before after in' is v = Visiting-kept i None before after in' is tt v

  pub Visiting-other : (i : ℕ) (q : Point) (before after : List Point) → i < length around →
      get_or around i None ≡ Some q → position q ≢ stone.Empty → position q ≢ kind → Visiting size position kind p around i before after →
      Visiting size position kind p around (i + 1) before after
  Visiting-other i q before after in' is full other v =
      Visiting-kept i (Some q) before after in' is (record { full = full; listed = λ same. absurd (other same) }) v

  Seen-grows : (points : List Point) (q : Point) (next : Option Point) → Seen position kind points next → Seen position kind (points ++ q ∷ []) next
  Seen-grows points q None s = tt
  Seen-grows points q (Some x) s = record { full = s.full; listed = λ same. Contains-append_left points (q ∷ []) x (s.listed same) }

  Visiting-push : (i : ℕ) (q : Point) (before after : List Point) → IsSuchNeighbour size position kind p q →
      Visiting size position kind p around i before after → Visiting size position kind p around i before (after ++ q ∷ [])
  Visiting-push i q before after such v = record {
    gathers = record {
      more = v.gathers.more ++ q ∷ [];
      appended = ap (λ (points : List Point). points ++ q ∷ []) v.gathers.appended ∙ append_assoc before v.gathers.more (q ∷ []);
      only = All-push (IsSuchNeighbour size position kind p) v.gathers.more q v.gathers.only such;
    };
    seen = All-weaker (Seen position kind after) (Seen position kind (after ++ q ∷ [])) (Seen-grows after q) (take i around) v.seen;
  }

  pub Visiting-add : (i : ℕ) (q : Point) (before after now : List Point) → i < length around →
      get_or around i None ≡ Some q → IsSuchNeighbour size position kind p q → position q ≢ stone.Empty →
      ((now ≡ after) × Contains after q) ⊎ (now ≡ after ++ q ∷ []) →
      Visiting size position kind p around i before after →
      Visiting size position kind p around (i + 1) before now
  Visiting-add i q before after now in' is such full added v = elim added [
    | inl h ↦ subst (Visiting size position kind p around (i + 1) before) (sym h.0)
        (Visiting-kept i (Some q) before after in' is (record { full = full; listed = λ same. h.1 }) v)
    | inr h ↦ subst (Visiting size position kind p around (i + 1) before) (sym h)
        (Visiting-kept i (Some q) before (after ++ q ∷ []) in' is
        (record { full = full; listed = λ same. Contains-push after q })
        (Visiting-push i q before after such v))
  ]

  pub Visiting-end : (i : ℕ) (before after : List Point) → length around ≤ i →
      ((q : Point) → IsOn size q → AreNeighbours p q → Contains around (Some q)) →
      Visiting size position kind p around i before after → IsSurrounded size position kind after p
  Visiting-end i before after past each v =
      let all : All (Seen position kind after) around = subst (All (Seen position kind after)) (take_all i around past) v.seen in
      let seen = λ (q : Point) (on : IsOn size q) (next : AreNeighbours p q).
      All-contains (Seen position kind after) around (Some q) all (each q on next) in
      record {
        full = λ q on next. (seen q on next).full;
        listed = λ q such. (seen q such.on_board such.next_to).listed such.of_kind;
      }

-- the neighbour at a place
pub neighbour_at : (size : Extent) (p : Point) (around : List (Option Point)) (i : ℕ) (q : Point) → i < length around →
    All (λ next. IfSome next (λ x. IsOn size x × AreNeighbours p x)) around → get_or around i None ≡ Some q →
    IsOn size q × AreNeighbours p q
neighbour_at size p around i q in' only is =
    subst (λ next. IfSome next (λ x. IsOn size x × AreNeighbours p x)) is (only i None in')

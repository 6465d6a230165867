-- A move: what is captured, then the mover's own group, and the points that it emptied.
use Rattle.std.proofs.Common.{◌≡◌, ◌≢◌, ◌∙◌, ◌⊎◌, ◌+◌, ◌-◌, ◌<◌, Bool, true, false, ℕ, List, [], ◌∷◌, length, get_or, sym, ap, inl, inr, refl, arith, All, Contains, count_by, cond}
use Rattle.std.proofs.lemmas.List.Recursion.{is_count_by}
use Rattle.std.proofs.lemmas.List.Elements.{All-head, All-tail, Contains-get_or}
use Rattle.go_board.specs.declared.points.Point.{Point}
use Rattle.go_board.specs.declared.points.Colour.{Colour}
use Rattle.go_board.specs.declared.points.Colour.TheVariants as colour
use Rattle.go_board.specs.declared.points.Stone.{Stone}
use Rattle.go_board.specs.declared.points.Stone.TheVariants as stone
use Rattle.go_board.specs.Extent.{Extent}
use Rattle.go_board.specs.Gathered.{IsGathered}
use Rattle.go_board.specs.Point.{IsOn}
use Rattle.go_board.specs.Position.{Position, placed, IsAlive, AreSame}
use Rattle.go_board.specs.Play.{Removes, IsCaptured, IsSuicide, Plays, IsRemoved, ListsOnce, stone_of, other, same_stone, count_of}
use Rattle.go_board.specs.Inner.Groups.{IsDead}
use Rattle.go_board.proofs.Paths.{AreJoined-refl, joined_on, joined_same}
use Rattle.go_board.proofs.Captures.{Removes-same}
use Rattle.go_board.proofs.Capturing.{stone_solid}
use Rattle.go_board.proofs.Agreement.{placed_cases, Removes-captured}

other_differs : (c : Colour) → stone_of c ≢ stone_of (other c)
other_differs colour.Black = λ e. cc
other_differs colour.White = λ e. cc

placed_here : (position : Position) (p : Point) (kind : Stone) → placed position p kind p ≡ kind
placed_here position p kind = elim (placed_cases position p kind p) [ inl h ↦ h.1 | inr h ↦ absurd (h.0 refl) ]

same_stone-refl : (kind : Stone) → same_stone kind kind ≡ true
same_stone-refl stone.Empty = refl
same_stone-refl stone.Black = refl
same_stone-refl stone.White = refl

same_stone-other : (a b : Stone) → a ≢ b → same_stone a b ≡ false
same_stone-other stone.Empty stone.Empty ne = absurd (ne refl)
same_stone-other stone.Empty stone.Black ne = refl
same_stone-other stone.Empty stone.White ne = refl
same_stone-other stone.Black stone.Empty ne = refl
same_stone-other stone.Black stone.Black ne = absurd (ne refl)
same_stone-other stone.Black stone.White ne = refl
same_stone-other stone.White stone.Empty ne = refl
same_stone-other stone.White stone.Black ne = refl
same_stone-other stone.White stone.White ne = absurd (ne refl)

abbrev Stand : Position → Stone → Point → Type 0
Stand position kind q = position q ≡ kind

abbrev tally : (Point → Bool) → List Point → ℕ
tally p [] = 0
tally p (q ∷ points) = cond (p q) (1 + tally p points) (tally p points)

count_cons : (p : Point → Bool) (q : Point) (points : List Point) →
    count_by p (q ∷ points) ≡ cond (p q) (1 + count_by p points) (count_by p points)
count_cons p q points =
    let counted = is_count_by (tally p) p refl (λ x xs. refl) in
    sym (counted (q ∷ points)) ∙ ap (λ n. cond (p q) (1 + n) n) (counted points)

count_all : (position : Position) (kind : Stone) (points : List Point) → All (Stand position kind) points →
    count_of position kind points ≡ length points
count_all position kind [] all = refl
count_all position kind (q ∷ points) all =
    let here : position q ≡ kind = All-head (Stand position kind) q points all in
    let rest = count_all position kind points (All-tail (Stand position kind) q points all) in
    let test : same_stone (position q) kind ≡ true = ap (λ s. same_stone s kind) here ∙ same_stone-refl kind in
    count_cons (λ p. same_stone (position p) kind) q points ∙ rw test (omega (arith, rest))

count_none : (position : Position) (kind counted : Stone) (points : List Point) → kind ≢ counted → All (Stand position kind) points →
    count_of position counted points ≡ 0
count_none position kind counted [] ne all = refl
count_none position kind counted (q ∷ points) ne all =
    let here : position q ≡ kind = All-head (Stand position kind) q points all in
    let rest = count_none position kind counted points ne (All-tail (Stand position kind) q points all) in
    let test : same_stone (position q) counted ≡ false = ap (λ s. same_stone s counted) here ∙ same_stone-other kind counted ne in
    count_cons (λ p. same_stone (position p) counted) q points ∙ rw test rest

-- the steps of a move: `start` with the stone placed, `cleared` without the captured, `after` without a group lost
pub record Steps (size : Extent) (before : Position) (mover : Colour) (at : Point) (start cleared after : Position) (taken listed : List Point) : Type 0 where
  pub on_board : IsOn size at
  pub start_is : AreSame size start (placed before at (stone_of mover))
  pub captures : Removes size (IsCaptured size start mover at) start cleared
  pub captured : (q : Point) → (Contains taken q → IsCaptured size start mover at q) × (IsCaptured size start mover at q → Contains taken q)
  pub suicide : Removes size (IsDead size cleared (stone_of mover) at) cleared after
  pub in_list : (q : Point) → (Contains listed q → Contains taken q ⊎ IsDead size cleared (stone_of mover) at q) × (Contains taken q ⊎ IsDead size cleared (stone_of mover) at q → Contains listed q)
  pub one : ((length taken ≢ 0) × (listed ≡ taken)) ⊎ (length taken ≡ 0)

-- a move that captures has a liberty
pub captor_lives : (size : Extent) (mover : Colour) (at : Point) (start cleared : Position) (taken : List Point) →
    Removes size (IsCaptured size start mover at) start cleared →
    ((q : Point) → (Contains taken q → IsCaptured size start mover at q) × (IsCaptured size start mover at q → Contains taken q)) →
    length taken ≢ 0 → IsAlive size cleared at
captor_lives size mover at start cleared taken captures captured some =
    let some' : 0 < length taken = omega arith in
    let c = (captured (get_or taken 0 at)).0 (Contains-get_or taken 0 at some') in
    let itself : IsCaptured size start mover at c.neighbour = record {
      neighbour = c.neighbour;
      on_board = c.on_board;
      next_to = c.next_to;
      of_other = c.of_other;
      joined = AreJoined-refl size start c.neighbour;
      dead = c.dead;
    } in
    record {
      member = at;
      liberty = c.neighbour;
      joined = AreJoined-refl size cleared at;
      neighbours = c.next_to;
      on_board = c.on_board;
      empty = elim (captures c.neighbour c.on_board) [ inl h ↦ h.1 | inr h ↦ absurd (h.0 itself) ];
    }

-- the two ways a move goes on after its captures
module _ (size : Extent) (before : Position) (mover : Colour) (at : Point) (start cleared : Position) (taken : List Point)
    (on_board : IsOn size at) (start_is : AreSame size start (placed before at (stone_of mover)))
    (captures : Removes size (IsCaptured size start mover at) start cleared)
    (captured : (q : Point) → (Contains taken q → IsCaptured size start mover at q) × (IsCaptured size start mover at q → Contains taken q)) where
  pub Steps-capture : length taken ≢ 0 → Steps size before mover at start cleared cleared taken taken
  Steps-capture some =
      let alive = captor_lives size mover at start cleared taken captures captured some in
      record {
        on_board = on_board;
        start_is = start_is;
        captures = captures;
        captured = captured;
        suicide = λ q on. inr ((λ d. d.dead alive), refl);
        in_list = λ q. ((λ c. inl c), (λ s. elim s as (λ _. Contains taken q) [ inl c ↦ c | inr d ↦ absurd (d.dead alive) ]));
        one = inl (some, refl);
      }

  pub Steps-quiet : (after : Position) (listed : List Point) → length taken ≡ 0 →
      Removes size (IsDead size cleared (stone_of mover) at) cleared after →
      ((q : Point) → (Contains listed q → Contains taken q ⊎ IsDead size cleared (stone_of mover) at q) × (Contains taken q ⊎ IsDead size cleared (stone_of mover) at q → Contains listed q)) →
      Steps size before mover at start cleared after taken listed
  Steps-quiet after listed none suicide in_list = record {
    on_board = on_board;
    start_is = start_is;
    captures = captures;
    captured = captured;
    suicide = suicide;
    in_list = in_list;
    one = inr none;
  }

module _ (size : Extent) (before : Position) (mover : Colour) (at : Point) (start cleared after : Position) (taken listed : List Point)
    (s : Steps size before mover at start cleared after taken listed) where
  captured_on : (q : Point) → IsCaptured size start mover at q → IsOn size q
  captured_on q c = joined_on size start c.neighbour q c.on_board c.joined

  captured_stood : (q : Point) → IsCaptured size start mover at q → placed before at (stone_of mover) q ≡ stone_of (other mover)
  captured_stood q c = sym (s.start_is q (captured_on q c)) ∙ joined_same size start c.neighbour q c.joined ∙ c.of_other

  stands : cleared at ≡ stone_of mover
  stands = elim (s.captures at s.on_board) [
    | inl h ↦ absurd (other_differs mover (sym (placed_here before at (stone_of mover)) ∙ captured_stood at h.0))
    | inr h ↦ h.1 ∙ s.start_is at s.on_board ∙ placed_here before at (stone_of mover)
  ]

  pub Steps-plays : Plays size before mover at after
  Steps-plays = record {
    cleared = cleared;
    captures = Removes-captured size start (placed before at (stone_of mover)) cleared mover at s.start_is s.captures;
    suicide = Removes-same size (IsDead size cleared (stone_of mover) at) (IsSuicide size cleared at) cleared after
        (λ q on d. (d.joined, d.dead))
        (λ q on d. record { of_kind = stands; joined = d.0; dead = d.1 }) s.suicide;
  }

  captured_gone : (q : Point) → IsCaptured size start mover at q → after q ≡ stone.Empty
  captured_gone q c =
      let on = captured_on q c in
      let emptied : cleared q ≡ stone.Empty = elim (s.captures q on) [ inl h ↦ h.1 | inr h ↦ absurd (h.0 c) ] in
      elim (s.suicide q on) [ inl h ↦ h.1 | inr h ↦ h.1 ∙ emptied ]

  dead_on : (q : Point) → IsDead size cleared (stone_of mover) at q → IsOn size q
  dead_on q d = joined_on size cleared at q s.on_board d.joined

  dead_stood : (q : Point) → IsDead size cleared (stone_of mover) at q → placed before at (stone_of mover) q ≡ stone_of mover
  dead_stood q d =
      let on = dead_on q d in
      let same : cleared q ≡ stone_of mover = joined_same size cleared at q d.joined ∙ d.of_kind in
      elim (s.captures q on) [
        | inl h ↦ absurd (stone_solid mover (sym same ∙ h.1))
        | inr h ↦ sym (s.start_is q on) ∙ sym h.1 ∙ same
      ]

  dead_gone : (q : Point) → IsDead size cleared (stone_of mover) at q → after q ≡ stone.Empty
  dead_gone q d = elim (s.suicide q (dead_on q d)) [ inl h ↦ h.1 | inr h ↦ absurd (h.0 d) ]

  removed_captured : (q : Point) → IsCaptured size start mover at q → IsRemoved size before mover at after q
  removed_captured q c = record {
    on_board = captured_on q c;
    stood = λ e. stone_solid (other mover) (sym (captured_stood q c) ∙ e);
    gone = captured_gone q c;
  }

  removed_dead : (q : Point) → IsDead size cleared (stone_of mover) at q → IsRemoved size before mover at after q
  removed_dead q d = record {
    on_board = dead_on q d;
    stood = λ e. stone_solid mover (sym (dead_stood q d) ∙ e);
    gone = dead_gone q d;
  }

  removed_listed : (q : Point) → Contains listed q → IsRemoved size before mover at after q
  removed_listed q l = elim ((s.in_list q).0 l) [
    | inl t ↦ removed_captured q ((s.captured q).0 t)
    | inr d ↦ removed_dead q d
  ]

  listed_removed : (q : Point) → IsRemoved size before mover at after q → Contains listed q
  listed_removed q r = (s.in_list q).1 (elim (s.captures q r.on_board) [
    | inl h ↦ inl ((s.captured q).1 h.0)
    | inr h ↦ elim (s.suicide q r.on_board) [
      | inl k ↦ inr k.0
      | inr k ↦ absurd (r.stood (sym (s.start_is q r.on_board) ∙ sym h.1 ∙ sym k.1 ∙ r.gone))
    ]
  ])

  pub Steps-lists : (own : Extent) → IsGathered own listed → ListsOnce (IsRemoved size before mover at after) listed
  Steps-lists own g = record {
    only = λ k d in'. removed_listed (get_or listed k d) (Contains-get_or listed k d in');
    each = listed_removed;
    once = g.once;
  }

  all_taken : All (Stand (placed before at (stone_of mover)) (stone_of (other mover))) taken
  all_taken = λ k d in'. captured_stood (get_or taken k d) ((s.captured (get_or taken k d)).0 (Contains-get_or taken k d in'))

  all_own : length taken ≡ 0 → All (Stand (placed before at (stone_of mover)) (stone_of mover)) listed
  all_own none = λ k d in'. elim ((s.in_list (get_or listed k d)).0 (Contains-get_or listed k d in')) [
    | inl t ↦ absurd (omega (arith, none, t.1))
    | inr h ↦ dead_stood (get_or listed k d) h
  ]

  pub Steps-taken : length taken ≡ count_of (placed before at (stone_of mover)) (stone_of (other mover)) listed
  Steps-taken = elim s.one [
    | inl h ↦ rw h.1 (sym (count_all (placed before at (stone_of mover)) (stone_of (other mover)) taken all_taken))
    | inr none ↦ none ∙ sym (count_none (placed before at (stone_of mover)) (stone_of mover) (stone_of (other mover)) listed (other_differs mover) (all_own none))
  ]

  pub Steps-own : length listed - length taken ≡ count_of (placed before at (stone_of mover)) (stone_of mover) listed
  Steps-own = elim s.one [
    | inl h ↦ (let none = count_none (placed before at (stone_of mover)) (stone_of (other mover)) (stone_of mover) taken (λ e. other_differs mover (sym e)) all_taken in
        rw h.1 (omega (arith, none)))
    | inr none ↦ (let all = count_all (placed before at (stone_of mover)) (stone_of mover) listed (all_own none) in omega (arith, all, none))
  ]

  pub Steps-kept : (q : Point) → IsOn size q → (Contains listed q → ⊥) → after q ≡ placed before at (stone_of mover) q
  Steps-kept q on unlisted = elim (s.captures q on) [
    | inl h ↦ absurd (unlisted ((s.in_list q).1 (inl ((s.captured q).1 h.0))))
    | inr h ↦ elim (s.suicide q on) [
      | inl k ↦ absurd (unlisted ((s.in_list q).1 (inr k.0)))
      | inr k ↦ k.1 ∙ h.1 ∙ s.start_is q on
    ]
  ]

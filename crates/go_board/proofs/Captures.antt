-- Groups removed one after another are those that had no liberty at the start.
use Rattle.std.proofs.Common.{◌≡◌, ◌≢◌, ◌∙◌, ◌⊎◌, subst, sym, inl, inr}
use Rattle.go_board.specs.declared.points.Point.{Point}
use Rattle.go_board.specs.declared.points.Stone.{Stone}
use Rattle.go_board.specs.declared.points.Stone.TheVariants as stone
use Rattle.go_board.specs.Extent.{Extent}
use Rattle.go_board.specs.Point.{IsOn, AreNeighbours}
use Rattle.go_board.specs.Position.{Position, AreJoined, IsAlive}
use Rattle.go_board.specs.Play.{Removes}
use Rattle.go_board.specs.Inner.Groups.{IsDead}
use Rattle.go_board.proofs.Paths.{AreNeighbours-sym, along, AreJoined-refl, AreJoined-step, AreJoined-trans, joined_same}

-- q is of a group without a liberty, which one of the points `among` belongs to
pub record IsTaken (size : Extent) (position : Position) (kind : Stone) (among : Point → Type 0) (q : Point) : Type 0 where
  pub by : Point
  pub on_board : IsOn size by
  pub is_among : among by
  pub dead : IsDead size position kind by q

pub Removes-same : (size : Extent) (A B : Point → Type 0) (before after : Position) →
    ((q : Point) → IsOn size q → A q → B q) → ((q : Point) → IsOn size q → B q → A q) → Removes size A before after → Removes size B before after
Removes-same size A B before after to from r = λ q on. elim (r q on) [
  | inl h ↦ inl (to q on h.0, h.1)
  | inr h ↦ inr ((λ b. h.0 (from q on b)), h.1)
]

module _ (size : Extent) (before : Position) (kind : Stone) (among : Point → Type 0) where
  taken_same : (q : Point) → IsTaken size before kind among q → before q ≡ kind
  taken_same q t = joined_same size before t.by q t.dead.joined ∙ t.dead.of_kind

  pub taken_joined : (q r : Point) → IsTaken size before kind among q → AreJoined size before q r → IsTaken size before kind among r
  taken_joined q r t j = record {
    by = t.by;
    on_board = t.on_board;
    is_among = t.is_among;
    dead = record { of_kind = t.dead.of_kind; joined = AreJoined-trans size before t.by q r t.dead.joined j; dead = t.dead.dead };
  }

  taken_step : (q r : Point) → IsTaken size before kind among q → AreNeighbours q r → IsOn size r → before r ≡ kind →
      IsTaken size before kind among r
  taken_step q r t next on same =
      taken_joined q r t (AreJoined-step size before q q r (AreJoined-refl size before q) next on (same ∙ sym (taken_same q t)))

-- `now` is `before` without the groups taken so far, and a stone of that kind stands at p
module _ (size : Extent) (before : Position) (kind : Stone) (among : Point → Type 0) (now : Position) (solid : kind ≢ stone.Empty)
    (removed : Removes size (IsTaken size before kind among) before now) (p : Point) (on_board : IsOn size p) (stands : now p ≡ kind) where
  stays : (q : Point) → IsOn size q → now q ≡ kind → (IsTaken size before kind among q → ⊥) × (now q ≡ before q)
  stays q on same = elim (removed q on) [
    | inl h ↦ absurd (solid (sym same ∙ h.1))
    | inr h ↦ h
  ]

  stood : before p ≡ kind
  stood = sym ((stays p on_board stands).1) ∙ stands

  record Kept (x : Point) : Type 0 where
    pub joined : AreJoined size now p x
    pub not_taken : IsTaken size before kind among x → ⊥
    pub on : IsOn size x
    pub same : before x ≡ kind

  kept : (x : Point) → AreJoined size before p x → Kept x
  kept x j = along size before p Kept
      (λ a b s next on same.
      let same_kind = same ∙ stood in
      let free : IsTaken size before kind among b → ⊥ =
      λ t. s.not_taken (taken_step size before kind among b a t (AreNeighbours-sym a b next) s.on s.same) in
      let unchanged : now b ≡ before b = elim (removed b on) [ inl h ↦ absurd (free h.0) | inr h ↦ h.1 ] in
      record {
        joined = AreJoined-step size now p a b s.joined next on (unchanged ∙ same_kind ∙ sym stands);
        not_taken = free;
        on = on;
        same = same_kind;
      })
      (record { joined = AreJoined-refl size now p; not_taken = (stays p on_board stands).0; on = on_board; same = stood }) x j

  joined_before : (x : Point) → AreJoined size now p x → AreJoined size before p x
  joined_before x j = along size now p (AreJoined size before p)
      (λ a b s next on same.
      AreJoined-step size before p a b s next on (sym ((stays b on (same ∙ stands)).1) ∙ (same ∙ stands) ∙ sym stood))
      (AreJoined-refl size before p) x j

  alive_now : IsAlive size before p → IsAlive size now p
  alive_now a = record {
    member = a.member;
    liberty = a.liberty;
    joined = (kept a.member a.joined).joined;
    neighbours = a.neighbours;
    on_board = a.on_board;
    empty = elim (removed a.liberty a.on_board) [ inl h ↦ h.1 | inr h ↦ h.1 ∙ a.empty ];
  }

  alive_before : IsAlive size now p → IsAlive size before p
  alive_before a =
      let joined = joined_before a.member a.joined in
      let k = kept a.member joined in
      record {
        member = a.member;
        liberty = a.liberty;
        joined = joined;
        neighbours = a.neighbours;
        on_board = a.on_board;
        empty = elim (removed a.liberty a.on_board) [
          | inl h ↦ absurd (k.not_taken (taken_step size before kind among a.liberty a.member h.0
              (AreNeighbours-sym a.member a.liberty a.neighbours) k.on k.same))
          | inr h ↦ sym h.1 ∙ a.empty
        ];
      }

  dead_now : (q : Point) → IsDead size before kind p q → IsDead size now kind p q
  dead_now q d = record { of_kind = stands; joined = (kept q d.joined).joined; dead = λ a. d.dead (alive_before a) }

  dead_before : (q : Point) → IsDead size now kind p q → IsDead size before kind p q
  dead_before q d = record { of_kind = stood; joined = joined_before q d.joined; dead = λ a. d.dead (alive_now a) }

-- one more neighbour is looked at
module _ (size : Extent) (before : Position) (kind : Stone) (among wider : Point → Type 0) (now : Position) (solid : kind ≢ stone.Empty)
    (removed : Removes size (IsTaken size before kind among) before now) (p : Point) (on_board : IsOn size p)
    (kept_among : (q : Point) → among q → wider q) (has : wider p) (no_other : (q : Point) → wider q → among q ⊎ (p ≡ q)) where
  taken_wider : (q : Point) → IsTaken size before kind among q → IsTaken size before kind wider q
  taken_wider q t = record { by = t.by; on_board = t.on_board; is_among = kept_among t.by t.is_among; dead = t.dead }

  taken_here : (q : Point) → IsDead size now kind p q → IsTaken size before kind wider q
  taken_here q d = record {
    by = p;
    on_board = on_board;
    is_among = has;
    dead = dead_before size before kind among now solid removed p on_board d.of_kind q d;
  }

  taken_cases : (q : Point) → IsTaken size before kind wider q → IsTaken size before kind among q ⊎ IsDead size now kind p q
  taken_cases q t = elim (no_other t.by t.is_among) [
    | inl old ↦ inl (record { by = t.by; on_board = t.on_board; is_among = old; dead = t.dead })
    | inr e ↦ (let d = subst (λ x. IsDead size before kind x q) (sym e) t.dead in
        elim (removed p on_board) [
          | inl h ↦ inl (taken_joined size before kind among p q h.0 d.joined)
          | inr h ↦ inr (dead_now size before kind among now solid removed p on_board (h.1 ∙ d.of_kind) q d)
        ])
  ]

  pub Removes-more : (after : Position) → Removes size (IsDead size now kind p) now after → Removes size (IsTaken size before kind wider) before after
  Removes-more after r = λ q on. elim (r q on) [
    | inl h ↦ inl (taken_here q h.0, h.1)
    | inr h ↦ elim (removed q on) [
      | inl old ↦ inl (taken_wider q old.0, h.1 ∙ old.1)
      | inr old ↦ inr ((λ t. elim (taken_cases q t) [ inl a ↦ old.0 a | inr b ↦ h.0 b ]), h.1 ∙ old.1)
    ]
  ]

  pub taken_more : (listed listed' : Point → Type 0) → ((q : Point) → (listed q → IsTaken size before kind among q) × (IsTaken size before kind among q → listed q)) →
      ((q : Point) → (listed' q → listed q ⊎ IsDead size now kind p q) × (listed q ⊎ IsDead size now kind p q → listed' q)) →
      (q : Point) → (listed' q → IsTaken size before kind wider q) × (IsTaken size before kind wider q → listed' q)
  taken_more listed listed' old new q = (
    (λ l. elim ((new q).0 l) [ inl a ↦ taken_wider q ((old q).0 a) | inr b ↦ taken_here q b ]),
    (λ t. (new q).1 (elim (taken_cases q t) as (λ _. listed q ⊎ IsDead size now kind p q) [ inl a ↦ inl ((old q).1 a) | inr b ↦ inr b ])),
  )

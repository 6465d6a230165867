-- The points of a group are emptied one after another.
use Rattle.std.proofs.Common.{◌≡◌, ◌∙◌, ◌⊎◌, ◌+◌, ◌*◌, ◌<◌, ◌≤◌, ℕ, List, [], ◌∷◌, ◌++◌, length, take, get_or, set, subst, sym, ap, inl, inr, refl, arith, All, Contains}
use Rattle.std.proofs.lemmas.Bool.{cases_eq}
use Rattle.std.proofs.lemmas.List.{take_all, take_more, get_or-set_same, get_or-set_other, length-set}
use Rattle.std.proofs.lemmas.List.Elements.{Contains-append_left, Contains-push, Contains-push_cases}
use Rattle.go_board.specs.declared.points.Point.{Point}
use Rattle.go_board.specs.declared.points.Stone.{Stone}
use Rattle.go_board.specs.declared.points.Stone.TheVariants as stone
use Rattle.go_board.specs.Extent.{Extent}
use Rattle.go_board.specs.Point.{IsOn, index_of}
use Rattle.go_board.specs.Position.{position_in}
use Rattle.go_board.specs.Play.{Removes}
use Rattle.go_board.specs.Gathered.{IsGathered}
use Rattle.go_board.proofs.Places.{same_index, index_below, shown_on}

-- the first i points of the group are empty, and in the list
pub record Removing (size : Extent) (group : List Point) (i : ℕ) (before now : List Stone) (first listed : List Point) : Type 0 where
  pub board : length now ≡ size.columns * size.rows
  pub gone : Removes size (Contains (take i group)) (position_in size before) (position_in size now)
  pub in_list : (q : Point) → (Contains listed q → Contains first q ⊎ Contains (take i group) q) × (Contains first q ⊎ Contains (take i group) q → Contains listed q)

none_in : (q : Point) → Contains [] q → ⊥
none_in q c = absurd (omega (arith, c.1))

-- what is in a list after one more point was put in, unless the list had it
pub added_cases : (listed more : List Point) (p q : Point) → ((more ≡ listed) × Contains listed p) ⊎ (more ≡ listed ++ p ∷ []) →
    (Contains more q → Contains listed q ⊎ (p ≡ q)) × (Contains listed q ⊎ (p ≡ q) → Contains more q)
added_cases listed more p q added = elim added [
  | inl h ↦ (
    (λ c. inl (subst (λ (l : List Point). Contains l q) h.0 c)),
    (λ s. subst (λ (l : List Point). Contains l q) (sym h.0) (elim s as (λ _. Contains listed q) [ inl c ↦ c | inr e ↦ subst (Contains listed) e h.1 ])),
  )
  | inr h ↦ (
    (λ c. Contains-push_cases listed p q (subst (λ (l : List Point). Contains l q) h c)),
    (λ s. subst (λ (l : List Point). Contains l q) (sym h) (elim s as (λ _. Contains (listed ++ p ∷ []) q) [
      | inl c ↦ Contains-append_left listed (p ∷ []) q c
      | inr e ↦ subst (Contains (listed ++ p ∷ [])) e (Contains-push listed p)
    ])),
  )
]

-- the points `group` are empty, and in the list
pub record Removed (size : Extent) (before now : List Stone) (first listed group : List Point) : Type 0 where
  pub gone : Removes size (Contains group) (position_in size before) (position_in size now)
  pub in_list : (q : Point) → (Contains listed q → Contains first q ⊎ Contains group q) × (Contains first q ⊎ Contains group q → Contains listed q)

module _ (size : Extent) (before : List Stone) (first : List Point) where
  Removed-more : (group : List Point) (now : List Stone) (listed more : List Point) (p : Point) → IsOn size p →
      length now ≡ size.columns * size.rows →
      ((more ≡ listed) × Contains listed p) ⊎ (more ≡ listed ++ p ∷ []) →
      Removed size before now first listed group →
      Removed size before (set now (index_of size p) stone.Empty) first more (group ++ p ∷ [])
  Removed-more group now listed more p on board added r = record {
    gone = λ q q_on. elim (cases_eq (index_of size q) (index_of size p)) [
      | inl e ↦ (let same = same_index size p q on q_on (sym e) in
          inl (
            subst (Contains (group ++ p ∷ [])) same (Contains-push group p),
            shown_on size (set now (index_of size p) stone.Empty) q q_on
                ∙ ap (λ i. get_or (set now (index_of size p) stone.Empty) i stone.Empty) e
                ∙ get_or-set_same now (index_of size p) stone.Empty stone.Empty
                (subst (λ n. index_of size p < n) (sym board) (index_below size p on)),
          ))
      | inr ne ↦ (let kept = shown_on size (set now (index_of size p) stone.Empty) q q_on
          ∙ get_or-set_other now (index_of size p) (index_of size q) stone.Empty stone.Empty ne
          ∙ sym (shown_on size now q q_on) in
          elim (r.gone q q_on) [
            | inl h ↦ inl (Contains-append_left group (p ∷ []) q h.0, kept ∙ h.1)
            | inr h ↦ inr (
              (λ c. elim (Contains-push_cases group p q c) [
                | inl old ↦ h.0 old
                | inr same ↦ ne (ap (index_of size) (sym same))
              ]),
              kept ∙ h.1,
            )
          ])
    ];
    in_list = λ q. (
      (λ c. elim ((added_cases listed more p q added).0 c) [
        | inl old ↦ elim ((r.in_list q).0 old) [
          | inl a ↦ inl a
          | inr b ↦ inr (Contains-append_left group (p ∷ []) q b)
        ]
        | inr same ↦ inr (subst (Contains (group ++ p ∷ [])) same (Contains-push group p))
      ]),
      (λ s. (added_cases listed more p q added).1 (elim s as (λ _. Contains listed q ⊎ (p ≡ q)) [
        | inl a ↦ inl ((r.in_list q).1 (inl a))
        | inr b ↦ elim (Contains-push_cases group p q b) [
          | inl old ↦ inl ((r.in_list q).1 (inr old))
          | inr same ↦ inr same
        ]
      ])),
    );
  }

  pub Removing-start : (group : List Point) → length before ≡ size.columns * size.rows → Removing size group 0 before before first first
  Removing-start group board = record {
    board = board;
    gone = λ q on. inr (none_in q, refl);
    in_list = λ q. ((λ c. inl c), (λ s. elim s as (λ _. Contains first q) [ inl c ↦ c | inr c ↦ absurd (none_in q c) ]));
  }

  pub Removing-more : (group : List Point) (i : ℕ) (now : List Stone) (listed more : List Point) (p : Point) → IsOn size p →
      i < length group → get_or group i p ≡ p →
      ((more ≡ listed) × Contains listed p) ⊎ (more ≡ listed ++ p ∷ []) →
      Removing size group i before now first listed →
      Removing size group (i + 1) before (set now (index_of size p) stone.Empty) first more
  Removing-more group i now listed more p on in' at added r =
      let longer : take (i + 1) group ≡ take i group ++ p ∷ [] =
      take_more group i p in' ∙ ap (λ x. take i group ++ x ∷ []) at in
      let next : Removed size before (set now (index_of size p) stone.Empty) first more (take (i + 1) group) =
      subst (Removed size before (set now (index_of size p) stone.Empty) first more) (sym longer)
      (Removed-more (take i group) now listed more p on r.board added (record { gone = r.gone; in_list = r.in_list })) in
      record {
        board = length-set now (index_of size p) stone.Empty ∙ r.board;
        gone = next.gone;
        in_list = next.in_list;
      }

  pub Removing-end : (group points : List Point) (i : ℕ) (now : List Stone) (listed : List Point) → length group ≤ i → group ≡ points →
      Removing size group i before now first listed → Removed size before now first listed points
  Removing-end group points i now listed past same r =
      subst (Removed size before now first listed) (take_all i group past ∙ same) (record { gone = r.gone; in_list = r.in_list })

-- a point of a group that is on the board
pub point_at : (size own : Extent) (group points : List Point) (i : ℕ) (d : Point) → own ≡ size → group ≡ points → IsGathered own points →
    i < length group → IsOn size (get_or group i d)
point_at size own group points i d sized same g in' =
    subst (λ (s : Extent). IsOn s (get_or group i d)) sized
    (subst (λ (l : List Point). All (IsOn own) l) (sym same) g.on_board i d in')

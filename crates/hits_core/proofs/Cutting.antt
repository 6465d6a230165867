-- The actions before a move, and those from it on; and their texts, one after another.
use Rattle.std.proofs.Common.{◌≡◌, ℕ, suc, ◌+◌, ◌<◌, ◌≤◌, List, [], ◌∷◌, ◌++◌, length, take, drop, get_or, Option, Some, refl, ap, sym, subst, ◌∙◌, append_assoc}
use Rattle.std.proofs.lemmas.List.{append-nil, drop_more, take_more}
use Rattle.go_record.specs.declared.actions.Action.{Action}
use Rattle.go_record.specs.declared.actions.Action.TheVariants as action
use Rattle.hits_core.specs.Sgf.{actions_before, actions_from, action_text, actions_text}

-- the actions before a place, after which this number of moves is still to come
pub record IsCutAt (moves left place : ℕ) (actions : List Action) : Type 0 where
  pub before : actions_before moves actions ≡ take place actions ++ actions_before left (drop place actions)
  pub from : actions_from moves actions ≡ actions_from left (drop place actions)

pub cut-begins : (moves : ℕ) (actions : List Action) → IsCutAt moves moves 0 actions
cut-begins moves actions = record { before = refl; from = refl }

-- what stands at the place
rest_at : (actions : List Action) (place : ℕ) (a : Action) → place < length actions → a ≡ get_or actions place a → drop place actions ≡ a ∷ drop (place + 1) actions
rest_at actions place a few is = drop_more actions place a few ∙ ap (λ (x : Action). x ∷ drop (place + 1) actions) (sym is)

front_at : (actions : List Action) (place : ℕ) (a : Action) → place < length actions → a ≡ get_or actions place a → take (place + 1) actions ≡ take place actions ++ a ∷ []
front_at actions place a few is = take_more actions place a few ∙ ap (λ (x : Action). take place actions ++ x ∷ []) (sym is)

-- one action more comes before the move, with which the moves that are left become these
abbrev pub IsOneMore : Action → ℕ → ℕ → Type 0
IsOneMore a left after = (rest : List Action) → (actions_before left (a ∷ rest) ≡ a ∷ actions_before after rest) × (actions_from left (a ∷ rest) ≡ actions_from after rest)

pub cut-steps : (moves left after place : ℕ) (actions : List Action) (a : Action) → place < length actions → a ≡ get_or actions place a → IsOneMore a left after → IsCutAt moves left place actions → IsCutAt moves after (place + 1) actions
cut-steps moves left after place actions a few is more h =
    let next = more (drop (place + 1) actions) in
    record {
      before = h.before ∙ (ap (λ (xs : List Action). take place actions ++ actions_before left xs) (rest_at actions place a few is)
          ∙ (ap (λ (xs : List Action). take place actions ++ xs) next.0
          ∙ (sym (append_assoc (take place actions) (a ∷ []) (actions_before after (drop (place + 1) actions)))
          ∙ ap (λ (xs : List Action). xs ++ actions_before after (drop (place + 1) actions)) (sym (front_at actions place a few is)))));
      from = h.from ∙ (ap (actions_from left) (rest_at actions place a few is) ∙ next.1);
    }

pub set-more : (low high : _) (stone : _) (left : ℕ) → IsOneMore (action.Set low high stone) left left
set-more low high stone left = λ rest. (refl, refl)

pub move-more : (mover : _) (at : _) (left after : ℕ) → left ≡ suc after → IsOneMore (action.Move mover at) left after
move-more mover at left after is = subst (λ (n : ℕ). IsOneMore (action.Move mover at) n after) (sym is) (λ rest. (refl, refl))

pub pass-more : (mover : _) (left after : ℕ) → left ≡ suc after → IsOneMore (action.Pass mover) left after
pass-more mover left after is = subst (λ (n : ℕ). IsOneMore (action.Pass mover) n after) (sym is) (λ rest. (refl, refl))

-- the move is met
abbrev pub IsHere : Action → Type 0
IsHere a = (rest : List Action) → (actions_before 0 (a ∷ rest) ≡ []) × (actions_from 0 (a ∷ rest) ≡ a ∷ rest)

pub cut-here : (moves left place : ℕ) (actions : List Action) (a : Action) → place < length actions → a ≡ get_or actions place a → IsHere a → left ≡ 0 → IsCutAt moves left place actions →
    (take place actions ≡ actions_before moves actions) × (drop place actions ≡ actions_from moves actions)
cut-here moves left place actions a few is here none h =
    let rest = rest_at actions place a few is in
    let met = here (drop (place + 1) actions) in (
      sym (h.before ∙ (ap (λ (n : ℕ). take place actions ++ actions_before n (drop place actions)) none ∙ (ap (λ (xs : List Action). take place actions ++ actions_before 0 xs) rest
          ∙ (ap (λ (xs : List Action). take place actions ++ xs) met.0 ∙ append-nil (take place actions))))),
      sym (h.from ∙ (ap (λ (n : ℕ). actions_from n (drop place actions)) none ∙ (ap (actions_from 0) rest ∙ (met.1 ∙ sym rest)))),
    )

-- no such move comes
pub cut-ends : (moves left place : ℕ) (actions : List Action) → length actions ≤ place → drop place actions ≡ [] → IsCutAt moves left place actions →
    (take place actions ≡ actions_before moves actions) × (drop place actions ≡ actions_from moves actions)
cut-ends moves left place actions all none h = (
  sym (h.before ∙ (ap (λ (xs : List Action). take place actions ++ actions_before left xs) none ∙ append-nil (take place actions))),
  sym (h.from ∙ (ap (actions_from left) none ∙ sym none)),
)

-- the last of some actions, where there is one; else what came before them
abbrev pub last_of : Option Action → List Action → Option Action
last_of before [] = before
last_of before (a ∷ actions) = last_of (Some a) actions

pub text-more : (before : Option Action) (actions : List Action) (a : Action) → actions_text before (actions ++ a ∷ []) ≡ actions_text before actions ++ action_text (last_of before actions) a
text-more before [] a = append-nil (action_text before a)
text-more before (x ∷ actions) a =
    ap (λ xs. action_text before x ++ xs) (text-more (Some x) actions a) ∙ sym (append_assoc (action_text before x) (actions_text (Some x) actions) (action_text (last_of (Some x) actions) a))

pub last-more : (before : Option Action) (actions : List Action) (a : Action) → last_of before (actions ++ a ∷ []) ≡ Some a
last-more before [] a = refl
last-more before (x ∷ actions) a = last-more (Some x) actions a

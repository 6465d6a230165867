-- No two records have one code.
use Rattle.std.proofs.Common.{◌≡◌, ℕ, ◌==◌, cond, Option, Some, None, List, [], ◌∷◌, ◌++◌, refl, ap, sym, ◌∙◌}
use Rattle.go_board.specs.declared.points.Point.{Point}
use Rattle.go_board.specs.declared.points.Colour.TheVariants as colour
use Rattle.go_board.specs.declared.points.Stone.{Stone}
use Rattle.go_board.specs.declared.points.Stone.TheVariants as stone
use Rattle.go_record.specs.Actions.{Actions}
use Rattle.go_record.specs.declared.actions.Action.{Action}
use Rattle.go_record.specs.declared.actions.Action.TheVariants as action
use Rattle.twins_core.specs.Codes.{action_code, actions_code, record_code}

-- an action, and what follows its code
abbrev pub Decoded : Type 0
Decoded = Option (Action × List ℕ)

abbrev pub point_then : (Point → List ℕ → Decoded) → List ℕ → Decoded
point_then next (column ∷ row ∷ rest) = next (record { column = column; row = row }) rest
point_then next _ = None

abbrev pub set_then : Stone → List ℕ → Decoded
set_then found rest = point_then (λ low more. point_then (λ high last. Some (action.Set low high found, last)) more) rest

abbrev pub decode_by : ℕ → List ℕ → Decoded
decode_by tag rest =
    cond (tag == 0) (point_then (λ at more. Some (action.Move colour.Black at, more)) rest)
    (cond (tag == 1) (point_then (λ at more. Some (action.Move colour.White at, more)) rest)
    (cond (tag == 2) (Some (action.Pass colour.Black, rest))
    (cond (tag == 3) (Some (action.Pass colour.White, rest))
    (cond (tag == 4) (set_then stone.Empty rest)
    (cond (tag == 5) (set_then stone.Black rest) (set_then stone.White rest))))))

abbrev pub decode : List ℕ → Decoded
decode [] = None
decode (tag ∷ rest) = decode_by tag rest

decodes : (one : Action) (rest : List ℕ) → decode (action_code one ++ rest) ≡ Some (one, rest)
decodes (action.Move colour.Black at) rest = refl
decodes (action.Move colour.White at) rest = refl
decodes (action.Pass colour.Black) rest = refl
decodes (action.Pass colour.White) rest = refl
decodes (action.Set low high stone.Empty) rest = refl
decodes (action.Set low high stone.Black) rest = refl
decodes (action.Set low high stone.White) rest = refl

some_pair : {A B : Type 0} (p q : A × B) → Some p ≡ Some q → (p.0 ≡ q.0) × (p.1 ≡ q.1)
some_pair {A} {B} p q e =
    let same : p ≡ q = cc in
    (ap (λ (r : A × B). r.0) same, ap (λ (r : A × B). r.1) same)

same_actions : (xs ys : List Action) → actions_code xs ≡ actions_code ys → xs ≡ ys
same_actions [] [] e = refl
same_actions [] (y ∷ ys) e = absurd (let bad = ap decode e ∙ decodes y (actions_code ys) in cc)
same_actions (x ∷ xs) [] e = absurd (let bad = sym (decodes x (actions_code xs)) ∙ ap decode e in cc)
same_actions (x ∷ xs) (y ∷ ys) e =
    let both = some_pair {A = Action} {B = List ℕ} (x, actions_code xs) (y, actions_code ys) (sym (decodes x (actions_code xs)) ∙ ap decode e ∙ decodes y (actions_code ys)) in
    let rest = same_actions xs ys both.1 in
    let first = both.0 in
    cc

-- the record with these parts
abbrev pub built : ℕ → ℕ → List Action → Actions
built columns rows actions = record { size = record { columns = columns; rows = rows }; actions = actions }

front : (a b c d : ℕ) (x y : List ℕ) → a ∷ b ∷ x ≡ c ∷ d ∷ y → (a ≡ c) × (b ≡ d) × (x ≡ y)
front a b c d x y e = (cc, cc, cc)

pub same_record : (game other : Actions) → record_code game ≡ record_code other → game ≡ other
same_record game other e =
    let parts = front game.size.columns game.size.rows other.size.columns other.size.rows (actions_code game.actions) (actions_code other.actions) e in
    ap (λ n. built n game.size.rows game.actions) parts.0
    ∙ ap (λ n. built other.size.columns n game.actions) parts.1
    ∙ ap (λ actions. built other.size.columns other.size.rows actions) (same_actions game.actions other.actions parts.2)

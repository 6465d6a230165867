-- The least game marked at a number is at most some game exactly where a game was marked there that is at most that one.
use Rattle.std.proofs.Common.{◌≡◌, ◌↔◌, ◌⊎◌, ℕ, ◌≤◌, ◌==◌, if◌then◌else◌, min, Bool, true, false, List, [], ◌∷◌, Option, Some, None, refl, sym, ap, subst, arith, inl, inr, Contains}
use Rattle.std.proofs.lemmas.Bool.{eqb-true, eq-eqb, cases_lt}
use Rattle.std.proofs.lemmas.List.Elements.{Contains-append_left, Contains-append_right, Contains-append_cases, Contains-push, Contains-push_cases}
use Rattle.slot_table.specs.declared.entries.Happened.{Happened}
use Rattle.slot_table.specs.declared.entries.Happened.TheVariants as entry
use Rattle.slot_table.specs.History.{lowered, least_from, least_at, IsAtMost}
use Rattle.slot_table.proofs.Histories.{marks_stay}

-- a game that is no greater was marked at the number
abbrev WasMarked : ℕ → ℕ → List Happened → Type 0
WasMarked number game history = (marked : ℕ) × (marked ≤ game) × Contains history (entry.Marked number marked)

head_there : (e : Happened) (history : List Happened) → Contains (e ∷ history) e
head_there e history = Contains-append_left (e ∷ []) history e (Contains-push [] e)

was_later : (number game : ℕ) (e : Happened) (history : List Happened) → WasMarked number game history → WasMarked number game (e ∷ history)
was_later number game e history h = (h.0, h.1, Contains-append_right (e ∷ []) history (entry.Marked number h.0) h.2)

head_cases : (e : Happened) (history : List Happened) (x : Happened) → Contains (e ∷ history) x → (e ≡ x) ⊎ Contains history x
head_cases e history x there =
    elim (Contains-append_cases (e ∷ []) history x there) [
      | inl one ↦ elim (Contains-push_cases [] e x one) [
        | inl none ↦ absurd (omega (arith, none.1))
        | inr same ↦ inl same
      ]
      | inr rest ↦ inr rest
    ]

-- a lesser game of two is at most this one exactly where one of the two is

lowered_by : (least : Option ℕ) (game g : ℕ) → IsAtMost (lowered least g) game → IsAtMost least game ⊎ (g ≤ game)
lowered_by None game g at_most = inr at_most
lowered_by (Some h) game g at_most =
    elim (cases_lt game h) [
      | inl above ↦ inr (omega (arith, at_most, above))
      | inr below ↦ inl below
    ]

lowered_to : (least : Option ℕ) (game g : ℕ) → g ≤ game → IsAtMost (lowered least g) game
lowered_to None game g le = le
lowered_to (Some h) game g le = let low : min h g ≤ game = omega (arith, le) in low

-- where the least game is at most this one after a history, it was so before, or one was marked

mark_by : (number game at g : ℕ) (history : List Happened) (least : Option ℕ) (b : Bool) → (at == number) ≡ b → IsAtMost (if b then lowered least g else least) game
    → IsAtMost least game ⊎ WasMarked number game (entry.Marked at g ∷ history)
mark_by number game at g history least true same at_most =
    elim (lowered_by least game g at_most) [
      | inl before ↦ inl before
      | inr le ↦ inr (g, le, subst (λ (p : ℕ). Contains (entry.Marked at g ∷ history) (entry.Marked p g)) (eqb-true at number same) (head_there (entry.Marked at g) history))
    ]
mark_by number game at g history least false other at_most = inl at_most

later_or : (number game : ℕ) (e : Happened) (history : List Happened) (least : Option ℕ) → IsAtMost least game ⊎ WasMarked number game history
    → IsAtMost least game ⊎ WasMarked number game (e ∷ history)
later_or number game e history least (inl before) = inl before
later_or number game e history least (inr was) = inr (was_later number game e history was)

found_mark : (number game : ℕ) (history : List Happened) (least : Option ℕ) → IsAtMost (least_from least number history) game
    → IsAtMost least game ⊎ WasMarked number game history
found_mark number game [] least at_most = inl at_most
found_mark number game (entry.Asked c a ∷ history) least at_most =
    later_or number game (entry.Asked c a) history least (found_mark number game history least at_most)
found_mark number game (entry.Marked at g ∷ history) least at_most =
    elim (found_mark number game history (if at == number then lowered least g else least) at_most) [
      | inl here ↦ mark_by number game at g history least (at == number) refl here
      | inr was ↦ inr (was_later number game (entry.Marked at g) history was)
    ]
found_mark number game (entry.First at g ∷ history) least at_most =
    later_or number game (entry.First at g) history least (found_mark number game history least at_most)

-- and where one was marked, the least game is at most that

abbrev IsMark : Happened → Type 0
IsMark (entry.Asked c a) = ⊥
IsMark (entry.Marked at g) = Unit {0}
IsMark (entry.First at g) = ⊥

abbrev number_in : Happened → ℕ
number_in (entry.Asked c a) = 0
number_in (entry.Marked at g) = at
number_in (entry.First at g) = 0

abbrev game_in : Happened → ℕ
game_in (entry.Asked c a) = 0
game_in (entry.Marked at g) = g
game_in (entry.First at g) = 0

lowered_here : (number game at g : ℕ) (least : Option ℕ) → at ≡ number → g ≤ game → IsAtMost (if at == number then lowered least g else least) game
lowered_here number game at g least same le = rw (eq-eqb at number same) (lowered_to least game g le)

lowers : (number game marked : ℕ) (history : List Happened) (least : Option ℕ) → marked ≤ game → Contains history (entry.Marked number marked)
    → IsAtMost (least_from least number history) game
lowers number game marked [] least le there = absurd (omega (arith, there.1))
lowers number game marked (entry.Asked c a ∷ history) least le there =
    elim (head_cases (entry.Asked c a) history (entry.Marked number marked) there) [
      | inl same ↦ absurd (subst IsMark (sym same) tt)
      | inr rest ↦ lowers number game marked history least le rest
    ]
lowers number game marked (entry.Marked at g ∷ history) least le there =
    elim (head_cases (entry.Marked at g) history (entry.Marked number marked) there) [
      | inl same ↦ marks_stay (if at == number then lowered least g else least) number game history
          (lowered_here number game at g least (ap number_in same) (let e : g ≡ marked = ap game_in same in omega (arith, e, le)))
      | inr rest ↦ lowers number game marked history (if at == number then lowered least g else least) le rest
    ]
lowers number game marked (entry.First at g ∷ history) least le there =
    elim (head_cases (entry.First at g) history (entry.Marked number marked) there) [
      | inl same ↦ absurd (subst IsMark (sym same) tt)
      | inr rest ↦ lowers number game marked history least le rest
    ]

pub marked_games : (number game : ℕ) (history : List Happened) → IsAtMost (least_at number history) game ↔ WasMarked number game history
marked_games number game history = (
  λ at_most. elim (found_mark number game history None at_most) [
    | inl none ↦ absurd none
    | inr was ↦ was
  ],
  λ was. lowers number game was.0 history None was.1 was.2,
)

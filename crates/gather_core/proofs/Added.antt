-- Shares to which a game was added.
use Rattle.std.proofs.Common.{◌≡◌, ℕ, ◌==◌, cond, List, [], ◌∷◌, ◌++◌, length, Option, None, refl, ap, sym, ◌∙◌, arith}
use Rattle.gather_core.proofs.Common.{map-append, sum_by_push, Actions, Kinds, kinds_of, there_in, played_in, Row, first_of, earlier, Held, Added, replayed_of, game_of, first_in, IsShareOf, IsShare, IsAdded}
use Rattle.go_board.specs.Extent.{IsExtent}
use Rattle.tally_core.specs.Occasions.{AreOccasions}
use Rattle.gather_core.proofs.Calls.{both_all}

-- ---- the lesser of two games
pub earlier_none : (a : Option ℕ) → earlier a None ≡ a
earlier_none a = Prim.grind (arith)

pub earlier_assoc : (a b c : Option ℕ) → earlier (earlier a b) c ≡ earlier a (earlier b c)
earlier_assoc a b c = Prim.grind (arith)

-- ---- rows, and more rows
pub first_append : (rows more : List Row) (shape : ℕ) →
    first_of (rows ++ more) shape ≡ earlier (first_of rows shape) (first_of more shape)
first_append [] more shape = refl
first_append (row ∷ rows) more shape =
    let one = cond (row.shape == shape) row.first None in
    ap (earlier one) (first_append rows more shape) ∙ sym (earlier_assoc one (first_of rows shape) (first_of more shape))

-- ---- the games of a share and more
pub first_in_append : (kinds : Kinds) (added more : List Added) (shape : ℕ) →
    first_in kinds (added ++ more) shape ≡ earlier (first_in kinds added shape) (first_in kinds more shape)
first_in_append kinds [] more shape = refl
first_in_append kinds (one ∷ added) more shape =
    ap (earlier (game_of kinds one shape)) (first_in_append kinds added more shape)
    ∙ sym (earlier_assoc (game_of kinds one shape) (first_in kinds added shape) (first_in kinds more shape))

-- a share is of the games that it was of and of the one that was added
pub share_of_more : (added : List Added) (game : ℕ) (actions : Actions) (old new : Held) (h : IsAdded game actions old new) →
    IsShareOf added old → IsShareOf (added ++ record { game = game; actions = actions; occasions = h.occasions } ∷ []) new
share_of_more added game actions old new h share =
    let one : Added = record { game = game; actions = actions; occasions = h.occasions } in
    let there = λ (shape : ℕ) (a : Added). there_in (kinds_of old.kinds) (replayed_of a) shape in
    let played = λ (shape : ℕ) (a : Added). played_in (kinds_of old.kinds) (replayed_of a) shape in
    record {
      replays = both_all (λ (a : Added). AreOccasions a.actions a.occasions) added (one ∷ []) share.replays (h.replayed, tt);
      sized = both_all (λ (a : Added). IsExtent a.actions.size) added (one ∷ []) share.sized (h.sized, tt);
      games = h.games ∙ ap (λ (gs : List ℕ). gs ++ game ∷ []) share.games
          ∙ sym (map-append (λ (a : Added). a.game) added (one ∷ []));
      moves = omega (arith, h.moves, share.moves, sum_by_push (λ (a : Added). length a.occasions) added one);
      there = λ shape. rw h.kinds (omega (arith, h.there shape, share.there shape, sum_by_push (there shape) added one));
      played = λ shape. rw h.kinds (omega (arith, h.played shape, share.played shape, sum_by_push (played shape) added one));
      first = λ shape.
          rw h.kinds (h.first shape ∙ ap (λ f. earlier f (game_of old.kinds one shape)) (share.first shape)
          ∙ ap (earlier (first_in old.kinds added shape)) (sym (earlier_none (game_of old.kinds one shape)))
          ∙ sym (first_in_append old.kinds added (one ∷ []) shape));
      among = λ shape. omega (arith, h.there shape, h.played shape, share.among shape, h.among shape);
    }

pub share_with : {game : ℕ} {actions : Actions} {old new : Held} → IsAdded game actions old new → IsShare old → IsShare new
share_with {game = game} {actions = actions} {old = old} {new = new} h share = record {
  added = share.added ++ record { game = game; actions = actions; occasions = h.occasions } ∷ [];
  is_of = share_of_more share.added game actions old new h share.is_of;
}

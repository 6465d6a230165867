-- What workers have counted of an input by words, game by game.
use Rattle.std.proofs.Common.{ℕ, ◌≤◌, List, [], ◌∷◌, ◌++◌, sym, subst, ◌∙◌}
use Rattle.std.proofs.lemmas.List.Elements.{All-push}
use Rattle.go_record.specs.Actions.{Actions}
use Rattle.shape_core.specs.declared.words.Kinds.{Kinds}
use Rattle.job_core.specs.Rising.{Rising, past}
use Rattle.job_core.proofs.Orders.{past_on, rising_on}
use Rattle.gather_core.specs.Shares.{Held, Added}
use Rattle.gather_core.specs.Adding.{IsAdded}
use Rattle.gather_core.proofs.Added.{share_of_more}
use Rattle.harvest_core.specs.Working.{IsGame, IsOfInput, IsWorked}

-- a game was added, whose number is above those of the others: so all their numbers rise
pub rises_more : (game : ℕ) (actions : Actions) (old new : Held) → IsAdded game actions old new → past old.games ≤ game → Rising 0 old.games (past old.games) →
    Rising 0 new.games (past new.games)
rises_more game actions old new added above rises =
    subst (λ games. Rising 0 games (past games)) (sym added.games)
    (subst (Rising 0 (old.games ++ game ∷ [])) (sym (past_on old.games game)) (rising_on 0 old.games (past old.games) game above rises))

-- a game was added, and what was counted is still of games of the input
pub counted_more : (bytes : List ℕ) (kinds : Kinds) (game : ℕ) (actions : Actions) (old new : Held) → IsGame bytes game actions →
    IsAdded game actions old new → IsOfInput bytes kinds old → IsOfInput bytes kinds new
counted_more bytes kinds game actions old new is added h =
    let one : Added = record { game = game; actions = actions; occasions = added.occasions } in
    record {
      kinds_are = added.kinds ∙ h.kinds_are;
      added = h.added ++ one ∷ [];
      is_of = share_of_more h.added game actions old new added h.is_of;
      games = All-push (λ (a : Added). IsGame bytes a.game a.actions) h.added one h.games is;
    }

-- what was worked over a table is of the input
pub worked_of : (bytes : List ℕ) (kinds : Kinds) (share : Held) → IsWorked bytes kinds share → IsOfInput bytes kinds share
worked_of bytes kinds share h = record { kinds_are = h.kinds_are; added = h.added; is_of = h.is_of; games = h.games }

-- An input that is read to its end has one list of trees.
use Rattle.std.proofs.Common.{◌≡◌, ℕ, ◌∷◌, [], List, refl, ap, ap₂, sym, subst, ◌∙◌, length}
use Rattle.sgf_core.specs.Tree.{GameTree}
use Rattle.sgf_core.specs.Next.{IsNextTree, HasNoTree}
use Rattle.sgf_core.proofs.OneAnswer.{same_next}
use Rattle.game_core.specs.Collection.{AreTrees}
use Rattle.game_core.specs.Games.{HasReadAll}
use Rattle.game_core.specs.declared.reports.Report.{Report}
use Rattle.game_core.proofs.OneGame.{games_of}

-- no tree is next where none is left
not_next : (bytes : List ℕ) (from at stop : ℕ) (tree : GameTree) → IsNextTree bytes from at stop tree → HasNoTree bytes from → ⊥
not_next bytes from at stop tree next none = none at next.first.after next.first.begins

same_trees : (bytes : List ℕ) (from end stop : ℕ) (trees others : List GameTree) → AreTrees bytes from trees end → HasNoTree bytes end → AreTrees bytes from others stop → HasNoTree bytes stop →
    trees ≡ others
same_trees bytes from end stop [] [] a none b last = refl
same_trees bytes from end stop [] (other ∷ others) a none b last = absurd (not_next bytes from b.0 b.1 other b.2 (subst (HasNoTree bytes) (sym a) none))
same_trees bytes from end stop (tree ∷ trees) [] a none b last = absurd (not_next bytes from a.0 a.1 tree a.2 (subst (HasNoTree bytes) (sym b) last))
same_trees bytes from end stop (tree ∷ trees) (other ∷ others) a none b last =
    let same = same_next bytes from a.0 a.1 tree b.0 b.1 other a.2 b.2 in
    ap₂ (λ t ts. t ∷ ts) same.2 (same_trees bytes a.1 end stop trees others a.3 none (subst (λ f. AreTrees bytes f others stop) (sym same.1) b.3) last)

-- it has as many games whoever reads it
pub as_many_games : (bytes : List ℕ) (one other : Report) → HasReadAll bytes one → HasReadAll bytes other → one.games ≡ other.games
as_many_games bytes one other h k =
    h.reported.games
    ∙ ap (λ trees. length (games_of trees)) (same_trees bytes 0 h.end k.end h.trees k.trees h.written h.no_more k.written k.no_more)
    ∙ sym k.reported.games

-- A part that was counted: the dictionary of the games of its texts.
use Rattle.std.proofs.Common.{◌≡◌, ℕ, List, map, subst}
use Rattle.sgf_core.specs.Tree.{GameTree}
use Rattle.go_record.specs.Actions.{Actions}
use Rattle.game_core.specs.Collection.{record_of_tree, games_among}
use Rattle.batch_core.specs.Batch.{joined, AreAllTrees, AreGamesOf}
use Rattle.shape_core.specs.declared.words.Kinds.{Kinds}
use Rattle.tally_core.specs.Collection.{AreReplayed}
use Rattle.tally_core.specs.Counted.{IsCounted}
use Rattle.tally_core.specs.declared.collections.Counted.{Counted}
use Rattle.tally_parts.specs.Parts.{IsDictionaryOfTexts}
use Rattle.tally_parts.specs.Inner.Joining.{AreAllGood}
use Rattle.tally_parts.proofs.Good.{games_of_good}

-- texts that are put together have the games of each of them
abbrev pub HasGames : Type 0
HasGames = (texts : List (List ℕ)) (games : List Actions) (trees : List GameTree) → AreGamesOf texts games → AreAllTrees (joined texts) trees → games_among (map record_of_tree trees) ≡ games

pub counted_texts : HasGames → (kinds : Kinds) (texts : List (List ℕ)) (part : List ℕ) (counted : Counted) → AreAllGood texts → part ≡ joined texts → IsCounted kinds part counted →
    IsDictionaryOfTexts kinds texts counted.dictionary
counted_texts has kinds texts part counted good same h =
    let found = games_of_good texts good in
    let is = subst (λ (x : List ℕ). IsCounted kinds x counted) same h in
    let games = has texts found.0 is.trees found.1 (record { end = is.end; written = is.written; no_more = is.no_more }) in
    record {
      games = found.0;
      replayed = is.games;
      games_of = found.1;
      replays = subst (λ (x : List Actions). AreReplayed x is.games) games is.replayed;
      dictionary = is.dictionary;
    }

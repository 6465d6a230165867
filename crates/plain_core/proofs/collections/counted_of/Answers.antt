use Rattle.std.proofs.Common.{subst, sym}
use Rattle.tally_core.specs.Games.{IsDictionaryOf}
use Rattle.plain_core.specs.Inner.Counter.{count_in, CountsGames}
use Rattle.plain_core.proofs.NextGame.{games_reported}
use Rattle.plain_core.proofs.collections.counted_of.Goals as goal

pub dictionary_of-requires-clause-counted : goal.dictionary_of-requires-clause-counted
dictionary_of-requires-clause-counted c =
    let bytes = c.requires.counted.0 in
    let counter = c.requires.counted.1 in
    let all = c.requires.counted.2 in
    let end = c.requires.counted.3 in (
      count_in counter.counts,
      end.entered,
      (
        all.games,
        games_reported c.args.kinds bytes c.args.report counter all,
        subst (CountsGames c.args.kinds all.games (count_in counter.counts)) end.moves_left all.counted,
      ),
    )

pub returns : goal.returns
returns c bytes counter all end = record {
  trees = all.read.trees;
  end = all.read.end;
  games = all.games;
  small = all.read.small;
  written = all.read.written;
  no_more = all.read.no_more;
  replayed = all.replayed;
  dictionary = subst (IsDictionaryOf c.args.kinds all.games) (sym c.in_ok-dictionary.ensures)
      (c.dictionary_of.ensures.counted (count_in counter.counts) end.entered all.games
      (games_reported c.args.kinds bytes c.args.report counter all)
      (subst (CountsGames c.args.kinds all.games (count_in counter.counts)) end.moves_left all.counted));
  reported = all.read.reported;
}

use Rattle.std.proofs.Common.{arith}
use Rattle.harvest_core.proofs.Harvested.{games_within, harvested}
use Rattle.harvest_core.proofs.FewMoves.{moves_few}
use Rattle.harvest_core.proofs.gathering.dictionary_of.Goals as goal

pub gather_words-requires-clause-games : goal.gather_words-requires-clause-games
gather_words-requires-clause-games g c κs within =
    let of = c.requires.counts in
    games_within of.0 c.args.kinds c.args.counts.shares.items c.args.counts.report of.1.shares of.1.report

pub gather_words-requires-clause-few : goal.gather_words-requires-clause-few
gather_words-requires-clause-few g c κs within =
    let of = c.requires.counts in
    omega (arith, moves_few of.0 c.args.kinds c.args.counts.shares.items c.args.counts.report of.1.shares of.1.report of.1.covers)

pub returns-clause-counted : goal.returns-clause-counted
returns-clause-counted g c bytes of =
    harvested bytes c.args.kinds c.args.counts.shares.items c.args.counts.report c.in_ok-dictionary.field-0.dictionary of.shares of.report of.covers c.in_ok-dictionary.ensures.gathered

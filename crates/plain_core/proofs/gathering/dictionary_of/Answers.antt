use Rattle.std.proofs.Common.{sym, subst}
use Rattle.tally_core.specs.Games.{IsDictionaryOf}
use Rattle.plain_core.proofs.Gathered.{gathered}
use Rattle.plain_core.proofs.gathering.dictionary_of.Goals as goal

pub new-requires : goal.new-requires
new-requires c =
    let counted = c.requires.counted in
    (gathered c.kinds_stay.ensures.canonical c.kinds_stay.ensures.around c.args.kinds counted.2.0 c.args.games c.args.moves counted.0
    c.args.entries.items c.has_diamonds.result counted.1 c.requires.shapes c.requires.rises
    c.has_diamonds.ensures counted.2.1 counted.2.2).dictionary

pub returns-clause-counted : goal.returns-clause-counted
returns-clause-counted c counts entered replayed numbered counted =
    subst (IsDictionaryOf c.args.kinds replayed) (sym c.new.ensures)
    (gathered c.kinds_stay.ensures.canonical c.kinds_stay.ensures.around c.args.kinds replayed c.args.games c.args.moves counts
    c.args.entries.items c.has_diamonds.result entered c.requires.shapes c.requires.rises
    c.has_diamonds.ensures numbered counted)

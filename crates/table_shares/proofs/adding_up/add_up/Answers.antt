use Rattle.std.proofs.Common.{sym, subst}
use Rattle.table_shares.proofs.Common.{IsGathered}
use Rattle.table_shares.proofs.Ordered.{is_gathered}
use Rattle.table_shares.proofs.adding_up.add_up.Goals as goal

pub new-requires : goal.new-requires
new-requires g c =
    (is_gathered c.kinds_stay.ensures.canonical c.kinds_stay.ensures.around c.args.kinds c.args.games c.args.shares.now c.args.listed.items c.put_in_order-entries.result.items
    c.requires.entries c.put_in_order-entries.ensures.same c.put_in_order-entries.ensures.sorted c.in_ok-moves.moves c.has_diamonds.result
    c.in_ok-moves.ensures.shares c.requires.kinds c.requires.within c.requires.covers c.in_ok-moves.ensures.ok c.has_diamonds.ensures).dictionary

pub returns-clause-ok : goal.returns-clause-ok
returns-clause-ok g c =
    subst (IsGathered c.args.kinds c.args.games c.args.shares.now) (sym c.new.ensures)
    (is_gathered c.kinds_stay.ensures.canonical c.kinds_stay.ensures.around c.args.kinds c.args.games c.args.shares.now c.args.listed.items c.put_in_order-entries.result.items
    c.requires.entries c.put_in_order-entries.ensures.same c.put_in_order-entries.ensures.sorted c.in_ok-moves.moves c.has_diamonds.result
    c.in_ok-moves.ensures.shares c.requires.kinds c.requires.within c.requires.covers c.in_ok-moves.ensures.ok c.has_diamonds.ensures)

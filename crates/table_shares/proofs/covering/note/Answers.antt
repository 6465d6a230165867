use Rattle.std.proofs.Common.{◌≡◌, Some, false, refl, sym, ◌∙◌}
use Rattle.table_shares.proofs.Common.{get_or_default, earlier}
use Rattle.table_shares.proofs.Covered.{noted_new, noted_again}
use Rattle.table_shares.proofs.covering.note.Goals as goal
use Rattle.table_shares.proofs.covering.note.Goals.{in-None, in-Some}

pub returns-then-not-index-clause-noted : goal.returns-then-not-index-clause-noted
returns-then-not-index-clause-noted c list h =
    let read = c.index.ensures ∙ get_or_default c.args.seen.now.games.items c.args.game c.index.result.now false c.requires in
    noted_new list c.args.game c.args.seen.now c.args.seen.now.games.items _ c.requires (sym read ∙ c.if-not-index.true) refl refl h

pub returns-clause-noted : goal.returns-clause-noted
returns-clause-noted c list h =
    let read = c.index.ensures ∙ get_or_default c.args.seen.now.games.items c.args.game c.index.result.now false c.requires in
    let twice : c.match-seen.seen ≡ earlier c.args.seen.now.twice (Some c.args.game) = elim c.match-seen.branch [
      | in-None w ↦ rw w.in-None.is w.seen-is
      | in-Some w ↦ rw (w.in-Some.is, ← w.min.ensures) w.seen-is
    ] in
    noted_again list c.args.game c.args.seen.now _ c.requires (sym read ∙ c.if-not-index.false) refl twice h

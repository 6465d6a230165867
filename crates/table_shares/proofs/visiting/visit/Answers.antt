use Rattle.std.proofs.Common.{sym, ◌∙◌}
use Rattle.table_shares.proofs.Common.{all_rows}
use Rattle.table_shares.proofs.Visits.{stranger_found, visited_more, asks_through, asks_seen}
use Rattle.table_shares.proofs.visiting.visit.Goals as goal

pub returns-in-Some-clause-fault : goal.returns-in-Some-clause-fault
returns-in-Some-clause-fault g c h =
    rw c.stranger.ensures (stranger_found h c.word_at.ensures.later c.in-Some.held c.bits_of-found.result c.word_of.result c.sums_at-sums.result.stranger
    (c.bits_of-found.ensures.bits ∙ c.word_at.ensures.key) c.word_of.ensures c.in-Some.is c.sums_at-sums.ensures.stranger)

pub returns-clause-ok : goal.returns-clause-ok
returns-clause-ok g c first h =
    visited_more h c.word_at.ensures.later c.bits_of-found.result (rw c.bits_of-found.ensures.bits c.word_at.ensures.told)
    (sym c.sums_at-sums.ensures.stranger ∙ c.in_default.is) c.compare.ensures.later.later.keeps (c.compare.ensures.agree (all_rows c.args.shares.now) first c.sums_at-sums.ensures.first)

pub returns-clause-later : goal.returns-clause-later
returns-clause-later g c = asks_through (asks_seen c.word_at.ensures.later) c.compare.ensures.later

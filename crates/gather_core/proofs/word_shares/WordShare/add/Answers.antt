use Rattle.std.proofs.Common.{◌≡◌, List, ap, subst, ◌∙◌, arith}
use Rattle.go_board.specs.Extent.{IsExtent}
use Rattle.range_core.specs.Totals.{together, total_of, all_of}
use Rattle.gather_core.proofs.Common.{Meeting}
use Rattle.gather_core.specs.Inner.Met.{met_entries}
use Rattle.gather_core.proofs.Added.{share_with}
use Rattle.gather_core.proofs.WordRows.{words_added}
use Rattle.gather_core.proofs.word_shares.WordShare.add.Goals as goal

pub returns-clause-added : goal.returns-clause-added
returns-clause-added c =
    let old = c.self.inside in
    let game = c.args.game in
    let met = c.walk.new.self.meetings in
    let extent = subst IsExtent c.size.ensures c.columns.ensures.size in
    let wide : c.from.result ≡ c.in_ok-moves.moves = omega arith in
    rw (← c.self.view_is, c.walk.ensures.kinds, c.in_ok-push.ensures.items, wide)
    (words_added old.worker old.walk.kinds old.games.items old.moves (all_of old.lists) (all_of c.append_all.new.lists) c.args.game_record.now game
    c.in_ok-moves.moves met extent c.in_ok-moves.ensures.walked c.in_ok-moves.ensures.among
    (λ shape. c.in_ok-append_all.ensures shape ∙ ap (λ (ms : List Meeting). together (total_of shape (all_of old.lists)) (total_of shape (met_entries game ms))) c.meetings.ensures))

pub returns-clause-share : goal.returns-clause-share
returns-clause-share c = share_with (returns-clause-added c) c.requires.share

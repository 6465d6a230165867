use Rattle.std.proofs.Common.{ap, ◌∙◌}
use Rattle.range_core.specs.Totals.{together, total_of, all_of}
use Rattle.gather_core.specs.Inner.Met.{met_entry}
use Rattle.gather_core.proofs.WordRows.{met_total}
use Rattle.gather_core.proofs.word_shares.append_all.Goals as goal

pub loop-meeting-preserved : goal.loop-meeting-preserved
loop-meeting-preserved c shape =
    let game = c.args.game in
    let m = c.meeting-item.result in
    c.in_ok-append_one.ensures game c.new-first.ensures shape
    ∙ ap (λ t. together t (total_of shape (met_entry game m))) (c.loop-meeting.invariant shape)
    ∙ met_total shape game (total_of shape (all_of c.args.lists.now)) c.args.meetings.now c.loop-meeting.meeting-index m c.loop-meeting-test.true c.meeting-item.is

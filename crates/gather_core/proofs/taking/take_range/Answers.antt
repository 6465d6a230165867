use Rattle.std.proofs.Common.{◌≡◌, List, [], length, ap, ◌∙◌}
use Rattle.std.proofs.lemmas.List.Elements.{All-head}
use Rattle.gather_core.proofs.Common.{Entry}
use Rattle.range_core.specs.Totals.{total_of}
use Rattle.range_core.specs.Ranges.{AreDealtBy}
use Rattle.range_core.specs.Words.{word_ranges, range_of_word}
use Rattle.gather_core.proofs.Taken.{one_taken}
use Rattle.gather_core.proofs.taking.take_range.Goals as goal

pub deal-requires-clause-len : goal.deal-requires-clause-len
deal-requires-clause-len g c =
    All-head (λ (words : List (List Entry)). length words ≡ word_ranges) c.args.work.now.words [] c.requires.taken.1.long

pub deal-requires-clause-dealt : goal.deal-requires-clause-dealt
deal-requires-clause-dealt g c =
    All-head (AreDealtBy (range_of_word c.args.numbering.now.cuts.now)) c.args.work.now.words [] c.requires.taken.1.dealt

pub returns-clause-taken : goal.returns-clause-taken
returns-clause-taken g c ranges had =
    let numbering = c.args.numbering.now in
    let entries = c.as_slice-entries.result.now in
    let known = c.number_more-work.new.pass in
    let all = c.number_more-work.result in
    let more = c.number_more-work.ensures in
    one_taken numbering ranges c.args.range entries c.args.pass.now known c.args.work.now.numbered all c.args.work.now.words c.deal.new.self
    had more.pass more.keeps more.before
    more.numbered
    c.in_ok-deal.ensures.len c.in_ok-deal.ensures.dealt c.in_ok-deal.ensures.totals
    (λ shape. ap (total_of shape) c.as_slice-entries.ensures.value ∙ c.in_ok-sum_to.ensures.totals shape)

use Rattle.std.proofs.Common.{◌<◌, List, length, get_or, refl, ap, ◌∙◌, arith}
use Rattle.tally_core.specs.declared.meetings.Meeting.{Meeting}
use Rattle.tally_core.specs.Walk.{shapes_of, played_among}
use Rattle.tally_core.proofs.Lasting.{shapes-set, played-inside}
use Rattle.tally_core.proofs.meetings.Meetings.add_played.Goals as goal

pub overflow_add-meeting : goal.overflow_add-meeting
overflow_add-meeting c =
    let list = c.self.inside.list.items in
    let old = c.index_mut-meeting.result.now in
    let inside : c.args.at < length (shapes_of list) = omega (arith, c.requires.inside, ap (λ (m : List Meeting). length (shapes_of m)) c.self.view_is) in
    let within = played-inside list c.args.at old inside c.index_mut-meeting.ensures.value in
    omega (arith, within, c.requires.few, ap (λ (m : List Meeting). played_among m (get_or (shapes_of m) c.args.at 0)) c.self.view_is)

pub returns-clause-shapes : goal.returns-clause-shapes
returns-clause-shapes c =
    let list = c.self.inside.list.items in
    let old = c.index_mut-meeting.result.now in
    let inside : c.args.at < length (shapes_of list) = omega (arith, c.requires.inside, ap (λ (m : List Meeting). length (shapes_of m)) c.self.view_is) in
    shapes-set list c.args.at old _ inside c.index_mut-meeting.ensures.value refl ∙ ap shapes_of c.self.view_is

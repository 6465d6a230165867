use Rattle.std.proofs.Common.{◌∙◌, ◌++◌, ap, map, take, drop, set}
use Rattle.shape_keys.specs.Entries.{said}
use Rattle.shape_keys.proofs.Rooms.{put_one}
use Rattle.shape_keys.proofs.reading.put_entries.Goals as goal

pub loop-place-preserved : goal.loop-place-preserved
loop-place-preserved c =
    let place = c.loop-place.place in
    let es = c.args.entries.now in
    let old = c.args.room.now in
    let entry = c.index-entries-place.result in
    let one = put_one es old place entry c.loop-place-test.true c.requires in
    let is = c.said.ensures ∙ ap said c.index-entries-place.is in
    ap (λ room. set room place c.said.result) c.loop-place.invariant ∙ ap (λ e. set (map said (take place es) ++ drop place old) place e) is ∙ one

use Rattle.std.proofs.Common.{◌≡◌, ◌-◌, length, arith}
use Rattle.stream_core.proofs.Held.{behind_size, behind_front, behind_taken}
use Rattle.stream_core.proofs.blocks.read_behind.Goals as goal

pub returns-clause-size : goal.returns-clause-size
returns-clause-size g c =
    let room : length c.read_some.new.room ≡ c.args.bytes.now.len - c.args.end = omega (arith, c.read_some.auto.room, c.deref_mut.ensures.len) in
    behind_size c.deref_mut.result.now c.args.bytes.now.items c.read_some.new.room _ _ c.args.end c.args.bytes.now.len c.deref_mut.ensures.value c.deref_mut.ensures.len (omega arith) room

pub returns-clause-taken : goal.returns-clause-taken
returns-clause-taken g c =
    let room : length c.read_some.new.room ≡ c.args.bytes.now.len - c.args.end = omega (arith, c.read_some.auto.room, c.deref_mut.ensures.len) in
    behind_taken (g.R.Read.remaining c.args.reader.now) (g.R.Read.remaining c.read_some.new.reader) c.read_some.result c.deref_mut.result.now c.args.bytes.now.items c.read_some.new.room _ _ c.args.end c.args.bytes.now.len c.deref_mut.ensures.value c.deref_mut.ensures.len (omega arith) room c.read_some.ensures.taken

pub returns-clause-front : goal.returns-clause-front
returns-clause-front g c =
    let room : length c.read_some.new.room ≡ c.args.bytes.now.len - c.args.end = omega (arith, c.read_some.auto.room, c.deref_mut.ensures.len) in
    behind_front c.deref_mut.result.now c.args.bytes.now.items c.read_some.new.room _ _ c.args.end c.args.bytes.now.len c.deref_mut.ensures.value c.deref_mut.ensures.len (omega arith) room

use Rattle.std.proofs.Common.{◌≢◌, ◌+◌, ◌<◌, length, arith}
use Rattle.std.specs.Prelude.{slice_range, slice_index}
use Rattle.std.proofs.lemmas.Slice.{between_to_end}
use Rattle.sgf_core.specs.Bytes.{semicolon}
use Rattle.sgf_core.proofs.Begins.{first_sign, none_left, begins_here, none_up_to}
use Rattle.sgf_core.proofs.reader.next_tree_start.Goals as goal
use Rattle.sgf_core.proofs.reader.next_tree_start.Goals.{else-place-bytes-via-then-place-bytes+else-bytes-place-eq59, else-place-bytes-via-else-place-bytes}

pub returns-then-bytes-place-eq59 : goal.returns-then-bytes-place-eq59
returns-then-bytes-place-eq59 c =
    let bytes = c.args.bytes.now in
    let place = c.loop-offset.place in
    let sign = first_sign bytes (slice_range bytes place (length bytes)) c.args.from place (between_to_end bytes place (length bytes) (omega arith)) c.loop-offset.invariant.none c.in-Some.offset c.in-Some.ensures in
    let next = c.white_end-place in
    record {
      after = omega (arith, c.loop-offset.invariant.after);
      begins = begins_here bytes (place + c.in-Some.offset) next.result sign.1 sign.0 next.ensures.within.0 next.ensures.within.1 next.ensures.white c.if-place-bytes.true c.if-bytes-place-eq59.true;
      first = sign.2;
    }

pub loop-offset-preserved : goal.loop-offset-preserved
loop-offset-preserved c =
    let bytes = c.args.bytes.now in
    let place = c.loop-offset.place in
    let sign = first_sign bytes (slice_range bytes place (length bytes)) c.args.from place (between_to_end bytes place (length bytes) (omega arith)) c.loop-offset.invariant.none c.in-Some.offset c.in-Some.ensures in
    let next = c.white_end-place in
    let other : next.result < length bytes → slice_index bytes next.result ≢ semicolon =
    elim c.else-place-bytes.branch [
      | else-place-bytes-via-then-place-bytes+else-bytes-place-eq59 w ↦ λ _. w.if-bytes-place-eq59.false
      | else-place-bytes-via-else-place-bytes w ↦ λ within. absurd (omega arith)
    ] in
    record {
      after = omega (arith, c.loop-offset.invariant.after, next.ensures.within.0);
      within = next.ensures.within.1;
      none = none_up_to bytes (place + c.in-Some.offset) next.result sign.1 sign.0 next.ensures.within.0 next.ensures.within.1 next.ensures.white c.args.from sign.2 (λ within. (next.ensures.ended within, other within));
    }

pub returns : goal.returns
returns c =
    let bytes = c.args.bytes.now in
    let place = c.loop-offset.place in
    none_left bytes (slice_range bytes place (length bytes)) c.args.from place (between_to_end bytes place (length bytes) (omega arith)) c.loop-offset.invariant.none c.in_default.ensures

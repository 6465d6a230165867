use Rattle.std.proofs.Common.{◌≡◌, ◌<◌, subst, sym, ◌∙◌}
use Rattle.std.proofs.Math.ListN.{length-set}
use Rattle.std.proofs.Math.Nat.{le_antisymm}
use Rattle.shape_dict.proofs.Hexadecimal.{digit_written, all_written}
use Rattle.shape_dict.proofs.writing.word_digits.Goals as goal

pub loop-place-preserved : goal.loop-place-preserved
loop-place-preserved c = record {
  room = length-set c.loop-place.digits c.loop-place.place c.hexadecimal_digit.result ∙ c.loop-place.invariant.room;
  written = digit_written c.args.number c.loop-place.place c.hexadecimal_digit.result c.loop-place.digits c.loop-place-test.true (subst (λ n. c.loop-place.place < n) (sym c.loop-place.invariant.room) c.loop-place-test.true) c.loop-place.invariant.written c.hexadecimal_digit.ensures;
}

pub returns : goal.returns
returns c =
    let all : c.loop-place.place ≡ 13 = le_antisymm c.loop-place.auto.place-end c.loop-place-test.false in
    all_written c.args.number c.loop-place.place c.loop-place.digits all c.loop-place.invariant.room c.loop-place.invariant.written

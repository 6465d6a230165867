use Rattle.std.proofs.Common.{sym, ◌∙◌, arith}
use Rattle.sgf_core.specs.Bytes.{is_letter}
use Rattle.sgf_core.proofs.Slices.{all-more}
use Rattle.sgf_core.proofs.scan.letters_end.Goals as goal

pub loop-place-preserved : goal.loop-place-preserved
loop-place-preserved c = record {
  after = omega arith;
  within = omega arith;
  passed = all-more is_letter c.args.bytes.now c.args.from c.loop-place.place c.loop-place.invariant.after c.loop-place-test.true c.loop-place.invariant.passed (sym c.is_letter.ensures ∙ c.if-is_letter.true);
}

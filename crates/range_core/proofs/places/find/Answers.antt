use Rattle.std.proofs.Common.{◌<◌, ap, sym, ◌∙◌, refl, length, subst, arith}
use Rattle.range_core.specs.Rows.{next_place, IsOther}
use Rattle.range_core.proofs.Ways.{no_place, other_at, passed_more, read_at, way-next}
use Rattle.range_core.proofs.places.find.Goals as goal

pub loop-preserved : goal.loop-preserved
loop-preserved c =
    let rows = c.args.rows.now in
    let row = c.index-rows-place.result in
    record {
      places = refl;
      place = c.next-place.ensures.value ∙ ap (next_place (length rows)) c.loop.invariant.place ∙ sym (way-next c.args.factor (length rows) c.args.shape c.loop.counter);
      within = c.next-place.ensures.within;
      passed = passed_more c.args.factor rows c.args.shape c.loop.counter c.loop.invariant.passed (subst (IsOther rows c.args.shape) c.loop.invariant.place (other_at rows c.args.shape c.loop.place row c.eq.result c.is_free.result (read_at rows c.loop.place row c.index-rows-place.is c.loop.invariant.within) c.eq.ensures c.if-eq.false c.is_free.ensures c.if-is_free.false));
    }

pub returns-clause-none : goal.returns-clause-none
returns-clause-none c =
    let rows = c.args.rows.now in
    no_place c.args.factor rows c.args.shape (subst (λ place. place < length rows) c.home-place.ensures.value c.home-place.ensures.within)
    (λ step low. c.loop.invariant.passed step (omega (arith, low, c.loop-test.false)))

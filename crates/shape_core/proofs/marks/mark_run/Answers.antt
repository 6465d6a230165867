use Rattle.std.proofs.Common.{⊎_elim, inl, inr, ◌≡◌, arith}
use Rattle.std.specs.Int.{bit_at}
use Rattle.std.proofs.lemmas.Nat.{pow_below, pow_pos}
use Rattle.std.proofs.Math.Pow.{pow_mono}
use Rattle.shape_core.specs.Field.{IsMarked}
use Rattle.shape_core.proofs.Marking.{run, run_in, run_only, run_narrowed, AreMarks-marked, marked_there, marked_stay, marked_only}
use Rattle.shape_core.proofs.marks.mark_run.Goals as goal

pub overflow_sub-changed : goal.overflow_sub-changed
overflow_sub-changed c =
    omega (arith, pow_mono c.requires.columns, pow_below c.args.end 64 c.requires.few, pow_below c.args.left 64 (omega (arith, c.requires.columns, c.requires.few)))

pub returns-clause-marks : goal.returns-clause-marks
returns-clause-marks c = λ size few are.
    rw (c.from.ensures, run_narrowed c.args.left c.args.end c.requires.columns c.requires.few)
    (AreMarks-marked size c.args.changed.now c.args.row (run c.args.left c.args.end) are c.requires.row
    (omega (arith, pow_pos c.args.left, pow_pos c.args.end, pow_mono few)))

pub returns-clause-stay : goal.returns-clause-stay
returns-clause-stay c = λ q was.
    rw (c.from.ensures, run_narrowed c.args.left c.args.end c.requires.columns c.requires.few)
    (marked_stay c.args.changed.now c.args.row (run c.args.left c.args.end) q c.requires.row was)

pub returns-clause-there : goal.returns-clause-there
returns-clause-there c = λ q within.
    rw (c.from.ensures, run_narrowed c.args.left c.args.end c.requires.columns c.requires.few)
    (marked_there c.args.changed.now c.args.row (run c.args.left c.args.end) q c.requires.row within.0 (run_in c.args.left c.args.end q.column within.1 within.2))

pub returns-clause-only : goal.returns-clause-only
returns-clause-only c =
    rw (c.from.ensures, run_narrowed c.args.left c.args.end c.requires.columns c.requires.few)
    (λ q is. ⊎_elim
    (λ (was : IsMarked c.args.changed.now q). inl was)
    (λ (new : (q.row ≡ c.args.row) × (bit_at (run c.args.left c.args.end) q.column ≡ 1)).
    let columns = run_only c.args.left c.args.end q.column c.requires.columns new.1 in
    inr (new.0, columns.0, columns.1))
    (marked_only c.args.changed.now c.args.row (run c.args.left c.args.end) q c.requires.row is))

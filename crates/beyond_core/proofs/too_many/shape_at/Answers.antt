use Rattle.std.proofs.Common.{◌≡◌, nat_eq, false, sym, ◌∙◌, arith}
use Rattle.std.specs.HashSet.{contains, Updates}
use Rattle.beyond_core.proofs.Sifted.{kept_later, kept_other}
use Rattle.beyond_core.proofs.too_many.shape_at.Goals as goal
use Rattle.beyond_core.proofs.too_many.shape_at.Goals.{then-remove+else-left-eq0, else-remove}

pub loop-meeting-preserved : goal.loop-meeting-preserved
loop-meeting-preserved c =
    let words = c.loop-meeting.words in
    let after = c.remove.new.self in
    let meetings = c.args.meetings.now in
    let i = c.loop-meeting.meeting-index in
    let one = c.meeting-item.result in
    let left = c.loop-meeting.left in
    let so_far = c.loop-meeting.invariant in
    let taken : Updates nat_eq words after one.shape false = rw (c.bits.ensures.value, c.word.ensures.value) at c.remove.ensures.updates in
    let test : c.remove.result ≡ contains nat_eq words one.shape = rw (c.bits.ensures.value, c.word.ensures.value) at c.remove.ensures.test in
    elim c.if-remove.branch [
      | then-remove+else-left-eq0 w ↦
          let left_is = w.left-is in
          let not_last = w.if-left-eq0.false in
          sym (kept_later words after meetings i one c.meeting-item.is c.loop-meeting-test.true taken (sym test ∙ w.if-remove.true) left c.if-remove.left (omega (arith, left_is, not_last))) ∙ so_far
      | else-remove w ↦
          let left_is = w.left-is in
          rw left_is (sym (kept_other words after meetings i one c.meeting-item.is c.loop-meeting-test.true taken (sym test ∙ w.if-remove.false) left) ∙ so_far)
    ]

use Rattle.std.proofs.Common.{◌≡◌, [], subst, ◌∙◌, arith}
use Rattle.table_shares.proofs.Common.{later_through, all_rows}
use Rattle.table_shares.proofs.Confirmed.{AreConfirmed, confirmed_more, stopped, beyond}
use Rattle.table_shares.proofs.confirming.confirm_full.Goals as goal

pub returns-then-not-agrees-clause-later : goal.returns-then-not-agrees-clause-later
returns-then-not-agrees-clause-later g c =
    later_through c.args.table.now.slots c.args.pass.now c.loop-number.pass c.word_at.new.pass [] [] c.loop-number.invariant.later c.word_at.ensures.later

pub returns-then-not-agrees-clause-confirmed : goal.returns-then-not-agrees-clause-confirmed
returns-then-not-agrees-clause-confirmed g c =
    let least = rw c.bits.ensures.value at c.least_with-least.ensures in
    rw (c.stranger_at.ensures, c.word_of.ensures)
    (stopped c.loop-number.invariant.confirmed c.bits_of-found.result c.least_with-least.result c.word_at.ensures.later.keeps
    (rw c.bits_of-found.ensures.bits c.word_at.ensures.told) (c.bits_of-found.ensures.bits ∙ c.word_at.ensures.key) least c.if-not-agrees.ensures.no)

pub loop-number-preserved : goal.loop-number-preserved
loop-number-preserved g c =
    let before = c.loop-number.invariant in
    let least = rw c.bits.ensures.value at c.least_with-least.ensures in
    record {
      pass = c.word_at.ensures.pass;
      later = later_through c.args.table.now.slots c.args.pass.now c.loop-number.pass c.word_at.new.pass [] [] before.later c.word_at.ensures.later;
      confirmed = confirmed_more before.confirmed c.bits_of-found.result c.least_with-least.result c.word_at.ensures.later.keeps
          (rw c.bits_of-found.ensures.bits c.word_at.ensures.told) c.if-not-agrees.ensures.yes least;
    }

pub returns-in-Some-clause-confirmed : goal.returns-in-Some-clause-confirmed
returns-in-Some-clause-confirmed g c =
    let n = c.args.table.now.slots in
    let rows = all_rows c.args.shares.now in
    let seen = c.loop-number.pass.seen in
    let last : c.loop-number.number ≡ n = omega arith in
    let least = rw (c.bits.ensures.value, c.in-Some.is) at c.least_with-least.ensures in
    rw c.stranger_at-in-Some.ensures (beyond n seen rows c.args.word c.in-Some.number least (subst (AreConfirmed n seen rows c.args.word) last c.loop-number.invariant.confirmed))

use Rattle.std.proofs.Common.{◌≡◌, ◌⊎◌, get_or, arith, below_more}
use Rattle.table_shares.proofs.Common.{get_or_default, answer_at, meeting_at, IsBlankOf}
use Rattle.probe_core.specs.declared.calls.Answer.TheVariants as answer
use Rattle.table_shares.proofs.Made.{gained_more, rowed_later}
use Rattle.table_shares.proofs.workings.make_all.Goals as goal
use Rattle.table_shares.proofs.workings.make_all.Goals.{After-make}

-- what was answered and met at this place, as it was read
found-is : (c : After-make) → get_or c.args.answers.now c.loop-i.i (answer.Number 0) ≡ answer_at c.args.answers.now c.loop-i.i
found-is c = get_or_default c.args.answers.now c.loop-i.i (answer.Number 0) answer.Absent c.loop-i-test.true

met-is : (c : After-make) → get_or c.args.meetings.now c.loop-i.i c.index-meetings-i.result ≡ meeting_at c.args.meetings.now c.loop-i.i
met-is c = get_or_default c.args.meetings.now c.loop-i.i c.index-meetings-i.result (record { shape = 0; there = 0; played = 0 })
    (omega (arith, c.loop-i-test.true, c.requires.length))

grown-of : (c : After-make) → (c.make.new.self ≡ c.loop-i.rows)
    ⊎ IsBlankOf (answer_at c.args.answers.now c.loop-i.i) (meeting_at c.args.meetings.now c.loop-i.i).shape c.loop-i.rows c.make.new.self
grown-of c = rw (found-is c, met-is c) at c.make.ensures.grown

pub returns-in-Err-clause-gained : goal.returns-in-Err-clause-gained
returns-in-Err-clause-gained c =
    gained_more c.loop-i.invariant.gained c.make.new.self c.loop-i.i c.loop-i-test.true
    (grown-of (goal.at.returns-in-Err-clause-gained c).After-make)

pub loop-i-preserved : goal.loop-i-preserved
loop-i-preserved c =
    let before = (goal.at.loop-i-preserved c).After-make in
    let grown = grown-of before in
    record {
      gained = gained_more c.loop-i.invariant.gained c.make.new.self c.loop-i.i c.loop-i-test.true grown;
      made = below_more _ _
          (λ k low. rowed_later _ _ c.loop-i.rows c.make.new.self grown _ _ (c.loop-i.invariant.made k low))
          (rw (found-is before, met-is before) at c.in_default.ensures.rowed);
    }

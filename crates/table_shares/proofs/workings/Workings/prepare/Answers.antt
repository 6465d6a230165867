use Rattle.std.proofs.Common.{◌≡◌, ◌<◌, length, ap, sym, ◌∙◌, ℕ, arith}
use Rattle.table_shares.proofs.Common.{err_from_is_err_and, get_or_default, length-map, Answer, Meeting, meeting_at, answer_at, EntersOnly, IsEntryOf, IsRowed, IsRowedAfter}
use Rattle.tally_core.specs.Walk.{shapes_of}
use Rattle.gather_core.proofs.Calls.{calls_self}
use Rattle.table_shares.proofs.Made.{AreAnswered, fresh_of, making_fault, below_of, full_of, entries_of, unrowed, all_rowed}
use Rattle.table_shares.proofs.workings.Workings.prepare.Goals as goal
use Rattle.table_shares.proofs.workings.Workings.prepare.Goals.{After-slots}

-- the keys are those of the meetings
keys-are : (g : _) (c : After-slots g) → c.as_slice.result.now ≡ shapes_of c.meetings-meetings.result.now
keys-are g c = c.as_slice.ensures.value ∙ c.in_ok-list_keys.ensures.keys

-- the meetings that the walk listed were answered
answered-of : (g : _) (c : After-slots g) →
    AreAnswered c.args.table.now.slots c.enter_keys.new.pass.seen c.args.self.now.walk.kinds c.args.game_record.now
    c.meetings-meetings.result.now c.as_slice-answers.result.now c.in_ok-moves.moves
answered-of g c = record {
  walked = rw c.meetings-meetings.ensures c.in_ok-moves.ensures.walked;
  long = ap length c.as_slice-answers.ensures.value ∙ c.in_ok-enter_keys.ensures.length ∙ ap length (keys-are g c)
      ∙ length-map c.meetings-meetings.result.now (λ (m : Meeting). m.shape);
  told = rw (c.as_slice-answers.ensures.value, ← keys-are g c) c.in_ok-enter_keys.ensures.told;
}

-- the calls entered these meetings with these answers
entered-of : (g : _) (c : After-slots g) (rowed : ℕ → Answer → Type 0) →
    ((i : ℕ) → i < length c.as_slice-answers.result.now →
    rowed (meeting_at c.meetings-meetings.result.now i).shape (answer_at c.as_slice-answers.result.now i)) →
    EntersOnly c.args.table.now.slots (IsEntryOf c.args.self.now.walk.kinds c.args.game_record.now rowed) c.args.pass.now
    c.enter_keys.new.pass
entered-of g c rowed =
    entries_of (answered-of g c) rowed (rw (c.as_slice-answers.ensures.value, ← keys-are g c) c.in_ok-enter_keys.ensures.made)

pub returns-in_err-moves-clause-enters : goal.returns-in_err-moves-clause-enters
returns-in_err-moves-clause-enters g c =
    let p = err_from_is_err_and c.from_residual.result c.from_residual.ensures.1 in
    rw p.1 (calls_self c.args.table.now.slots _ (λ _ _. ⊥) c.args.pass.now)

pub returns-in_err-list_keys-clause-enters : goal.returns-in_err-list_keys-clause-enters
returns-in_err-list_keys-clause-enters g c =
    let p = err_from_is_err_and c.from_residual-in_err-list_keys.result c.from_residual-in_err-list_keys.ensures.1 in
    rw p.1 (calls_self c.args.table.now.slots _ (λ _ _. ⊥) c.args.pass.now)

pub returns-in_err-enter_keys-clause-enters : goal.returns-in_err-enter_keys-clause-enters
returns-in_err-enter_keys-clause-enters g c =
    let p = err_from_is_err_and c.from_residual-in_err-enter_keys.result c.from_residual-in_err-enter_keys.ensures.1 in
    rw (p.1, c.in_err-enter_keys.ensures.same) (calls_self c.args.table.now.slots _ (λ _ _. ⊥) c.args.pass.now)

pub make_all-requires-clause-numbers : goal.make_all-requires-clause-numbers
make_all-requires-clause-numbers g c =
    below_of (answered-of g (goal.at.make_all-requires-clause-numbers g c).After-slots)
    (omega (arith, c.slots.ensures, c.capacity.ensures))

pub returns-in_err-make_all-clause-fresh : goal.returns-in_err-make_all-clause-fresh
returns-in_err-make_all-clause-fresh g c =
    fresh_of (answered-of g (goal.at.returns-in_err-make_all-clause-fresh g c).After-slots) c.make_all.ensures.gained

pub returns-in_err-make_all-clause-fault : goal.returns-in_err-make_all-clause-fault
returns-in_err-make_all-clause-fault g c =
    let answered = answered-of g (goal.at.returns-in_err-make_all-clause-fault g c).After-slots in
    let p = err_from_is_err_and c.from_residual-in_err-make_all.result c.from_residual-in_err-make_all.ensures.1 in
    rw (p.1, p.2) (making_fault answered c.args.game c.make_all.new.rows c.in_err-make_all.field-0.0 c.in_err-make_all.ensures.fault)

pub returns-in_err-make_all-clause-enters : goal.returns-in_err-make_all-clause-enters
returns-in_err-make_all-clause-enters g c =
    let rows = c.make_all.new.rows in
    let one = c.in_err-make_all.field-0.0 in
    let fails = c.in_err-make_all.ensures.fault in
    let before = (goal.at.returns-in_err-make_all-clause-enters g c).After-slots in
    let p = err_from_is_err_and c.from_residual-in_err-make_all.result c.from_residual-in_err-make_all.ensures.1 in
    rw (p.1, p.2) (entered-of g before (IsRowedAfter one rows) (λ i low. unrowed _ _ rows one fails.2 _ _))

pub returns-in-Some-clause-fresh : goal.returns-in-Some-clause-fresh
returns-in-Some-clause-fresh g c =
    fresh_of (answered-of g (goal.at.returns-in-Some-clause-fresh g c).After-slots) c.make_all.ensures.gained

pub returns-in-Some-clause-fault : goal.returns-in-Some-clause-fault
returns-in-Some-clause-fault g c =
    let meetings = c.meetings-meetings.result.now in
    let place = c.in-Some.place in
    let refused = c.in-Some.ensures.some in
    let answered = answered-of g (goal.at.returns-in-Some-clause-fault g c).After-slots in
    let until = rw (sym c.as_slice-answers.ensures.value, ap length (keys-are g (goal.at.returns-in-Some-clause-fault g c).After-slots) ∙ length-map meetings (λ (m : Meeting). m.shape)) at c.in_ok-enter_keys.ensures.until in
    let met = get_or_default meetings place c.index-meetings-place.result
    (record { shape = 0; there = 0; played = 0 }) (omega (arith, refused.within, answered.long)) in
    rw (c.word.ensures.value, met) (full_of answered c.args.game place until c.in_ok-make_all.ensures.made refused)

pub returns-in-Some-clause-enters : goal.returns-in-Some-clause-enters
returns-in-Some-clause-enters g c =
    entered-of g (goal.at.returns-in-Some-clause-enters g c).After-slots (IsRowed c.make_all.new.rows) c.in_ok-make_all.ensures.made

pub returns-in-None-clause-rowed : goal.returns-in-None-clause-rowed
returns-in-None-clause-rowed g c =
    entered-of g (goal.at.returns-in-None-clause-rowed g c).After-slots (IsRowed c.make_all.new.rows) c.in_ok-make_all.ensures.made

pub returns-in-None-clause-fresh : goal.returns-in-None-clause-fresh
returns-in-None-clause-fresh g c =
    fresh_of (answered-of g (goal.at.returns-in-None-clause-fresh g c).After-slots) c.make_all.ensures.gained

pub returns-in-None-clause-ok : goal.returns-in-None-clause-ok
returns-in-None-clause-ok g c =
    let answered = answered-of g (goal.at.returns-in-None-clause-ok g c).After-slots in
    rw (← c.meetings-meetings.ensures, ← c.as_slice-answers.ensures.value) (record {
      walked = answered.walked;
      among = rw c.meetings-meetings.ensures c.in_ok-moves.ensures.among;
      told = answered.told;
      rowed = all_rowed answered.long c.in-None.ensures.none c.in_ok-make_all.ensures.made;
    })

use Rattle.std.proofs.Common.{rules, ◌≡◌, Some, None, refl, subst}
use Rattle.std.specs.List.{AllByRecursion}
use Rattle.go_record.specs.Actions.{Actions}
use Rattle.gather_core.specs.Adding.{IsAdded}
use Rattle.table_shares.specs.Adding.{HasGrown, IsKept, IsAddFault, IsMarked, IsRowed, IsRowedAfter, IsEntryOf, IsMarkOf}
use Rattle.table_shares.proofs.Standings.{stand_kept, no_stranger}
use Rattle.gather_core.specs.Entering.{IsCall, CallsOnly, EntersOnly}
use Rattle.harvest_core.specs.Working.{IsGame}
use Rattle.table_harvest.proofs.InTable.{in_table_kept, in_table_grown}
use Rattle.table_harvest.proofs.Additions.{worked_kept, worked_added, refusal_is, rows_kept, rows_added, calls_of_game, mark_of_game}
use Rattle.table_harvest.proofs.working.Worked.count.Goals as goal

pub returns-in-Err-clause-worked : goal.returns-in-Err-clause-worked
returns-in-Err-clause-worked g c kinds h above =
    let n = c.args.table.now.slots in
    let job = c.args.job.now in
    worked_kept job.bytes n c.add.new.pass.seen kinds job.game job.actions c.args.self.now.share c.add.new.self
    (record { at = job.at; end = job.end; is_of = c.record.ensures.game })
    (subst (λ (a : Actions). IsKept n c.add.new.pass.seen a c.args.self.now.share c.add.new.self) c.record.ensures.value c.in-Err.ensures.kept) h

pub returns-in_default-clause-worked : goal.returns-in_default-clause-worked
returns-in_default-clause-worked g c kinds h above =
    let n = c.args.table.now.slots in
    let job = c.args.job.now in
    let old = c.args.self.now.share in
    let new = c.add.new.self in
    worked_added job.bytes n c.add.new.pass.seen kinds job.game job.actions old new
    (record { at = job.at; end = job.end; is_of = c.record.ensures.game })
    (subst (λ k. IsAdded k job.actions old new) c.game-2.ensures.number
    (subst (λ (a : Actions). IsAdded c.game-2.result a old new) c.record.ensures.value c.in_default.ensures.added))
    (subst (λ (a : Actions). HasGrown n c.add.new.pass.seen a old new) c.record.ensures.value c.in_default.ensures.grown) h above

pub returns-in-Err-clause-refused : goal.returns-in-Err-clause-refused
returns-in-Err-clause-refused g c kinds h stood before =
    let n = c.args.table.now.slots in
    let job = c.args.job.now in
    let old = c.args.self.now.share in
    let new = c.add.new.self in
    let seen = c.add.new.pass.seen in
    let kept = subst (λ (a : Actions). IsKept n seen a old new) c.record.ensures.value c.in-Err.ensures.kept in
    refusal_is job.bytes n seen kinds job.game job.actions old new c.in-Err.fault
    (record { at = job.at; end = job.end; is_of = c.record.ensures.game }) h
    (λ number of_share of_table. no_stranger n seen job.game job.actions old new number of_share of_table
    (stand_kept n c.args.pass.now.seen seen job.actions old new c.in-Err.ensures.enters.later.keeps kept stood))
    (subst (λ k. IsAddFault n seen k job.actions old new c.in-Err.fault) c.game-2.ensures.number
    (subst (λ (a : Actions). IsAddFault n seen c.game-2.result a old new c.in-Err.fault) c.record.ensures.value c.in-Err.ensures.fault))

pub returns-in-Err-clause-rows : goal.returns-in-Err-clause-rows
returns-in-Err-clause-rows g c kinds same =
    let n = c.args.table.now.slots in
    let job = c.args.job.now in
    rows_kept job.bytes n c.add.new.pass.seen kinds job.game job.actions c.args.self.now.share c.add.new.self
    (record { at = job.at; end = job.end; is_of = c.record.ensures.game }) same
    (subst (λ (a : Actions). IsKept n c.add.new.pass.seen a c.args.self.now.share c.add.new.self) c.record.ensures.value c.in-Err.ensures.kept)

pub returns-in_default-clause-rows : goal.returns-in_default-clause-rows
returns-in_default-clause-rows g c kinds same =
    let n = c.args.table.now.slots in
    let job = c.args.job.now in
    rows_added job.bytes n c.add.new.pass.seen kinds job.game job.actions c.args.self.now.share c.add.new.self
    (record { at = job.at; end = job.end; is_of = c.record.ensures.game }) same
    (subst (λ (a : Actions). HasGrown n c.add.new.pass.seen a c.args.self.now.share c.add.new.self) c.record.ensures.value c.in_default.ensures.grown)

pub returns-in-Err-clause-later : goal.returns-in-Err-clause-later
returns-in-Err-clause-later g c kinds same =
    let n = c.args.table.now.slots in
    let job = c.args.job.now in
    let held = c.args.self.now.share.kinds in
    let found = c.in-Err.fault in
    calls_of_game n job.bytes held kinds job.game job.actions (IsRowedAfter found c.add.new.self.rows) (λ _ _. ⊥) c.args.pass.now c.add.new.pass
    (record { at = job.at; end = job.end; is_of = c.record.ensures.game }) same (λ number marked none. absurd none)
    (subst (λ (a : Actions). EntersOnly n (IsEntryOf held a (IsRowedAfter found c.add.new.self.rows)) c.args.pass.now c.add.new.pass) c.record.ensures.value c.in-Err.ensures.enters)

pub returns-in_default-clause-later : goal.returns-in_default-clause-later
returns-in_default-clause-later g c kinds same =
    let n = c.args.table.now.slots in
    let job = c.args.job.now in
    let held = c.args.self.now.share.kinds in
    let seen = c.add.new.pass.seen in
    let rows = c.add.new.self.rows in
    let is : IsGame job.bytes job.game job.actions = record { at = job.at; end = job.end; is_of = c.record.ensures.game } in
    calls_of_game n job.bytes held kinds job.game job.actions (IsRowed rows) (IsMarkOf n seen held job.actions rows job.game) c.args.pass.now c.add.new.pass
    is same (mark_of_game n seen job.bytes held kinds job.game job.actions rows is same)
    (subst (λ k. CallsOnly n (IsEntryOf held job.actions (IsRowed rows)) (IsMarkOf n seen held job.actions rows k) c.args.pass.now c.add.new.pass) c.game-2.ensures.number
    (subst (λ (a : Actions). CallsOnly n (IsEntryOf held a (IsRowed rows)) (IsMarkOf n seen held a rows c.game-2.result) c.args.pass.now c.add.new.pass) c.record.ensures.value c.in_default.ensures.calls))

pub returns-in-Err-clause-table : goal.returns-in-Err-clause-table
returns-in-Err-clause-table g c calls h =
    let n = c.args.table.now.slots in
    let job = c.args.job.now in
    let old = c.args.self.now in
    let new = c.add.new.self in
    let before = c.args.pass.now in
    let after = c.add.new.pass in
    let found = c.in-Err.fault in
    let entered = c.in-Err.ensures.enters in
    let kept = subst (λ (a : Actions). IsKept n after.seen a old.share new) c.record.ensures.value c.in-Err.ensures.kept in
    let why = subst (λ k. IsAddFault n after.seen k job.actions old.share new found) c.game-2.ensures.number
    (subst (λ (a : Actions). IsAddFault n after.seen c.game-2.result a old.share new found) c.record.ensures.value c.in-Err.ensures.fault) in
    let none : old.refused ≡ None = search rules in (
      entered.made,
      entered.later,
      in_table_kept n job.game job.actions before.seen after.seen calls entered.made old (record { share = new; refused = Some found }) found entered.later.keeps none refl kept why
          (subst (λ (a : Actions). AllByRecursion (IsCall (IsEntryOf old.share.kinds a (IsRowedAfter found new.rows)) (λ _ _. ⊥)) entered.made) c.record.ensures.value entered.only) h,
    )

pub returns-in_default-clause-table : goal.returns-in_default-clause-table
returns-in_default-clause-table g c calls h =
    let n = c.args.table.now.slots in
    let job = c.args.job.now in
    let old = c.args.self.now in
    let new = c.add.new.self in
    let before = c.args.pass.now in
    let after = c.add.new.pass in
    let done = c.in_default.ensures in
    let none : old.refused ≡ None = search rules in
    let grown = subst (λ (a : Actions). HasGrown n after.seen a old.share new) c.record.ensures.value done.grown in
    let marked = subst (λ k. IsMarked n after.seen k job.actions old.share new) c.game-2.ensures.number
    (subst (λ (a : Actions). IsMarked n after.seen c.game-2.result a old.share new) c.record.ensures.value done.marked) in
    let made = subst (λ k. AllByRecursion (IsCall (IsEntryOf old.share.kinds job.actions (IsRowed new.rows)) (IsMarkOf n after.seen old.share.kinds job.actions new.rows k)) done.calls.made) c.game-2.ensures.number
    (subst (λ (a : Actions). AllByRecursion (IsCall (IsEntryOf old.share.kinds a (IsRowed new.rows)) (IsMarkOf n after.seen old.share.kinds a new.rows c.game-2.result)) done.calls.made) c.record.ensures.value done.calls.only) in (
      done.calls.made,
      done.calls.later,
      in_table_grown n job.game job.actions before.seen after.seen calls done.calls.made old (record { share = new; refused = old.refused }) done.calls.later.keeps
          c.add.ensures.pass.legal none none grown marked made h,
    )

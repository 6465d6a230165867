-- What stays of the thread that reads while it puts jobs and counts.
use Rattle.std.proofs.Common.{◌≡◌, ℕ, ◌⊎◌, List, ap, sym, subst, ◌∙◌, ⊎_elim}
use Rattle.shape_core.specs.declared.words.Kinds.{Kinds}
use Rattle.slot_table.specs.Passes.{Numbers}
use Rattle.game_core.specs.Games.{WrittenGame}
use Rattle.job_core.specs.declared.knowledge.Knowledge.{Knowledge}
use Rattle.job_core.specs.declared.items.Item.TheVariants.{Job}
use Rattle.job_core.specs.Rule.{putting}
use Rattle.table_harvest.specs.declared.workers.Worker.{Worker}
use Rattle.table_harvest.specs.declared.working.Worked.{Worked}
use Rattle.table_harvest.specs.InTable.{IsInTableSince, GoesOnInTable}
use Rattle.table_harvest.specs.Working.{CallsIn}
use Rattle.table_harvest.proofs.CallsIn.{more_in_input}
use Rattle.table_harvest.proofs.InTable.{goes_on}

-- an endpoint that has put something, and nothing else of it has changed
abbrev pub HasPut : Knowledge → Knowledge → Type 0
HasPut before after = after ≡ record before { put = after.put }

-- a job was put, or came back
pub has_put : (job : WrittenGame) (before after : Knowledge) → (after ≡ putting before (Job job)) ⊎ (after ≡ before) → HasPut before after
has_put job before after offered = ⊎_elim
    (λ (put : after ≡ putting before (Job job)). put ∙ ap (λ (list : List ℕ). (let v : Knowledge = record before { put = list } in v)) (sym (ap (λ (v : Knowledge). v.put) put)))
    (λ (back : after ≡ before). back ∙ ap (λ (list : List ℕ). (let v : Knowledge = record before { put = list } in v)) (sym (ap (λ (v : Knowledge). v.put) back)))
    offered

-- the thread has put and called, and nothing else of it has changed
abbrev pub HasOffered : {O G : Type 0} → Worker O G → Worker O G → Type 0
HasOffered before after = after ≡ record before { endpoint = record before.endpoint { put = after.endpoint.put }; pass = after.pass }

pub offered_more : {O G : Type 0} (first before after : Worker O G) → HasOffered first before → after ≡ record before { endpoint = after.endpoint; pass = after.pass } → HasPut before.endpoint after.endpoint → HasOffered first after
offered_more {O = O} {G = G} first before after so_far step put =
    let endpoint : after.endpoint ≡ record first.endpoint { put = after.endpoint.put } =
    put ∙ ap (λ (w : Worker O G). (let v : Knowledge = record w.endpoint { put = after.endpoint.put } in v)) so_far in
    step
    ∙ ap (λ (w : Worker O G). (let x : Worker O G = record w { endpoint = after.endpoint; pass = after.pass } in x)) so_far
    ∙ ap (λ (v : Knowledge). (let x : Worker O G = record first { endpoint = v; pass = after.pass } in x)) endpoint

-- its calls since are of the input
pub offered_calls : {O G : Type 0} (bytes other : List ℕ) (kinds : Kinds) (first before after : Worker O G) → HasOffered first before → other ≡ bytes →
    CallsIn first.table.now.slots bytes kinds first.pass before.pass → CallsIn before.table.now.slots other kinds before.pass after.pass →
    CallsIn first.table.now.slots bytes kinds first.pass after.pass
offered_calls bytes other kinds first before after so_far same calls more =
    let n = first.table.now.slots in
    more_in_input n bytes kinds first.pass before.pass after.pass calls
    (subst (λ (bs : List ℕ). CallsIn n bs kinds before.pass after.pass) same
    (subst (λ (t : Numbers _). CallsIn t.slots other kinds before.pass after.pass) (ap (λ w. w.table.now) so_far) more))

-- and what it has counted by them stands in the table
pub offered_table : {O G : Type 0} (first before after : Worker O G) (old new : Worked) → HasOffered first before →
    IsInTableSince first.table.now.slots first.pass before.pass old → GoesOnInTable before.table.now.slots before.pass after.pass old new →
    IsInTableSince first.table.now.slots first.pass after.pass new
offered_table first before after old new so_far table more =
    goes_on first.table.now.slots first.pass before.pass after.pass old new table
    (subst (λ (t : Numbers _). GoesOnInTable t.slots before.pass after.pass old new) (ap (λ w. w.table.now) so_far) more)

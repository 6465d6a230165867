use Rattle.std.proofs.Common.{subst, List, ℕ, Ok, Result, option_map}
use Rattle.std.specs.Borrow.{Bor}
use Rattle.go_record.specs.declared.records.Kind.{Kind}
use Rattle.go_record.specs.declared.records.Kind.TheVariants as kind
use Rattle.go_record.specs.declared.faults.RecordFault.{RecordFault}
use Rattle.twins_core.specs.Runs.{met_of}
use Rattle.twins_core.specs.Inner.Reading.{MeetsAll}
use Rattle.twins_core.specs.Inner.Seats.{met_at}
use Rattle.twins_core.proofs.Meetings.{meets_one, meets_none}
use Rattle.twins_core.proofs.reading.meet_tree.Goals as goal

pub returns-in_ok-meet-in-Ok-Go-clause-meets : goal.returns-in_ok-meet-in-Ok-Go-clause-meets
returns-in_ok-meet-in-Ok-Go-clause-meets c = λ game marks before knows.
    let name = option_map (λ (n : Bor (List ℕ)). n.now) c.args.name in
    let is = rw c.in-Ok-Go.field-0-is at c.in-Ok-Go.ensures.reads game marks in
    let kept = c.meet.new.self in
    let text = c.args.text.now.items in
    let new = c.meet.new.text.items in
    let found = c.in-Ok-Go.game in
    let met = met_at found (record { number = c.args.number; from = c.at.result; to = c.end.result }) name in
    subst (λ (r : Result Kind RecordFault). MeetsAll kept before (met_of name r c.args.number c.args.tree.now.at c.args.tree.now.end) text new) is
    (subst (λ e. MeetsAll kept before (met_of name (Ok (kind.Go found)) c.args.number c.args.tree.now.at e) text new) c.end.ensures
    (subst (λ a. MeetsAll kept before (met_of name (Ok (kind.Go found)) c.args.number a c.end.result) text new) c.at.ensures
    (meets_one kept before met text new (c.in_ok-meet-in-Ok-Go.ensures before knows))))

pub returns-in-Ok-Other-clause-meets : goal.returns-in-Ok-Other-clause-meets
returns-in-Ok-Other-clause-meets c = λ game marks before knows.
    let name = option_map (λ (n : Bor (List ℕ)). n.now) c.args.name in
    let is = rw c.in-Ok-Other.field-0-is at c.in-Ok-Other.ensures.reads game marks in
    let kept = c.args.twins.now in
    let text = c.args.text.now.items in
    subst (λ (r : Result Kind RecordFault). MeetsAll kept before (met_of name r c.args.number c.args.tree.now.at c.args.tree.now.end) text text) is
    (meets_none kept before text knows)

use Rattle.std.proofs.Common.{◌∙◌, ap, sym, subst, refl, drop, length, ◌-◌, List, ℕ}
use Rattle.shape_dict.specs.Text.{header_text}
use Rattle.shape_dict.specs.Reading.{HasNoHeader}
use Rattle.stream_core.specs.Inner.Blocks.{bytes_of}
use Rattle.stream_core.proofs.Held.{kept_some, skipped, taken_front}
use Rattle.stream_core.proofs.Longest.{no_header}
use Rattle.stream_core.proofs.steps.take_header.Goals as goal

pub returns-in_default-clause-fault : goal.returns-in_default-clause-fault
returns-in_default-clause-fault g c =
    let none = subst HasNoHeader c.unread-bytes.ensures c.in_default.ensures.none in
    (refl, kept_some (bytes_of c.args.block.now) (bytes_of c.fill.new.self) HasNoHeader c.fill.ensures.same (no_header c.fill.new.self c.in_ok-fill.ensures.enough none))

pub returns-clause-taken : goal.returns-clause-taken
returns-clause-taken g c =
    let same = sym c.unread-bytes.ensures in
    let found = same ∙ c.in-Some.ensures.found.1 in
    let passed = ap (λ (l : List ℕ). drop (length c.unread-bytes.result.now - length c.in-Some.rest.now) l) same ∙ skipped c.unread-bytes.result.now (header_text c.in-Some.header) c.in-Some.rest.now c.in-Some.ensures.found.1 in
    taken_front c.args.block.now c.fill.new.self c.skip.new.self (header_text c.in-Some.header) c.in-Some.rest.now c.fill.ensures.same found (c.skip.ensures.unread ∙ passed) c.skip.ensures.remaining

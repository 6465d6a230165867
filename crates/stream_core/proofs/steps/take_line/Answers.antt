use Rattle.std.proofs.Common.{◌∙◌, ap, sym, subst, drop, length, ◌-◌, List, ℕ}
use Rattle.shape_dict.specs.Text.{line_text}
use Rattle.shape_dict.specs.Reading.{IsLineFault}
use Rattle.stream_core.specs.Inner.Blocks.{bytes_of}
use Rattle.stream_core.proofs.Held.{keeps_self, skipped, taken_front}
use Rattle.stream_core.proofs.Longest.{line_fault}
use Rattle.stream_core.proofs.steps.take_line.Goals as goal

pub returns-in-Err-clause-fault : goal.returns-in-Err-clause-fault
returns-in-Err-clause-fault g c =
    let at = subst (λ (l : List ℕ). IsLineFault c.args.header.now c.args.progress.now.given c.args.progress.now.last l c.in-Err.found) c.unread-bytes.ensures c.in-Err.ensures.fault in
    line_fault c.args.block.now c.args.header.now c.args.progress.now.given c.args.progress.now.last c.in-Err.found c.requires.enough at

pub returns-clause-taken : goal.returns-clause-taken
returns-clause-taken g c =
    let same = sym c.unread-bytes.ensures in
    let front = line_text c.args.header.now.text c.in-Ok.line.0 in
    let after = c.in-Ok.line.1.now in
    let passed = ap (λ (l : List ℕ). drop (length c.unread-bytes.result.now - length after) l) same ∙ skipped c.unread-bytes.result.now front after c.in-Ok.ensures.same in
    taken_front c.args.block.now c.args.block.now c.skip.new.self front after (keeps_self (bytes_of c.args.block.now)) (same ∙ c.in-Ok.ensures.same) (c.skip.ensures.unread ∙ passed) c.skip.ensures.remaining

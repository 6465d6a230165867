use Rattle.std.proofs.Common.{length, arith}
use Rattle.shape_dict.specs.Reading.{IsLineFault, lines_after}
use Rattle.stream_core.specs.Inner.Blocks.{bytes_of}
use Rattle.stream_core.proofs.Held.{some_at}
use Rattle.stream_core.proofs.Given.{all_given, more_given, at_kept, at_more, line_refused}
use Rattle.stream_core.proofs.steps.next.Goals as goal

pub returns-in-Err-clause-stands : goal.returns-in-Err-clause-stands
returns-in-Err-clause-stands g c = λ whole es at.
    let now = at_kept c.args.block.now c.fill.new.self c.args.header.now c.args.progress.now whole es c.fill.ensures.same at in
    let all = all_given c.args.progress.now.given (lines_after c.args.header.now) (length es) c.args.progress.now.last c.requires at.kept.given at.begins.few (omega (arith, c.count_lines.ensures)) in
    c.in-Err.ensures.fault whole es now all

pub returns-in-Ok-take_line-clause-at : goal.returns-in-Ok-take_line-clause-at
returns-in-Ok-take_line-clause-at g c = λ whole es at.
    let now = at_kept c.args.block.now c.fill.new.self c.args.header.now c.args.progress.now whole es c.fill.ensures.same at in
    let more = more_given c.args.progress.now.given (lines_after c.args.header.now) (length es) at.kept.given (omega (arith, c.count_lines.ensures)) in
    let entry = c.in-Ok-take_line.ensures in
    at_more c.fill.new.self c.take_line.new.block c.args.header.now c.args.progress.now c.with.result whole es c.in-Ok-take_line.entry now more entry.line entry.shape.0 entry.shape.1 entry.taken (c.with.ensures.of es at.kept)

pub returns-in-Err-take_line-clause-stands : goal.returns-in-Err-take_line-clause-stands
returns-in-Err-take_line-clause-stands g c = λ whole es at.
    let now = at_kept c.args.block.now c.fill.new.self c.args.header.now c.args.progress.now whole es c.fill.ensures.same at in
    let more = more_given c.args.progress.now.given (lines_after c.args.header.now) (length es) at.kept.given (omega (arith, c.count_lines.ensures)) in
    let bad = some_at (bytes_of c.fill.new.self) now.left (λ left. IsLineFault c.args.header.now c.args.progress.now.given c.args.progress.now.last left c.in-Err-take_line.found) now.known c.in-Err-take_line.ensures.fault in
    line_refused c.fill.new.self c.args.header.now c.args.progress.now whole es c.in-Err-take_line.found now more bad

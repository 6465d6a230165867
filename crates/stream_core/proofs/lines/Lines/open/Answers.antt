use Rattle.std.proofs.Common.{subst, Option, List, ℕ}
use Rattle.std.specs.Io.KnownBytes.{Consumes}
use Rattle.shape_dict.specs.Text.{header_text}
use Rattle.stream_core.specs.Faults.{IsOpenFault}
use Rattle.stream_core.specs.Inner.Blocks.{bytes_of}
use Rattle.stream_core.proofs.Held.{fresh_bytes}
use Rattle.stream_core.proofs.Given.{open_refused, opened}
use Rattle.stream_core.proofs.lines.Lines.open.Goals as goal

pub returns-in-Err-clause-only : goal.returns-in-Err-clause-only
returns-in-Err-clause-only g c = λ contents.
    let fresh = fresh_bytes c.in-Ok.block (g.R.Read.remaining c.args.reader) c.in-Ok.ensures.0 c.in-Ok.ensures.1 in
    open_refused (g.R.Read.remaining c.args.reader) contents c.in-Err.found (subst (λ (x : Option (List ℕ)). IsOpenFault x c.in-Err.found) fresh c.in-Err.ensures.fault)

pub returns-clause-only : goal.returns-clause-only
returns-clause-only g c = λ contents.
    let header = c.in-Ok-take_header.header in
    let read = c.in-Ok-take_header.ensures in
    let fresh = fresh_bytes c.in-Ok.block (g.R.Read.remaining c.args.reader) c.in-Ok.ensures.0 c.in-Ok.ensures.1 in
    let rest = bytes_of c.take_header.new.block in
    opened (g.R.Read.remaining c.args.reader) rest contents header read.is_header (subst (λ (x : Option (List ℕ)). Consumes x rest (header_text header)) fresh read.taken)

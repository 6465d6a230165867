use Rattle.std.proofs.Common.{◌∙◌, length, ap, sym, refl, inl, inr, arith}
use Rattle.shape_keys.specs.Status.{number_of_fault}
use Rattle.shape_keys.proofs.Shortest.{text_long}
use Rattle.shape_keys.proofs.reading.shapes_read.Goals as goal

pub returns-in-Err-clause-only : goal.returns-in-Err-clause-only
returns-in-Err-clause-only c = λ contents text small.
    inr (c.number.ensures ∙ ap number_of_fault (c.in-Err.ensures.only contents text small))

pub returns-then-found-entries-clause-only : goal.returns-then-found-entries-clause-only
returns-then-found-entries-clause-only c = λ contents text small.
    let is = c.in-Ok.ensures.only contents text small in
    let many = ap length c.entries-found.ensures.value ∙ ap (λ d. length d.entries) is in
    let more = c.if-found-entries.true in
    inl (many, inr (c.number-then-found-entries.ensures, omega (arith, many, more), refl))

pub returns-clause-only : goal.returns-clause-only
returns-clause-only c = λ contents text small.
    let is = c.in-Ok.ensures.only contents text small in
    let same = c.entries-found.ensures.value ∙ ap (λ d. d.entries) is in
    let fits = c.if-found-entries.false in
    let many = ap length same in
    inl (many, inl (c.number-2.ensures, omega (arith, many, fits), rw (sym same) c.put_entries.ensures))

pub returns-then-found-entries-clause-room : goal.returns-then-found-entries-clause-room
returns-then-found-entries-clause-room c = λ is.
    let found = c.in-Ok.ensures.found in
    let long = text_long c.in-Ok.dictionary c.args.text.now found.0 in
    let many = ap length c.entries-found.ensures.value in
    let more = c.if-found-entries.true in
    omega (arith, long, many, more)

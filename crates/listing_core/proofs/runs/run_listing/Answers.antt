use Rattle.std.proofs.Common.{subst}
use Rattle.std.proofs.lemmas.Result.{err_from_is_err_and}
use Rattle.engine_core.specs.Output.{WroteFront}
use Rattle.std.specs.Io.KnownBytes.{Appends}
use Rattle.engine_core.proofs.Runs.{run_done, run_stopped}
use Rattle.listing_core.specs.Listing.{IsListing, HasListing, IsListingFault}
use Rattle.listing_core.proofs.runs.run_listing.Goals as goal

pub returns-in_err-write_output-clause-fault : goal.returns-in_err-write_output-clause-fault
returns-in_err-write_output-clause-fault g c =
    let p = err_from_is_err_and c.from_residual-in_err-write_output.result c.from_residual-in_err-write_output.ensures.1 in
    rw (p.1, p.2) (run_stopped (HasListing c.args.asked.now) IsListingFault (g.R.Read.remaining c.args.reader.now) (g.W.Write.contents c.args.writer.now) (g.W.Write.contents c.write_output.new.writer)
    c.in_ok-input.input.items c.in_ok-listing.listing.items c.in_err-write_output.field-0.0 c.in_ok-input.ensures.input
    (c.in_ok-listing.found, subst (λ bytes. IsListing c.args.asked.now c.in_ok-listing.found bytes c.in_ok-listing.listing.items) c.deref.ensures.value c.in_ok-listing.ensures.listing)
    (subst (λ text. WroteFront (g.W.Write.contents c.args.writer.now) (g.W.Write.contents c.write_output.new.writer) text c.in_err-write_output.field-0.0) c.deref-2.ensures.value c.in_err-write_output.ensures.front))

pub returns-clause-done : goal.returns-clause-done
returns-clause-done g c =
    run_done (IsListing c.args.asked.now c.in_ok-listing.found) (g.R.Read.remaining c.args.reader.now) (g.W.Write.contents c.args.writer.now)
    (g.W.Write.contents c.write_output.new.writer) c.in_ok-input.input.items c.in_ok-listing.listing.items c.in_ok-input.ensures.input
    (subst (λ bytes. IsListing c.args.asked.now c.in_ok-listing.found bytes c.in_ok-listing.listing.items) c.deref.ensures.value c.in_ok-listing.ensures.listing)
    (subst (λ text. Appends (g.W.Write.contents c.args.writer.now) (g.W.Write.contents c.write_output.new.writer) text) c.deref-2.ensures.value c.in_ok-write_output.ensures.whole)

use Rattle.std.proofs.Common.{◌∙◌, ap, List}
use Rattle.std.specs.List.{flat_map}
use Rattle.hits_core.specs.declared.hits.Hit.{Hit}
use Rattle.hits_core.specs.Lines.{line_text}
use Rattle.hits_core.proofs.runs.hits_text.Goals as goal

pub returns-clause-text : goal.returns-clause-text
returns-clause-text g c = record {
  found = c.in-Ok.ensures.results;
  printed = c.in_ok-text.ensures ∙ ap (λ (hs : List Hit). flat_map (line_text c.args.search) hs) c.deref.ensures.value;
}

pub returns-in-Err-clause-fault : goal.returns-in-Err-clause-fault
returns-in-Err-clause-fault g c = c.run_fault.ensures c.args.input.now c.in-Err.ensures.fault

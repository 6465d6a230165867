use Rattle.merge_core.proofs.counting.count_join.Goals as goal

pub returns-in-Err-tally_of_kept-clause-known : goal.returns-in-Err-tally_of_kept-clause-known
returns-in-Err-tally_of_kept-clause-known g c = λ kind all offers number.
    let s = c.in-Ok.ensures.left kind all offers number in
    (s.0, s.1, c.in-Err-tally_of_kept.ensures.all s.0.entries s.2.1)

pub returns-in-Ok-tally_of_kept-clause-known : goal.returns-in-Ok-tally_of_kept-clause-known
returns-in-Ok-tally_of_kept-clause-known g c = λ kind all offers number.
    let s = c.in-Ok.ensures.left kind all offers number in
    (s.0, s.1, c.in-Ok-tally_of_kept.ensures.all s.0.entries s.2.1)

pub returns-in-Ok-tally_of_kept-clause-judged : goal.returns-in-Ok-tally_of_kept-clause-judged
returns-in-Ok-tally_of_kept-clause-judged g c = λ inputs are number.
    let w = c.in-Ok-tally_of_kept.ensures.came in
    record { entries = w.0; summed = c.in-Ok.ensures.came inputs w.0 are number w.2; counted = w.1 }

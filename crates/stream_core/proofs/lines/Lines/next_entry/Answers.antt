use Rattle.std.proofs.Common.{subst, sym, Ok, Err, None}
use Rattle.stream_core.specs.declared.standing.Standing.{Standing}
use Rattle.stream_core.specs.Streams.{Stands, given_after}
use Rattle.stream_core.proofs.Given.{given_at, is_next}
use Rattle.stream_core.proofs.lines.Lines.next_entry.Goals as goal

pub returns-in-Ended-clause-only : goal.returns-in-Ended-clause-only
returns-in-Ended-clause-only g c = λ whole es contents given is.
    let l = c.self.inside in
    let at = given_at c.args.self.now l.block l.header l.progress l.standing whole es c.self.view_is given in
    is_next whole contents is l.header es at.0.left (Ok None) at.0.begins (subst (λ (s : Standing). Stands whole l.header es s) c.in-Ended.is at.1)

pub returns-in-Failed-clause-only : goal.returns-in-Failed-clause-only
returns-in-Failed-clause-only g c = λ whole es contents given is.
    let l = c.self.inside in
    let at = given_at c.args.self.now l.block l.header l.progress l.standing whole es c.self.view_is given in
    is_next whole contents is l.header es at.0.left (Err c.in-Failed.found) at.0.begins (subst (λ (s : Standing). Stands whole l.header es s) c.in-Failed.is at.1)

pub returns-clause-given : goal.returns-clause-given
returns-clause-given g c = λ whole es given.
    let l = c.self.inside in
    let at = given_at c.args.self.now l.block l.header l.progress l.standing whole es c.self.view_is given in
    let next = c.next-answer.ensures.at whole es at.0 in
    let stands = c.next-answer.ensures.stands whole es at.0 in
    record {
      left = next.left;
      known = next.known;
      begins = next.begins;
      kept = next.kept;
      stands = subst (λ (s : Standing). Stands whole l.header (given_after es c.next-answer.result) s) (sym c.standing_of-self-inside.ensures) stands;
    }

pub returns-clause-only : goal.returns-clause-only
returns-clause-only g c = λ whole es contents given is.
    let l = c.self.inside in
    let at = given_at c.args.self.now l.block l.header l.progress l.standing whole es c.self.view_is given in
    let next = c.next-answer.ensures.at whole es at.0 in
    is_next whole contents is l.header es next.left c.next-answer.result next.begins (c.next-answer.ensures.stands whole es at.0)

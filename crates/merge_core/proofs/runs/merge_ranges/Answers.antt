use Rattle.std.proofs.Common.{◌≡◌, ◌++◌, ◌∙◌, ap, sym, subst, ℕ, List, Option, MatchResult}
use Rattle.std.specs.Io.KnownBytes.{Appends}
use Rattle.shape_dict.specs.declared.entries.Entry.{Entry}
use Rattle.merge_core.specs.Inner.Ranges.{all_of}
use Rattle.merge_core.specs.Inner.Judging.{HasJoined}
use Rattle.merge_core.specs.Inner.Writing.{IsStopped, lines_of}
use Rattle.merge_core.proofs.Finished.{is_text, done_of, fault_of}
use Rattle.merge_core.proofs.runs.merge_ranges.Goals as goal

pub returns-clause-done : goal.returns-clause-done
returns-clause-done g c = λ inputs are number.
    let bytes = g.S.Sources.bytes c.args.sources.now in
    let s = c.requires.surveyed in
    let all = number ∙ sym c.requires.many in
    let j = subst (λ (x : Option ℕ). (h : HasJoined bytes x c.args.joined.0 c.args.joined.1 inputs) × (h.entries ≡ all_of s.parts)) c.requires.least (s.joined inputs are all) in
    let h = j.0 in
    let before = g.W.Write.contents c.args.writer.now in
    let after = g.W.Write.contents c.write_ranges.new.writer in
    let header = c.in-Ok.header.items in
    let text = is_text bytes c.args.joined.0 c.args.joined.1 inputs c.args.form header h c.in-Ok.ensures in
    let lines : header ++ lines_of c.args.form (all_of s.parts) ≡ header ++ lines_of c.args.form h.summed.sum.entries =
    ap (λ (es : List Entry). header ++ lines_of c.args.form es) (sym j.1 ∙ sym h.summed.same) in
    let known = c.write_ranges.ensures.known s.parts s.are_parts s.number inputs are all in
    done_of c.write_ranges.result c.args.form inputs before after (header ++ lines_of c.args.form h.summed.sum.entries) text
    (subst (λ (xs : List ℕ). MatchResult c.write_ranges.result (λ _. Appends before after xs) (IsStopped before after xs)) lines known)

pub returns-clause-fault : goal.returns-clause-fault
returns-clause-fault g c = λ inputs are number.
    let bytes = g.S.Sources.bytes c.args.sources.now in
    let s = c.requires.surveyed in
    let all = number ∙ sym c.requires.many in
    let j = subst (λ (x : Option ℕ). (h : HasJoined bytes x c.args.joined.0 c.args.joined.1 inputs) × (h.entries ≡ all_of s.parts)) c.requires.least (s.joined inputs are all) in
    let h = j.0 in
    let before = g.W.Write.contents c.args.writer.now in
    let after = g.W.Write.contents c.write_ranges.new.writer in
    let header = c.in-Ok.header.items in
    let text = is_text bytes c.args.joined.0 c.args.joined.1 inputs c.args.form header h c.in-Ok.ensures in
    let lines : header ++ lines_of c.args.form (all_of s.parts) ≡ header ++ lines_of c.args.form h.summed.sum.entries =
    ap (λ (es : List Entry). header ++ lines_of c.args.form es) (sym j.1 ∙ sym h.summed.same) in
    let known = c.write_ranges.ensures.known s.parts s.are_parts s.number inputs are all in
    fault_of c.write_ranges.result c.args.form inputs before after (header ++ lines_of c.args.form h.summed.sum.entries) text
    (subst (λ (xs : List ℕ). MatchResult c.write_ranges.result (λ _. Appends before after xs) (IsStopped before after xs)) lines known)

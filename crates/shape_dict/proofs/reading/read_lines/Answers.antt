use Rattle.std.proofs.Common.{◌≡◌, ◌++◌, ◌∷◌, [], ◌∙◌, ap, length, sym, subst, List, arith}
use Rattle.std.proofs.lemmas.List.{length_push}
use Rattle.std.proofs.lemmas.Result.{err_from_is_err_and}
use Rattle.shape_dict.specs.declared.entries.Entry.{Entry}
use Rattle.shape_dict.specs.Text.{header_text}
use Rattle.shape_dict.specs.Reading.{BeginsWith}
use Rattle.shape_dict.proofs.Begun.{first_line}
use Rattle.shape_dict.proofs.reading.read_lines.Goals as goal

pub returns-in-Err-clause-fault : goal.returns-in-Err-clause-fault
returns-in-Err-clause-fault c =
    let whole = header_text c.args.header.now ++ c.args.bytes.now in
    let same = sym c.as_slice.ensures.value in
    let begins = subst (λ (es : List Entry). BeginsWith whole c.args.header.now es c.loop-place.left.now) same c.loop-place.invariant.begins in
    let count : length c.as_slice.result.now ≡ c.loop-place._place = ap length c.as_slice.ensures.value ∙ c.loop-place.invariant.place in
    c.in-Err.ensures.fault whole begins (omega arith)

pub returns-in_err-push-clause-fault : goal.returns-in_err-push-clause-fault
returns-in_err-push-clause-fault c =
    let p = err_from_is_err_and c.from_residual.result c.from_residual.ensures.1 in
    let whole = header_text c.args.header.now ++ c.args.bytes.now in
    let same = c.as_slice.ensures.value in
    let begins = subst (λ (es : List Entry). BeginsWith whole c.args.header.now es c.loop-place.left.now) (sym same) c.loop-place.invariant.begins in
    let count : length c.as_slice.result.now ≡ c.loop-place._place = ap length same ∙ c.loop-place.invariant.place in
    let next = c.in-Ok.ensures.ok whole begins (omega arith) in
    let long = length_push c.as_slice.result.now c.in-Ok.next.0 in
    rw (p.1, p.2) (first_line whole c.args.header.now (c.as_slice.result.now ++ c.in-Ok.next.0 ∷ []) c.in-Ok.next.1.now next (omega (arith, long)))

pub loop-place-preserved : goal.loop-place-preserved
loop-place-preserved c =
    let whole = header_text c.args.header.now ++ c.args.bytes.now in
    let same = c.as_slice.ensures.value in
    let begins = subst (λ (es : List Entry). BeginsWith whole c.args.header.now es c.loop-place.left.now) (sym same) c.loop-place.invariant.begins in
    let count : length c.as_slice.result.now ≡ c.loop-place._place = ap length same ∙ c.loop-place.invariant.place in
    let next = c.in-Ok.ensures.ok whole begins (omega arith) in
    let pushed = c.in_ok-push.ensures.ok in
    let more : c.as_slice.result.now ++ c.in-Ok.next.0 ∷ [] ≡ c.push.new.entries.items = ap (λ (es : List Entry). es ++ c.in-Ok.next.0 ∷ []) same ∙ sym pushed in
    let long = ap length pushed ∙ length_push c.loop-place.entries.items c.in-Ok.next.0 in
    record {
      place = omega (arith, c.loop-place.invariant.place, long);
      begins = subst (λ (es : List Entry). BeginsWith whole c.args.header.now es c.in-Ok.next.1.now) more next;
    }

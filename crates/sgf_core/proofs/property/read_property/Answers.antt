use Rattle.std.proofs.Common.{◌≡◌, ◌≢◌, ◌+◌, ◌<◌, ◌++◌, ◌∷◌, List, [], length, arith, refl, ap, ◌∙◌, subst}
use Rattle.std.specs.Prelude.{slice_index, slice_range}
use Rattle.sgf_core.specs.Bytes.{open_bracket}
use Rattle.sgf_core.specs.Tree.{Property, PropertyValue}
use Rattle.sgf_core.proofs.PropertyLemmas.{identifier_of, HasRead, reads_more, is_unclosed, ends_behind_name, is_alone, is_property, pushed_some}
use Rattle.sgf_core.proofs.property.read_property.Goals as goal
use Rattle.sgf_core.proofs.property.read_property.Goals.{then-loop-place-test+else-bytes-place-eq91, else-loop-place-test}

pub returns-in_default-clause-fault : goal.returns-in_default-clause-fault
returns-in_default-clause-fault c =
    let bytes = c.args.bytes.now in
    let end = c.letters_end-identifier_end.result in
    let name = identifier_of bytes c.args.from end c.requires.within c.requires.letter c.letters_end-identifier_end.ensures.within c.letters_end-identifier_end.ensures.letters c.letters_end-identifier_end.ensures.ended in
    let h = c.loop-place.invariant in
    let unclosed = c.in_default.ensures in
    (refl, is_unclosed bytes c.args.from end c.loop-place.place h.values unclosed.0 name h.read c.loop-place-test.true c.if-bytes-place-eq91.true unclosed.1)

pub loop-place-preserved : goal.loop-place-preserved
loop-place-preserved c =
    let bytes = c.args.bytes.now in
    let end = c.letters_end-identifier_end.result in
    let h = c.loop-place.invariant in
    let place = c.loop-place.place in
    let value : PropertyValue = record { at = place + 1; bytes = slice_range bytes (place + 1) c.in-Some.end } in
    record {
      values = h.values ++ value ∷ [];
      read = reads_more bytes end place c.in-Some.end c.white_end-place-in-loop-place.result h.values h.read c.loop-place-test.true c.if-bytes-place-eq91.true c.in-Some.ensures
          c.white_end-place-in-loop-place.ensures.within c.white_end-place-in-loop-place.ensures.white;
      stopped = c.white_end-place-in-loop-place.ensures.ended;
      same = λ kept. let p = c.keep_value-kept.ensures kept in p.1 ∙ ap (λ (vs : List PropertyValue). vs ++ value ∷ []) (h.same p.0);
      is_some = λ _. pushed_some h.values value;
      is_none = λ none. absurd cc;
    }

pub returns-then-not-kept-clause-read : goal.returns-then-not-kept-clause-read
returns-then-not-kept-clause-read c =
    let bytes = c.args.bytes.now in
    let end = c.letters_end-identifier_end.result in
    let name = identifier_of bytes c.args.from end c.requires.within c.requires.letter c.letters_end-identifier_end.ensures.within c.letters_end-identifier_end.ensures.letters c.letters_end-identifier_end.ensures.ended in
    let h = c.loop-place.invariant in
    let whole : c.loop-place.place < length bytes → slice_index bytes c.loop-place.place ≢ open_bracket =
    elim c.loop-place-test.branch [
      | then-loop-place-test+else-bytes-place-eq91 w ↦ λ _. w.if-bytes-place-eq91.false
      | else-loop-place-test w ↦ λ within. absurd (omega arith)
    ] in
    let property : Property = record { identifier = slice_range bytes c.args.from end; values = h.values } in
    let reads = is_property bytes c.args.from end c.loop-place.place h.values name h.read (h.is_some c.if-some.true) (λ within. (whole within, h.stopped within)) in
    (property, reads, tt)

pub returns-then-some-clause-read : goal.returns-then-some-clause-read
returns-then-some-clause-read c =
    let bytes = c.args.bytes.now in
    let end = c.letters_end-identifier_end.result in
    let name = identifier_of bytes c.args.from end c.requires.within c.requires.letter c.letters_end-identifier_end.ensures.within c.letters_end-identifier_end.ensures.letters c.letters_end-identifier_end.ensures.ended in
    let h = c.loop-place.invariant in
    let whole : c.loop-place.place < length bytes → slice_index bytes c.loop-place.place ≢ open_bracket =
    elim c.loop-place-test.branch [
      | then-loop-place-test+else-bytes-place-eq91 w ↦ λ _. w.if-bytes-place-eq91.false
      | else-loop-place-test w ↦ λ within. absurd (omega arith)
    ] in
    let property : Property = record { identifier = slice_range bytes c.args.from end; values = h.values } in
    let reads = is_property bytes c.args.from end c.loop-place.place h.values name h.read (h.is_some c.if-some.true) (λ within. (whole within, h.stopped within)) in (
      property,
      reads,
      ap (λ (vs : List PropertyValue). (let p : Property = record { identifier = slice_range bytes c.args.from end; values = vs } in p)) (h.same c.if-not-kept.false),
    )

pub returns-then-place-bytes-clause-fault : goal.returns-then-place-bytes-clause-fault
returns-then-place-bytes-clause-fault c =
    let bytes = c.args.bytes.now in
    let end = c.letters_end-identifier_end.result in
    let name = identifier_of bytes c.args.from end c.requires.within c.requires.letter c.letters_end-identifier_end.ensures.within c.letters_end-identifier_end.ensures.letters c.letters_end-identifier_end.ensures.ended in
    let h = c.loop-place.invariant in
    (refl, ends_behind_name bytes c.args.from end c.loop-place.place h.values name h.read (omega arith))

pub returns-clause-fault : goal.returns-clause-fault
returns-clause-fault c =
    let bytes = c.args.bytes.now in
    let end = c.letters_end-identifier_end.result in
    let name = identifier_of bytes c.args.from end c.requires.within c.requires.letter c.letters_end-identifier_end.ensures.within c.letters_end-identifier_end.ensures.letters c.letters_end-identifier_end.ensures.ended in
    let h = c.loop-place.invariant in
    let none : h.values ≡ [] = h.is_none c.if-some.false in
    let no_value : slice_index bytes c.loop-place.place ≢ open_bracket =
    elim c.loop-place-test.branch [
      | then-loop-place-test+else-bytes-place-eq91 w ↦ w.if-bytes-place-eq91.false
      | else-loop-place-test w ↦ absurd (omega arith)
    ] in
    let within : c.loop-place.place < length bytes = omega (arith, h.read.within) in
    (refl, is_alone bytes c.args.from end c.loop-place.place name (subst (λ vs. HasRead bytes end c.loop-place.place vs) none h.read) within (h.stopped within) no_value c.letters_end-identifier_end.ensures.ended)

use Rattle.std.proofs.Common.{◌≡◌, ◌<◌, ◌-◌, ⊎_elim, length, sym, ap, ap₂, ◌∙◌, arith, get_or-set_same, get_or-set_other, length-set}
use Rattle.std.proofs.lemmas.Bool.{cases_eq}
use Rattle.std.proofs.lemmas.List.{get_or_read}
use Rattle.std.proofs.lemmas.List.Elements.{All-get_or, All-set}
use Rattle.go_board.specs.Point.{IsOn, index_of}
use Rattle.go_board.specs.declared.points.Point.{Point}
use Rattle.shape_core.specs.Word.{kind_of}
use Rattle.shape_core.specs.Inner.Word.{with_change}
use Rattle.shape_core.proofs.Recoding.{kind_of-changed}
use Rattle.shape_core.proofs.Marking.{same_point_from, same_from_index}
use Rattle.shape_core.proofs.keeping.recode_run.Goals as goal

-- another point has another place
apart : (c : goal.After-with_change) (q : Point) → IsOn c.args.size q → ((q.row ≡ c.args.from.row) × (q.column ≡ c.loop-column.column) → ⊥) → index_of c.args.size q ≡ c.index-index.result → ⊥
apart c q on other e =
    let near : Point = record { column = c.loop-column.column; row = c.args.from.row } in
    let same : q ≡ near = same_from_index c.args.size q near on ((omega (arith, c.requires.columns, c.loop-column-test.true)), c.requires.row) (e ∙ c.index-index.ensures.value) in
    other (ap (λ (p : Point). p.row) same, ap (λ (p : Point). p.column) same)

-- the word that is read is of the kind
of_kind : (c : goal.After-from) → kind_of c.index-words-index.result ≡ c.args.kind
of_kind c =
    let words = c.loop-column.words in
    let index = c.index-index.result in
    let within : index < length words = omega (arith, c.loop-column.invariant.count, c.index-index.ensures.below) in
    ap kind_of (get_or_read words index c.index-words-index.result within c.index-words-index.is 0)
    ∙ All-get_or (λ w. kind_of w ≡ c.args.kind) words index 0 within c.loop-column.invariant.kinds

pub with_change-requires-clause-kind : goal.with_change-requires-clause-kind
with_change-requires-clause-kind c = of_kind c

pub loop-column-preserved : goal.loop-column-preserved
loop-column-preserved c =
    let size = c.args.size in
    let words = c.loop-column.words in
    let index = c.index-index.result in
    let word = c.with_change.result in
    let before = c.loop-column.invariant in
    let near : Point = record { column = c.loop-column.column; row = c.args.from.row } in
    let within : index < length words = omega (arith, before.count, c.index-index.ensures.below) in
    let read = get_or_read words index c.index-words-index.result within c.index-words-index.is 0 in
    let cell = c.args.last - c.from.result in
    record {
      count = length-set words index word ∙ before.count;
      kinds = All-set (λ w. kind_of w ≡ c.args.kind) words index word
          (ap kind_of c.with_change.ensures ∙ kind_of-changed c.index-words-index.result cell c.args.change c.requires.change ∙ of_kind c.before) before.kinds;
      begun = omega (arith, before.begun);
      there = λ q on run. ⊎_elim
          (λ (here : q.column ≡ c.loop-column.column).
          let at : index_of size q ≡ index = ap (index_of size) (same_point_from q near here run.0) ∙ sym c.index-index.ensures.value in
          let old = before.elsewhere q on (λ done. omega (arith, done.2, here)) in
          let same_cell : c.args.last - c.from.result ≡ c.args.last - q.column = omega (arith, c.from.ensures, here) in
          rw at (get_or-set_same words index word 0 within)
          ∙ c.with_change.ensures
          ∙ ap₂ (λ w j. with_change w j c.args.change) (read ∙ rw (sym at) old) same_cell)
          (λ (other : q.column ≡ c.loop-column.column → ⊥).
          get_or-set_other words index (index_of size q) word 0 (apart c q on (λ same. other same.1))
          ∙ before.there q on (run.0, run.1, (omega (arith, run.2, other))))
          (cases_eq q.column c.loop-column.column);
      elsewhere = λ q on out.
          get_or-set_other words index (index_of size q) word 0 (apart c q on (λ same. out (same.0, (omega (arith, before.begun, same.1)), (omega (arith, same.1)))))
          ∙ before.elsewhere q on (λ run. out (run.0, run.1, (omega (arith, run.2))));
    }

pub returns-clause-elsewhere : goal.returns-clause-elsewhere
returns-clause-elsewhere c = λ q on out.
    c.loop-column.invariant.elsewhere q on (λ run. out (run.0, run.1, (omega (arith, run.2, c.requires.left))))

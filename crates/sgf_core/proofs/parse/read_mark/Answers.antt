use Rattle.std.proofs.Common.{◌≡◌, refl, ap, sym, subst, arith}
use Rattle.std.specs.Prelude.{IfSome}
use Rattle.sgf_core.specs.Tree.{Property}
use Rattle.std.proofs.lemmas.Result.{err_from_is_err_and}
use Rattle.sgf_core.specs.Bytes.{open_parenthesis, close_parenthesis, semicolon}
use Rattle.sgf_core.specs.Grammar.{opens, begins_node, closes}
use Rattle.sgf_core.specs.Inner.Pieces.{ReadsMark, MarkFault}
use Rattle.sgf_core.specs.declared.marks.Mark.TheVariants as mark
use Rattle.sgf_core.specs.declared.marks.Expects.TheVariants as expects
use Rattle.sgf_core.proofs.MarkLemmas.{reads_behind, fault_behind, reads_sign, writes_sign, ends_here}
use Rattle.sgf_core.proofs.parse.read_mark.Goals as goal

pub returns-then-place-bytes-clause-fault : goal.returns-then-place-bytes-clause-fault
returns-then-place-bytes-clause-fault c =
    let place = c.white_end-place in
    (refl, ends_here c.args.bytes.now c.args.from place.result place.ensures.within.0 place.ensures.within.1 place.ensures.white c.args.expects (omega arith))

pub returns-in-Node-eq59-clause-read : goal.returns-in-Node-eq59-clause-read
returns-in-Node-eq59-clause-read c =
    let place = c.white_end-place in
    (mark.Node, reads_sign c.args.bytes.now c.args.from place.result c.args.expects expects.Node mark.Node semicolon place.ensures.within place.ensures.white c.if-place-bytes.false c.in-Node-eq59.is-0 c.in-Node-eq59.is-1 tt (writes_sign place.result begins_node semicolon (λ _. refl)) tt, refl)

pub returns-in-Any-eq59-clause-read : goal.returns-in-Any-eq59-clause-read
returns-in-Any-eq59-clause-read c =
    let place = c.white_end-place in
    (mark.Node, reads_sign c.args.bytes.now c.args.from place.result c.args.expects expects.Any mark.Node semicolon place.ensures.within place.ensures.white c.if-place-bytes.false c.in-Any-eq59.is-0 c.in-Any-eq59.is-1 tt (writes_sign place.result begins_node semicolon (λ _. refl)) tt, refl)

pub returns-in-Any-eq40-clause-read : goal.returns-in-Any-eq40-clause-read
returns-in-Any-eq40-clause-read c =
    let place = c.white_end-place in
    (mark.Begin, reads_sign c.args.bytes.now c.args.from place.result c.args.expects expects.Any mark.Begin open_parenthesis place.ensures.within place.ensures.white c.if-place-bytes.false c.in-Any-eq40.is-0 c.in-Any-eq40.is-1 tt (writes_sign place.result opens open_parenthesis (λ _. refl)) tt, refl)

pub returns-in-Any-eq41-clause-read : goal.returns-in-Any-eq41-clause-read
returns-in-Any-eq41-clause-read c =
    let place = c.white_end-place in
    (mark.End, reads_sign c.args.bytes.now c.args.from place.result c.args.expects expects.Any mark.End close_parenthesis place.ensures.within place.ensures.white c.if-place-bytes.false c.in-Any-eq41.is-0 c.in-Any-eq41.is-1 tt (writes_sign place.result closes close_parenthesis (λ _. refl)) tt, refl)

pub returns-in-Tree-eq40-clause-read : goal.returns-in-Tree-eq40-clause-read
returns-in-Tree-eq40-clause-read c =
    let place = c.white_end-place in
    (mark.Begin, reads_sign c.args.bytes.now c.args.from place.result c.args.expects expects.Tree mark.Begin open_parenthesis place.ensures.within place.ensures.white c.if-place-bytes.false c.in-Tree-eq40.is-0 c.in-Tree-eq40.is-1 tt (writes_sign place.result opens open_parenthesis (λ _. refl)) tt, refl)

pub returns-in-Tree-eq41-clause-read : goal.returns-in-Tree-eq41-clause-read
returns-in-Tree-eq41-clause-read c =
    let place = c.white_end-place in
    (mark.End, reads_sign c.args.bytes.now c.args.from place.result c.args.expects expects.Tree mark.End close_parenthesis place.ensures.within place.ensures.white c.if-place-bytes.false c.in-Tree-eq41.is-0 c.in-Tree-eq41.is-1 tt (writes_sign place.result closes close_parenthesis (λ _. refl)) tt, refl)

pub returns-in-Some-clause-read : goal.returns-in-Some-clause-read
returns-in-Some-clause-read c =
    let place = c.white_end-place in
    let found = c.in_ok-property-in-Any-default in
    let read = found.ensures.read in
    let same : c.in-Some.property ≡ read.0 = subst (λ o. IfSome o (λ kept. kept ≡ read.0)) c.in-Some.is read.2 in (
      mark.Prop read.0,
      subst (λ e. ReadsMark c.args.bytes.now e c.args.from found.end (mark.Prop read.0)) (sym c.in-Any-default.is-0)
          (reads_behind c.args.bytes.now c.args.from place.result place.ensures.within.0 place.ensures.within.1 place.ensures.white expects.Any found.end (mark.Prop read.0) read.1),
      ap (λ (p : Property). mark.Prop p) same,
    )

pub returns-in-None-clause-read : goal.returns-in-None-clause-read
returns-in-None-clause-read c =
    let place = c.white_end-place in
    let found = c.in_ok-property-in-Any-default in
    let read = found.ensures.read in (
      mark.Prop read.0,
      subst (λ e. ReadsMark c.args.bytes.now e c.args.from found.end (mark.Prop read.0)) (sym c.in-Any-default.is-0)
          (reads_behind c.args.bytes.now c.args.from place.result place.ensures.within.0 place.ensures.within.1 place.ensures.white expects.Any found.end (mark.Prop read.0) read.1),
      (read.0, refl),
    )

pub returns-in_err-property-in-Any-default-clause-fault : goal.returns-in_err-property-in-Any-default-clause-fault
returns-in_err-property-in-Any-default-clause-fault c =
    let place = c.white_end-place in
    let p = err_from_is_err_and c.from_residual.result c.from_residual.ensures.1 in
    let found = c.in_err-property-in-Any-default in
    rw (p.1, p.2) (
    subst (λ e. MarkFault c.args.bytes.now c.args.at e c.args.from found.field-0.0) (sym c.in-Any-default.is-0)
    (fault_behind c.args.bytes.now c.args.from place.result place.ensures.within.0 place.ensures.within.1 place.ensures.white c.args.at found.field-0.0 found.ensures.fault)
    )

use Rattle.std.proofs.Common.{◌^◌, ◌<◌, length, take, List, ap, sym, subst, ◌∙◌, arith}
use Rattle.std.specs.List.{All}
use Rattle.std.proofs.lemmas.List.{take_all}
use Rattle.std.proofs.lemmas.List.Elements.{All-append}
use Rattle.shape_dict.specs.declared.entries.Entry.{Entry}
use Rattle.shape_dict.specs.Pieces.{entries_in}
use Rattle.shape_dict.proofs.Pieced.{next}
use Rattle.tally_parts.proofs.Small.{IsSmallUse, small_contents}
use Rattle.tally_parts.proofs.counting.numbers_fit.Goals as goal

pub loop-piece-preserved : goal.loop-piece-preserved
loop-piece-preserved c =
    let pieces = c.pieces-pieces.result.now in
    let i = c.loop-piece.piece-index in
    let piece = c.piece-item.result in
    let own = subst (λ (es : List Entry). All IsSmallUse es) c.as_slice.ensures.value c.list_fits.ensures in
    subst (λ (es : List Entry). All IsSmallUse es) (sym (next pieces i piece c.loop-piece-test.true c.piece-item.is))
    (All-append IsSmallUse (entries_in (take i pieces)) piece.items c.loop-piece.invariant own)

pub returns : goal.returns
returns c =
    let contents = c.args.dictionary.now in
    let pieces = c.pieces-pieces.result.now in
    let same = ap entries_in (take_all c.loop-piece.piece-index pieces (omega arith)) ∙ c.pieces-pieces.ensures.value in
    let few : length contents.entries < 2 ^ 64 = omega (arith, c.len-count.ensures) in
    small_contents contents (omega arith) (omega arith) few c.pieces-pieces.ensures.dictionary
    (subst (λ (xs : List Entry). All IsSmallUse xs) same c.loop-piece.invariant)

use Rattle.std.proofs.Common.{◌≡◌, ◌<◌, ◌^◌, ◌∙◌, List, length, ap, subst, sym, arith, rules, true, false}
use Rattle.shape_dict.specs.declared.entries.Entry.{Entry}
use Rattle.shape_dict.specs.Contents.{squares_of, diamonds_of}
use Rattle.shape_dict.proofs.Counted.{both_kinds, rest_counted}
use Rattle.shape_dict.proofs.Pieced.{few, squares_few}
use Rattle.shape_dict.proofs.pieces.counts_of.Goals as goal

pub returns-then-not-dictionary-clause-squares : goal.returns-then-not-dictionary-clause-squares
returns-then-not-dictionary-clause-squares c =
    let es = c.args.dictionary.now.entries in
    let uncounted : c.args.dictionary.now.counts_diamonds ≡ false = search rules in
    let none : length (diamonds_of es) ≡ 0 = ap length (c.pieces-pieces.ensures.dictionary.uncounted uncounted) in
    let both = both_kinds es in
    omega (arith, none, both, c.len-all.ensures)

pub squares_in-squares-requires : goal.squares_in-squares-requires
squares_in-squares-requires c =
    subst (λ (es : List Entry). length es < 2 ^ 63) (sym c.pieces-pieces.ensures.value) (few c.args.dictionary.now c.pieces-pieces.ensures.dictionary)

pub overflow_sub-result : goal.overflow_sub-result
overflow_sub-result c =
    let es = c.args.dictionary.now.entries in
    let squares = c.squares_in-squares.ensures ∙ ap (λ (xs : List Entry). length (squares_of xs)) c.pieces-pieces.ensures.value in
    omega (arith, squares_few es, squares, c.len-all.ensures)

pub returns-clause-diamonds : goal.returns-clause-diamonds
returns-clause-diamonds c =
    let es = c.args.dictionary.now.entries in
    let counted : c.args.dictionary.now.counts_diamonds ≡ true = search rules in
    let squares = c.squares_in-squares.ensures ∙ ap (λ (xs : List Entry). length (squares_of xs)) c.pieces-pieces.ensures.value in
    rest_counted c.args.dictionary.now.counts_diamonds es c.len-all.result c.squares_in-squares.result counted c.len-all.ensures squares

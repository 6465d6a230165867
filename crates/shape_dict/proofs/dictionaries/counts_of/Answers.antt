use Rattle.std.proofs.Common.{rules, arith, ◌≡◌, ◌∙◌, ap, length, true, false}
use Rattle.shape_dict.specs.Contents.{squares_of, diamonds_of}
use Rattle.shape_dict.proofs.Counted.{both_kinds, rest_counted}
use Rattle.shape_dict.proofs.dictionaries.counts_of.Goals as goal

pub returns-then-not-counts_diamonds-clause-squares : goal.returns-then-not-counts_diamonds-clause-squares
returns-then-not-counts_diamonds-clause-squares c =
    let es = c.args.dictionary.now.entries in
    let uncounted : c.args.dictionary.now.counts_diamonds ≡ false = search rules in
    let none : length (diamonds_of es) ≡ 0 = ap length (c.entries-entries.ensures.dictionary.uncounted uncounted) in
    let both = both_kinds es in
    let all : length c.entries-entries.result.now ≡ length es = ap length c.entries-entries.ensures.value in
    omega arith

pub overflow_sub-result : goal.overflow_sub-result
overflow_sub-result c =
    let squares : c.count_of-squares.result ≡ length (squares_of c.entries-entries.result.now) = c.count_of-squares.ensures in
    let both = both_kinds c.entries-entries.result.now in
    omega arith

pub returns-clause-diamonds : goal.returns-clause-diamonds
returns-clause-diamonds c =
    let es = c.args.dictionary.now.entries in
    let counted : c.args.dictionary.now.counts_diamonds ≡ true = search rules in
    let all : length c.entries-entries.result.now ≡ length es = ap length c.entries-entries.ensures.value in
    let squares : c.count_of-squares.result ≡ length (squares_of es) = c.count_of-squares.ensures ∙ ap (λ xs. length (squares_of xs)) c.entries-entries.ensures.value in
    rest_counted c.args.dictionary.now.counts_diamonds es (length c.entries-entries.result.now) c.count_of-squares.result counted all squares

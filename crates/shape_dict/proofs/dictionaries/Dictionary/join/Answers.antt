use Rattle.std.proofs.Common.{◌≡◌, ◌+◌, ◌<◌, ◌^◌, subst, All, List, arith, rules}
use Rattle.shape_dict.specs.declared.entries.Entry.{Entry}
use Rattle.shape_dict.specs.Contents.{IsDictionary}
use Rattle.shape_dict.specs.Inner.Merging.{merged}
use Rattle.shape_dict.proofs.Joined.{dictionary_of, join_of, fits_of}
use Rattle.shape_dict.proofs.dictionaries.Dictionary.join.Goals as goal

-- what is known where the parts are made
pub new-requires : goal.new-requires
new-requires c =
    let left = c.args.left.now in
    let right = c.args.right.now in
    let kinds : left.counts_diamonds ≡ right.counts_diamonds = search rules in
    let games : c.in_ok-games.games ≡ left.games + right.games = search rules in
    let moves : c.in_ok-moves.moves ≡ left.moves + right.moves = search rules in
    let entries : c.in_ok-entries.entries.items ≡ merged left.games left.entries right.entries = search rules in
    let counts : c.counts_diamonds-3.result ≡ left.counts_diamonds = search rules in
    let left_is : IsDictionary left = search rules in
    let right_is : IsDictionary right = search rules in
    rw (games, moves, entries, counts) (dictionary_of left right left_is right_is kinds)

pub returns-clause-ok : goal.returns-clause-ok
returns-clause-ok c =
    let left = c.args.left.now in
    let right = c.args.right.now in
    let kinds : left.counts_diamonds ≡ right.counts_diamonds = search rules in
    let games : c.in_ok-games.games ≡ left.games + right.games = search rules in
    let moves : c.in_ok-moves.moves ≡ left.moves + right.moves = search rules in
    let entries : c.in_ok-entries.entries.items ≡ merged left.games left.entries right.entries = search rules in
    let counts : c.counts_diamonds-3.result ≡ left.counts_diamonds = search rules in
    let left_is : IsDictionary left = search rules in
    let right_is : IsDictionary right = search rules in
    rw (c.new.ensures, games, moves, entries, counts) (join_of left right left_is right_is kinds)

pub returns-clause-fits : goal.returns-clause-fits
returns-clause-fits c =
    let left = c.args.left.now in
    let right = c.args.right.now in
    let kinds : left.counts_diamonds ≡ right.counts_diamonds = search rules in
    let entries : c.in_ok-entries.entries.items ≡ merged left.games left.entries right.entries = search rules in
    let left_is : IsDictionary left = search rules in
    let right_is : IsDictionary right = search rules in
    let small = subst (λ (es : List Entry). All (λ e. e.there < 2 ^ 64) es) entries c.in_ok-entries.ensures.small in
    fits_of left right left_is right_is (omega (arith, c.in_ok-games.ensures.ok.1)) (omega (arith, c.in_ok-moves.ensures.ok.1)) small

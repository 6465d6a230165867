use Rattle.std.proofs.Common.{◌≡◌, sym, subst, List, ℕ, Bool, arith, rules}
use Rattle.shape_dict.specs.declared.entries.Entry.{Entry}
use Rattle.shape_dict.specs.Contents.{IsDictionary, HasTotals}
use Rattle.shape_dict.specs.Reading.{HasAllLines, counts_of}
use Rattle.shape_dict.specs.Inner.Reading.{IsRead}
use Rattle.shape_dict.proofs.Read.{dictionary_read, front_read}
use Rattle.shape_dict.proofs.reading.front_of.Goals as goal

pub new-dictionary-requires : goal.new-dictionary-requires
new-dictionary-requires c =
    let header = c.in-Some.header in
    let es = c.in-Ok.lines.0.items in
    let left = c.in-Ok.lines.1.now in
    let lines = subst (λ (w : List ℕ). HasAllLines w header es left) (sym c.in-Some.ensures.found.1) c.in-Ok.ensures.ok in
    let totals = subst (λ (x : List Entry). HasTotals header.games header.moves x (counts_of header)) c.as_slice.ensures.value c.if-not-have_totals.ensures in
    let counts : c.is_some-counts.result ≡ counts_of header = c.is_some-counts.ensures in
    subst (λ (b : Bool). IsDictionary (record { games = header.games; moves = header.moves; entries = es; counts_diamonds = b })) (sym counts) (dictionary_read c.args.bytes.now left header es lines totals)

pub returns-clause-found : goal.returns-clause-found
returns-clause-found c =
    let read : IsRead c.args.bytes.now c.new-dictionary.result c.in-Ok.lines.1.now = search rules in
    (omega arith, front_read c.args.bytes.now c.in-Ok.lines.1.now c.new-dictionary.result read, omega arith)

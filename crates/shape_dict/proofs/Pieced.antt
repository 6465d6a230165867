-- The patterns of a dictionary are few: their words rise, and are below 2 ^ 51.
use Rattle.std.proofs.Common.{◌≡◌, ℕ, suc, ◌+◌, ◌^◌, ◌<◌, ◌≤◌, List, [], ◌∷◌, ◌++◌, length, take, get_or, ap, sym, ◌∙◌, arith}
use Rattle.std.specs.Prelude.{Vec}
use Rattle.std.specs.Global.{Global}
use Rattle.std.specs.List.{AllByRecursion}
use Rattle.std.proofs.lemmas.List.{append-nil, length-append, take_more}
use Rattle.std.proofs.lemmas.List.Concat.{flat_map-append}
use Rattle.std.proofs.lemmas.List.Folds.{length-flat_map-take}
use Rattle.std.proofs.lemmas.List.Elements.{filter-append, recursion_from_All}
use Rattle.shape_dict.specs.declared.entries.Entry.{Entry}
use Rattle.shape_dict.specs.Contents.{Contents, IsDictionary, IsEntry, is_square, squares_of}
use Rattle.shape_dict.specs.Inner.Merging.{Climbs}
use Rattle.shape_dict.specs.Pieces.{entries_in}
use Rattle.shape_dict.proofs.Climbing.{climbs_from_rises}
use Rattle.shape_dict.proofs.Counted.{both_kinds}

-- no more entries than words from the least on
fits : (games low : ℕ) (es : List Entry) → low ≤ 2 ^ 51 → Climbs low es → AllByRecursion (IsEntry games) es → low + length es ≤ 2 ^ 51
fits games low [] within climbs each = omega (arith, within)
fits games low (e ∷ es) within climbs each =
    let rest = fits games (suc e.shape) es (omega (arith, each.0.word)) climbs.1 each.1 in
    omega (arith, rest, climbs.0)

pub few : (c : Contents) → IsDictionary c → length c.entries < 2 ^ 63
few c is =
    let n = fits c.games 0 c.entries (omega arith) (climbs_from_rises c.entries is.rises) (recursion_from_All (IsEntry c.games) c.entries is.each) in
    omega (arith, n)

-- ---- one list after another
abbrev Pieces : Type 0
Pieces = List (Vec Entry Global)

pub next : (pieces : Pieces) (i : ℕ) (piece : Vec Entry Global) → i < length pieces → piece ≡ get_or pieces i piece → entries_in (take (i + 1) pieces) ≡ entries_in (take i pieces) ++ piece.items
next pieces i piece inside is =
    ap entries_in (take_more pieces i piece inside ∙ ap (λ (p : Vec Entry Global). take i pieces ++ p ∷ []) (sym is))
    ∙ flat_map-append (λ (p : Vec Entry Global). p.items) (take i pieces) (piece ∷ [])
    ∙ ap (λ (es : List Entry). entries_in (take i pieces) ++ es) (append-nil piece.items)

-- the squares of lists that follow one another
pub squares_append : (xs ys : List Entry) → length (squares_of (xs ++ ys)) ≡ length (squares_of xs) + length (squares_of ys)
squares_append xs ys = ap length (filter-append is_square xs ys) ∙ length-append (squares_of xs) (squares_of ys)

-- lists up to one are no longer than all
pub part_long : (pieces : Pieces) (i : ℕ) (piece : Vec Entry Global) → i < length pieces → piece ≡ get_or pieces i piece → length (entries_in (take i pieces)) + length piece.items ≤ length (entries_in pieces)
part_long pieces i piece inside is =
    let long = length-flat_map-take (λ (p : Vec Entry Global). p.items) pieces i piece inside in
    omega (arith, ap (λ (p : Vec Entry Global). length p.items) is, long)

pub squares_few : (es : List Entry) → length (squares_of es) ≤ length es
squares_few es = let both = both_kinds es in omega (arith, both)

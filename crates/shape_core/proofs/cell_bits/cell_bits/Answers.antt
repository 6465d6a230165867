-- The tables have the rows of the changes and the cells in turn.
use Rattle.std.proofs.Common.{◌≡◌, ◌<◌, ◌∙◌, ℕ, [], List, map, get_or, ap, sym, arith}
use Rattle.std.proofs.lemmas.List.{get_or-map}
use Rattle.shape_core.specs.declared.words.Kind.{Kind}
use Rattle.shape_core.specs.declared.words.Kind.TheVariants as kind
use Rattle.shape_core.specs.Word.{count_from}
use Rattle.shape_core.specs.Inner.Images.{bits_row}
use Rattle.shape_core.proofs.Images.{count_from-at}
use Rattle.shape_core.proofs.cell_bits.cell_bits.Goals as goal

rows : Kind → ℕ → List (List ℕ)
rows k code = map (bits_row k code) (count_from 0 25)

row_at : (k : Kind) (code cell : ℕ) → code < 4 → cell < 25 → get_or (get_or (map (rows k) (count_from 0 4)) code []) cell [] ≡ bits_row k code cell
unfolding rows
row_at k code cell few within =
    ap (λ table. get_or table cell []) (get_or-map (rows k) (count_from 0 4) code 0 [] few)
    ∙ get_or-map (bits_row k (get_or (count_from 0 4) code 0)) (count_from 0 25) cell 0 [] within
    ∙ ap (λ i. bits_row k i (get_or (count_from 0 25) cell 0)) (count_from-at 4 0 code few ∙ (omega arith))
    ∙ ap (bits_row k code) (count_from-at 25 0 cell within ∙ (omega arith))

pub returns-in-Square : goal.returns-in-Square
unfolding bits_row rows
returns-in-Square c =
    rw c.from.ensures (row_at kind.Square c.args.change c.args.cell c.requires.change c.requires.cell)
    ∙ ap (λ k. bits_row k c.args.change c.args.cell) (sym c.in-Square.is)

pub returns-in-Diamond : goal.returns-in-Diamond
unfolding bits_row rows
returns-in-Diamond c =
    rw c.from-in-Diamond.ensures (row_at kind.Diamond c.args.change c.args.cell c.requires.change c.requires.cell)
    ∙ ap (λ k. bits_row k c.args.change c.args.cell) (sym c.in-Diamond.is)

use Rattle.std.proofs.Common.{◌≡◌, ◌++◌, refl, [], drop, take, arith, ap, ap₂, sym, ◌∙◌, subst, length}
use Rattle.std.proofs.lemmas.List.{take_all, drop_all, append-nil}
use Rattle.shape_core.specs.declared.words.Kind.{Kind}
use Rattle.shape_core.specs.declared.words.Kind.TheVariants as kind
use Rattle.sheet_core.specs.Cells.{cells_of, cells_at, cell_places}
use Rattle.sheet_core.proofs.cells.cells_of.Goals as goal

length-cell_places : (k : Kind) → length (cell_places k) ≡ 25
length-cell_places kind.Square = refl
length-cell_places kind.Diamond = refl

pub returns : goal.returns
unfolding cells_of
returns c =
    let cells = c.loop-k.cells in
    let places = c.cell_places-places.result in
    let glyphs = c.glyphs-glyphs.result in
    let k = c.loop-k.k in
    let whole : take k cells ≡ cells = take_all k cells (omega arith) in
    let none : drop k places ≡ [] = drop_all k places (omega (arith, ap length c.cell_places-places.ensures, length-cell_places c.kind.result)) in
    let rest = subst (λ left. take k cells ++ cells_at left (drop k glyphs) ≡ cells_at places glyphs) none c.loop-k.invariant.done in
    sym (append-nil cells) ∙ (ap (λ xs. xs ++ []) (sym whole) ∙ rest)
    ∙ ap₂ cells_at (c.cell_places-places.ensures ∙ ap cell_places c.kind.ensures) c.glyphs-glyphs.ensures

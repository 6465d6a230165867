use Rattle.std.proofs.Common.{◌≡◌, ◌*◌, ◌-◌, ◌^◌, ◌%◌, replicate, ap, ap₂, sym, subst, ◌∙◌}
use Rattle.go_board.specs.Extent.{Extent}
use Rattle.go_board.specs.Point.{IsOn}
use Rattle.go_board.specs.declared.points.Colour.TheVariants as colour
use Rattle.tally_core.proofs.Beginning.{row-full}
use Rattle.hits_core.proofs.Opening.{open-begins}
use Rattle.hits_core.proofs.watching.Watch.begin.Goals as goal

pub returns-clause-watched : goal.returns-clause-watched
returns-clause-watched c =
    let words = c.args.wanted.now in
    let field = c.in_ok-field.field in
    let sized : field.board.size ≡ c.size-size.result = c.in_ok-field.ensures.size in
    let columns : c.from-columns.result ≡ field.board.size.columns = c.from-columns.ensures ∙ c.columns.ensures.value ∙ ap (λ (s : Extent). s.columns) (sym sized) in
    let rows : c.from-rows.result ≡ field.board.size.rows = c.from-rows.ensures ∙ c.rows.ensures.value ∙ ap (λ (s : Extent). s.rows) (sym sized) in
    let few = c.in_ok-field.ensures.board.extent.few_columns in
    record {
      keeps = λ squares. c.kinds.ensures (sym c.in_ok-field.ensures.kinds ∙ squares);
      black = open-begins words field colour.Black c.in_ok-black.black.items
          (c.in_ok-black.ensures.items_if_clones_equal (λ y e. e) ∙ ap₂ (λ n m. replicate n (1 * 2 ^ m % 2 ^ 64 - 1)) rows columns ∙ ap (replicate field.board.size.rows) (row-full field.board.size.columns few));
      white = open-begins words field colour.White c.in_ok-white.white.items
          (c.in_ok-white.ensures.items_if_clones_equal (λ y e. e) ∙ ap₂ (λ n m. replicate n (1 * 2 ^ m % 2 ^ 64 - 1)) rows columns ∙ ap (replicate field.board.size.rows) (row-full field.board.size.columns few));
    }

pub returns-clause-begun : goal.returns-clause-begun
returns-clause-begun c =
    let sized = c.in_ok-field.ensures.size ∙ c.size-size.ensures in
    record {
      sized = sized;
      empty = λ q on. c.in_ok-field.ensures.empty q (subst (λ (s : Extent). IsOn s q) (sym c.size-size.ensures) on);
    }

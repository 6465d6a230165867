use Rattle.std.proofs.Common.{ap, ◌∙◌, ◌++◌}
use Rattle.shape_core.specs.Word.{kind_of}
use Rattle.sheet_core.specs.Cells.{cells_of}
use Rattle.sheet_core.specs.Drawing.{drawing_text, view_text, title_text, picture_text}
use Rattle.sheet_core.proofs.Joined.{three_joined}
use Rattle.sheet_core.proofs.drawing.push_drawing.Goals as goal

pub returns : goal.returns
unfolding drawing_text
returns c =
    three_joined c.args.text.now.items (view_text (kind_of c.args.word)) (title_text c.args.word) (picture_text (cells_of c.args.word))
    c.push_view.new.text.items c.push_title.new.text.items c.push_cells.new.text.items
    (c.in_ok-push_view.ensures ∙ ap (λ kind. c.args.text.now.items ++ view_text kind) c.kind.ensures)
    c.in_ok-push_title.ensures
    (c.in_ok-push_cells.ensures ∙ ap (λ cells. c.push_title.new.text.items ++ picture_text cells) c.cells_of.ensures)

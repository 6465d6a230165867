use Rattle.std.proofs.Common.{codes, ap, ◌∙◌, ◌++◌}
use Rattle.shape_core.specs.Glyph.{glyphs_of}
use Rattle.sheet_core.proofs.Joined.{three_joined}
use Rattle.sheet_core.proofs.drawing.push_title.Goals as goal

pub returns : goal.returns
returns c =
    three_joined c.args.text.now.items (codes "<title>") (glyphs_of c.args.word) (codes ", X to move in the middle</title>")
    c.extend_from_slice.new.self.items c.extend_from_slice-2.new.self.items c.extend_from_slice-3.new.self.items
    c.in_ok-extend_from_slice.ensures.items
    (c.in_ok-extend_from_slice-2.ensures.items ∙ ap (λ glyphs. c.extend_from_slice.new.self.items ++ glyphs) c.glyphs.ensures)
    c.in_ok-extend_from_slice-3.ensures.items

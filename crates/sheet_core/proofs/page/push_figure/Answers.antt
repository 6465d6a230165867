use Rattle.std.proofs.Common.{codes, map, List, ℕ, ap, ◌∙◌, ◌++◌}
use Rattle.std.specs.Borrow.{Bor}
use Rattle.sheet_core.specs.Drawing.{drawing_text}
use Rattle.sheet_core.specs.Page.{figure_text, caption_text}
use Rattle.sheet_core.specs.Places.{places_of, places_text}
use Rattle.sheet_core.proofs.Joined.{five_joined}
use Rattle.sheet_core.proofs.page.push_figure.Goals as goal

pub returns : goal.returns
unfolding figure_text
returns c =
    let entry = c.args.entry.now in
    let lines = map (λ (line : Bor (List ℕ)). line.now) c.args.lines.now in
    five_joined c.args.text.now.items (codes "<figure>") (drawing_text entry.shape) (caption_text c.args.rank entry) (places_text (places_of lines entry.shape)) (codes "</figure>\n")
    c.extend_from_slice.new.self.items c.push_drawing.new.text.items c.push_caption.new.text.items c.push_places.new.text.items c.extend_from_slice-2.new.self.items
    c.in_ok-extend_from_slice.ensures.items (c.in_ok-push_drawing.ensures ∙ ap (λ (w : ℕ). c.extend_from_slice.new.self.items ++ drawing_text w) c.word.ensures.value) c.in_ok-push_caption.ensures c.in_ok-push_places.ensures c.in_ok-extend_from_slice-2.ensures.items

use Rattle.std.proofs.Common.{codes}
use Rattle.sheet_core.specs.Page.{caption_text, name_text, uses_text, game_text}
use Rattle.sheet_core.proofs.Joined.{five_joined}
use Rattle.sheet_core.proofs.page.push_caption.Goals as goal

pub returns : goal.returns
unfolding caption_text
returns c =
    let entry = c.args.entry.now in
    five_joined c.args.text.now.items (codes "<figcaption>") (uses_text entry) (name_text c.args.rank entry) (game_text entry.first) (codes "</figcaption>")
    c.extend_from_slice.new.self.items c.push_uses.new.text.items c.push_name.new.text.items c.push_game.new.text.items c.extend_from_slice-2.new.self.items
    c.in_ok-extend_from_slice.ensures.items c.in_ok-push_uses.ensures c.in_ok-push_name.ensures c.in_ok-push_game.ensures c.in_ok-extend_from_slice-2.ensures.items

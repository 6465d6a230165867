use Rattle.std.proofs.Common.{codes}
use Rattle.std.specs.Fmt.{decimal}
use Rattle.sheet_core.specs.Page.{uses_text, share_text}
use Rattle.sheet_core.proofs.Joined.{three_joined}
use Rattle.sheet_core.proofs.page.push_uses.Goals as goal

pub returns : goal.returns
unfolding uses_text
returns c =
    three_joined c.args.text.now.items (share_text c.args.entry.now) (codes "<br>played ") (decimal c.args.entry.now.played)
    c.push_share.new.text.items c.extend_from_slice.new.self.items c.push_number.new.out.items
    c.in_ok-push_share.ensures c.in_ok-extend_from_slice.ensures.items c.in_ok-push_number.ensures.ok

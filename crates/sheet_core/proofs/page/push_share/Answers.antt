use Rattle.std.proofs.Common.{codes}
use Rattle.std.specs.Fmt.{decimal}
use Rattle.sheet_core.specs.Page.{share_text}
use Rattle.sheet_core.specs.Pieces.{hundredths_of, whole_percent_text}
use Rattle.sheet_core.proofs.Joined.{five_joined}
use Rattle.sheet_core.proofs.page.push_share.Goals as goal

pub returns : goal.returns
unfolding share_text
returns c =
    five_joined c.args.text.now.items (codes "<b>") (whole_percent_text (hundredths_of c.args.entry.now)) (codes " of ") (decimal c.args.entry.now.there) (codes "</b>")
    c.extend_from_slice.new.self.items c.push_whole_percent.new.text.items c.extend_from_slice-2.new.self.items c.push_number.new.out.items c.extend_from_slice-3.new.self.items
    c.in_ok-extend_from_slice.ensures.items c.in_ok-push_whole_percent.ensures c.in_ok-extend_from_slice-2.ensures.items c.in_ok-push_number.ensures.ok c.in_ok-extend_from_slice-3.ensures.items

use Rattle.std.proofs.Common.{codes, ap, ◌∙◌, ◌++◌}
use Rattle.std.specs.Fmt.{decimal}
use Rattle.sheet_core.specs.Page.{terms_text, order_name}
use Rattle.sheet_core.proofs.Joined.{five_joined}
use Rattle.sheet_core.proofs.page.push_terms.Goals as goal

pub returns : goal.returns
unfolding terms_text
returns c =
    five_joined c.args.text.now.items (codes ", ") (order_name c.args.order) (codes " first, each there at least this often: ") (decimal c.args.least) (codes ".</p>\n")
    c.extend_from_slice.new.self.items c.extend_from_slice-2.new.self.items c.extend_from_slice-3.new.self.items c.push_number.new.out.items c.extend_from_slice-4.new.self.items
    c.in_ok-extend_from_slice.ensures.items (c.in_ok-extend_from_slice-2.ensures.items ∙ ap (λ name. c.extend_from_slice.new.self.items ++ name) c.order_name.ensures)
    c.in_ok-extend_from_slice-3.ensures.items c.in_ok-push_number.ensures.ok c.in_ok-extend_from_slice-4.ensures.items

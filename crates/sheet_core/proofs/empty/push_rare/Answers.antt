use Rattle.std.proofs.Common.{codes, ap, ◌∙◌, ◌++◌}
use Rattle.std.specs.Fmt.{decimal}
use Rattle.sheet_core.specs.Empty.{rare_text, plural_name}
use Rattle.sheet_core.proofs.Joined.{five_joined}
use Rattle.sheet_core.proofs.empty.push_rare.Goals as goal

pub returns : goal.returns
unfolding rare_text
returns c =
    five_joined c.args.text.now.items (codes "None of the ") (plural_name c.args.kind) (codes " was there as often as ") (decimal c.args.least) (codes " times: ")
    c.extend_from_slice.new.self.items c.extend_from_slice-2.new.self.items c.extend_from_slice-3.new.self.items c.push_number.new.out.items c.extend_from_slice-4.new.self.items
    c.in_ok-extend_from_slice.ensures.items (c.in_ok-extend_from_slice-2.ensures.items ∙ ap (λ name. c.extend_from_slice.new.self.items ++ name) c.plural_name.ensures)
    c.in_ok-extend_from_slice-3.ensures.items c.in_ok-push_number.ensures.ok c.in_ok-extend_from_slice-4.ensures.items

use Rattle.std.proofs.Common.{codes, ap, ◌∙◌, ◌++◌}
use Rattle.sheet_core.specs.Empty.{absent_text, plural_name}
use Rattle.sheet_core.proofs.Joined.{three_joined}
use Rattle.sheet_core.proofs.empty.push_absent.Goals as goal

pub returns : goal.returns
unfolding absent_text
returns c =
    three_joined c.args.text.now.items (codes "The dictionary has no ") (plural_name c.args.kind) (codes ".")
    c.extend_from_slice.new.self.items c.extend_from_slice-2.new.self.items c.extend_from_slice-3.new.self.items
    c.in_ok-extend_from_slice.ensures.items (c.in_ok-extend_from_slice-2.ensures.items ∙ ap (λ name. c.extend_from_slice.new.self.items ++ name) c.plural_name.ensures)
    c.in_ok-extend_from_slice-3.ensures.items

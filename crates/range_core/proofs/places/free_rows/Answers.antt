use Rattle.std.proofs.Common.{◌≡◌, false, arith}
use Rattle.std.proofs.lemmas.Bool.Decides.{nat_tests}
use Rattle.std.proofs.lemmas.List.Elements.{recursion_from_All}
use Rattle.shape_dict.specs.declared.entries.Entry.{Entry}
use Rattle.range_core.specs.Rows.{is_taken}
use Rattle.range_core.proofs.Ways.{all_copies, none_taken}
use Rattle.range_core.proofs.places.free_rows.Goals as goal

pub returns-clause-free : goal.returns-clause-free
returns-clause-free c = none_taken c.resize.new.self.items
    (recursion_from_All (λ (row : Entry). is_taken row ≡ false) c.resize.new.self.items
    (all_copies (λ (row : Entry). is_taken row ≡ false) c.resize.new.self.items _ _ _ c.free_row.result c.clear.ensures.items c.in_ok-resize.ensures.items
    (let free = c.free_row.ensures.free in Prim.grind (arith, nat_tests))))

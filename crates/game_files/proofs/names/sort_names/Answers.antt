use Rattle.std.proofs.Common.{◌∙◌, sym, subst}
use Rattle.std.specs.Prelude.{string_bytes}
use Rattle.std.specs.String.{string_cmp, string_cmp_total, string_eq, string_eq_equiv}
use Rattle.std.specs.Cmp.Lexicographic.{texts_ties}
use Rattle.std.specs.List.Sorted.{IsStrictlySortedBy}
use Rattle.std.proofs.lemmas.List.Filters.{dedup_is}
use Rattle.std.proofs.lemmas.List.Kept.{Any-dedup, Contains-from_dedup, IsStrictlySortedBy-dedup}
use Rattle.std.proofs.lemmas.List.Sorted.{Contains-permutation, IsPermutation-sym}
use Rattle.std.proofs.lemmas.Slice.Eq.{bytes_eq-Decides}
use Rattle.game_files.proofs.names.sort_names.Goals as goal

pub returns-clause-sorted : goal.returns-clause-sorted
returns-clause-sorted c =
    let sorted = c.sort_unstable.new.self.items in
    subst (IsStrictlySortedBy string_cmp) (sym (dedup_is string_eq sorted c.dedup.new.self.items c.dedup.ensures.filtered))
    (IsStrictlySortedBy-dedup string_cmp_total (λ x y. texts_ties (string_bytes x) (string_bytes y)) sorted c.sort_unstable.ensures.sorted)

pub returns-clause-kept : goal.returns-clause-kept
returns-clause-kept c name has =
    let sorted = c.sort_unstable.new.self.items in
    let same = dedup_is string_eq sorted c.dedup.new.self.items c.dedup.ensures.filtered in
    let among = Contains-permutation c.args.names.now.items sorted has.1 c.sort_unstable.ensures.permutation (has.0, has.2, has.3) in
    let any = Any-dedup string_eq_equiv sorted has.1 among in
    let bytes = (bytes_eq-Decides (string_bytes has.1) (string_bytes any.1)).0 any.4 in
    rw same (any.0, any.1, any.2, any.3, sym bytes ∙ has.4)

pub returns-clause-only : goal.returns-clause-only
returns-clause-only c name has =
    let sorted = c.sort_unstable.new.self.items in
    let same = dedup_is string_eq sorted c.dedup.new.self.items c.dedup.ensures.filtered in
    let here = Contains-from_dedup string_eq sorted has.1 (rw (← same) (has.0, has.2, has.3)) in
    let among = Contains-permutation sorted c.args.names.now.items has.1 (IsPermutation-sym c.args.names.now.items sorted c.sort_unstable.ensures.permutation) here in
    (among.0, has.1, among.1, among.2, has.4)

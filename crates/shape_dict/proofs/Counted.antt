-- Each entry is a square or a diamond: the diamonds are what the squares leave.
use Rattle.std.proofs.Common.{◌≡◌, ℕ, ◌+◌, ◌-◌, Bool, true, false, List, length, refl, ap, arith, Some}
use Rattle.std.proofs.lemmas.List.Filters.{length-filter_both}
use Rattle.shape_core.specs.declared.words.Kind.TheVariants as kind
use Rattle.shape_dict.specs.declared.entries.Entry.{Entry}
use Rattle.shape_dict.specs.Contents.{is_of, squares_of, diamonds_of}
use Rattle.shape_dict.specs.Text.{diamonds_counted}

pub both_kinds : (es : List Entry) → length (squares_of es) + length (diamonds_of es) ≡ length es
both_kinds es = length-filter_both (is_of kind.Square) (is_of kind.Diamond) (λ e. refl) es

pub rest_counted : (counted : Bool) (es : List Entry) (all squares : ℕ) → counted ≡ true → all ≡ length es → squares ≡ length (squares_of es) → Some (all - squares) ≡ diamonds_counted counted es
rest_counted true es all squares is whole part =
    let both = both_kinds es in
    let rest : all - squares ≡ length (diamonds_of es) = omega arith in
    ap Some rest
rest_counted false es all squares is whole part = cc

use Rattle.std.proofs.Common.{◌∙◌, ◌≡◌, ap, sym, codes, map, Some, None, List, [], ℕ, Option}
use Rattle.std.specs.Prelude.{unwrap_or}
use Rattle.std.specs.Borrow.{Bor}
use Rattle.clap.specs.Words.{all_of, found_of}
use Rattle.clap.proofs.WalkLemmas.{raw_values-rows}
use Rattle.command_lines.specs.Values.{rows_in}
use Rattle.command_lines.proofs.values.words_of.Goals as goal

pub returns-in_default : goal.returns-in_default
returns-in_default c =
    let name = c.args.name.now in
    let rows = rows_in c.args.matches.now in
    let none : all_of name rows ≡ None = sym (raw_values-rows (found_of c.args.matches.now) name) ∙ sym c.in_default.ensures in
    ap (λ (items : List (Bor (List ℕ))). map (λ word. word.now) items) c.new.ensures.items ∙ sym (ap (λ (o : Option (List (List ℕ))). unwrap_or o []) none)

pub returns : goal.returns
returns c =
    let name = c.args.name.now in
    let rows = rows_in c.args.matches.now in
    let same = c.in_ok-words.ensures.items_if_clones_equal (λ x y is. is) in
    let some : all_of name rows ≡ Some (map (λ (word : Bor (List ℕ)). word.now) c.in_ok-words.words.items) =
    sym (raw_values-rows (found_of c.args.matches.now) name) ∙ sym c.in-Some.ensures
    ∙ ap (λ (values : List (Bor (List ℕ))). Some (map (λ word. word.now) values)) (sym same) in
    sym (ap (λ (o : Option (List (List ℕ))). unwrap_or o []) some)

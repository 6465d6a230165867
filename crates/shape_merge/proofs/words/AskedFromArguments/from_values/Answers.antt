use Rattle.std.proofs.Common.{ap, inr, refl, sym, ◌∙◌, codes, map, Some, List, ℕ}
use Rattle.std.specs.Borrow.{Bor}
use Rattle.clap.specs.Words.{found_of}
use Rattle.clap.proofs.WalkLemmas.{raw_values-rows}
use Rattle.command_lines.specs.Values.{rows_in}
use Rattle.shape_merge.proofs.Asked.{no_join_least, no_join_names}
use Rattle.shape_merge.proofs.words.AskedFromArguments.from_values.Goals as goal

pub returns-in_default-optional_number-clause-fault : goal.returns-in_default-optional_number-clause-fault
returns-in_default-optional_number-clause-fault c = inr (refl, no_join_least (rows_in c.args.matches.now) c.in_default-optional_number.ensures.none)

pub returns-in_default-get_strs-clause-fault : goal.returns-in_default-get_strs-clause-fault
returns-in_default-get_strs-clause-fault c =
    let matches = c.args.matches.now in
    inr (refl, no_join_names (rows_in matches) (sym (raw_values-rows (found_of matches) (codes "dictionaries")) ∙ sym c.in_default-get_strs.ensures))

pub returns-clause-asked : goal.returns-clause-asked
returns-clause-asked c =
    let found = found_of c.args.matches.now in
    let same = c.in_ok-names.ensures.items_if_clones_equal (λ x y is. is) in
    record {
      text = c.in-Some.ensures.text;
      least = c.in-Some-optional_number.ensures.number;
      out = c.word_of.ensures;
      names = sym (raw_values-rows found (codes "dictionaries")) ∙ sym c.in-Some-get_strs.ensures
          ∙ ap (λ (names : List (Bor (List ℕ))). Some (map (λ name. name.now) names)) (sym same);
    }

use Rattle.std.proofs.Common.{codes, refl, sym, subst, inl, inr}
use Rattle.std.proofs.lemmas.Result.{err_from_is_err_and}
use Rattle.command_lines.specs.Values.{IsOptionalNumberOf, rows_in}
use Rattle.shape_hits.proofs.words.AskedFromArguments.from_values.Goals as goal

pub returns-in_err-shape-clause-fault : goal.returns-in_err-shape-clause-fault
returns-in_err-shape-clause-fault c =
    let p = err_from_is_err_and c.from_residual.result c.from_residual.ensures.1 in
    rw (p.1, p.2) (inr (inl c.in_err-shape.ensures.fault))

pub returns-in_default-clause-fault : goal.returns-in_default-clause-fault
returns-in_default-clause-fault c = inr (inr (refl, inl c.in_default.ensures.none))

pub returns-in_default-small_number-clause-fault : goal.returns-in_default-small_number-clause-fault
returns-in_default-small_number-clause-fault c = inr (inr (refl, inr c.in_default-small_number.ensures.none))

pub returns-clause-asked : goal.returns-clause-asked
returns-clause-asked c =
    record {
      patterns = c.in_ok-shape.ensures.patterns;
      words = c.word_of.ensures;
      sought = c.search_of-search.ensures.sought;
      most = subst (IsOptionalNumberOf (codes "most") (rows_in c.args.matches.now)) (sym c.search_of-search.ensures.most) c.in-Some.ensures.number;
      shown = c.search_of-search.ensures.shown;
      spelling = c.search_of-search.ensures.spelling;
      first = c.search_of-search.ensures.first;
      no_name = c.search_of-search.ensures.name;
      workers = c.in-Some-small_number.ensures.number;
      folder = c.word_of-2.ensures;
      names = c.in_ok-names.ensures;
    }

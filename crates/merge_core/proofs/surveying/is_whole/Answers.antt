use Rattle.std.proofs.Common.{rules, ◌≡◌, subst, arith, ℕ}
use Rattle.shape_dict.specs.declared.headers.Header.{Header}
use Rattle.merge_core.specs.Inner.Surveys.{Fits, IsFront}
use Rattle.merge_core.proofs.surveying.is_whole.Goals as goal

pub returns : goal.returns
returns g c = λ yes.
    let header = c.in-Some.header in
    let same : c.in-Ok.found ≡ header = search rules in
    let fits : Fits header c.args.tally = search rules in
    let at : c.in-Ok.place ≡ c.in-Some-place_at.from = omega arith in
    record {
      header = header;
      from = c.in-Some-place_at.from;
      to = c.in-Some-place_at-2.to;
      is_header = c.in-Some.ensures;
      is_from = c.in-Some-place_at.ensures;
      is_to = c.in-Some-place_at-2.ensures;
      fits = fits;
      front = λ text known. subst (λ (h : Header). IsFront text h c.in-Some-place_at.from) same (subst (λ (n : ℕ). IsFront text c.in-Ok.found n) at (c.in-Ok.ensures text known));
      end = λ text known. c.ends_at.ensures yes text known;
    }

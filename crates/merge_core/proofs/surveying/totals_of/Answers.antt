use Rattle.std.proofs.Common.{◌≡◌, take, ap, subst, ◌∙◌, arith, List}
use Rattle.std.specs.List.{AllByRecursion, sum_by}
use Rattle.std.proofs.lemmas.List.{take_all}
use Rattle.shape_dict.specs.declared.headers.Header.{Header}
use Rattle.shape_dict.specs.Reading.{counts_of}
use Rattle.merge_core.proofs.surveying.totals_of.Goals as goal

pub returns : goal.returns
returns c =
    let h = c.loop-header.invariant in
    let kind = c.in_ok-counts_diamonds.field-0 in
    let all : take c.loop-header.header-index c.args.headers.now ≡ c.args.headers.now = take_all c.loop-header.header-index c.args.headers.now (omega arith) in
    let some = h.some kind c.in_ok-counts_diamonds.was in
    record {
      some = omega (arith, some);
      games = h.games ∙ ap (sum_by (λ (x : Header). x.games)) all;
      moves = h.moves ∙ ap (sum_by (λ (x : Header). x.moves)) all;
      kinds = subst (λ (xs : List Header). AllByRecursion (λ x. counts_of x ≡ kind) xs) all (h.kinds kind c.in_ok-counts_diamonds.was);
      few_games = h.few_games;
      few_moves = h.few_moves;
    }

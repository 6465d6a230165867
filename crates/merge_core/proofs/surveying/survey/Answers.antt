use Rattle.std.proofs.Common.{rules, ◌≡◌, ◌-◌, length, Some, ℕ, List, arith, ap, sym, subst, ◌∙◌}
use Rattle.std.specs.List.{slice_get}
use Rattle.shape_dict.specs.declared.headers.Header.{Header}
use Rattle.merge_core.specs.declared.cuts.Cut.{Cut}
use Rattle.merge_core.specs.declared.tallies.Tally.{Tally}
use Rattle.merge_core.specs.Inner.Surveys.{IsWhole, IsTotalsOf}
use Rattle.merge_core.proofs.Assembled.{surveyed}
use Rattle.merge_core.proofs.surveying.survey.Goals as goal

pub returns-clause-surveyed : goal.returns-clause-surveyed
returns-clause-surveyed g c =
    let bytes = g.S.Sources.bytes c.args.sources.now in
    let plan = c.args.plan.now in
    let low = c.in-Some.low.now in
    let high = c.in-Some-cut_at.high.now in
    let each = c.as_slice-each.result.now in
    let headers = c.as_slice-headers.result.now in
    let wholes : (n : ℕ) → (t : Tally) → slice_get each n ≡ Some t → IsWhole bytes headers low high n t = search rules in
    let same = c.as_slice-headers.ensures.value in
    let listed = c.as_slice-each.ensures.value in
    let cuts = c.as_slice-cuts.ensures.value in
    let moved : (n : ℕ) → (t : Tally) → slice_get c.in-Ok.ranged.each.items n ≡ Some t → IsWhole bytes plan.headers.items low high n t =
    λ n t at. subst (λ (hs : List Header). IsWhole bytes hs low high n t) same (wholes n t (ap (λ (ts : List Tally). slice_get ts n) listed ∙ at)) in
    let totals = subst (λ (hs : List Header). IsTotalsOf hs c.in-Some-totals_of.totals) same c.in-Some-totals_of.ensures in
    surveyed bytes plan (length c.as_slice-cuts.result.now - 1) c.in-Ok.ranged low high c.in-Some-totals_of.totals c.in-Ok.ensures (omega (arith, ap length cuts))
    (ap (λ (cs : List Cut). slice_get cs 0) (sym cuts) ∙ c.in-Some.ensures) (ap (λ (cs : List Cut). slice_get cs (length c.as_slice-cuts.result.now - 1)) (sym cuts) ∙ c.in-Some-cut_at.ensures) moved totals

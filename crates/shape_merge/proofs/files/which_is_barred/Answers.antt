use Rattle.std.proofs.Common.{arith, ◌≡◌, ◌<◌, ◌∙◌, ap, sym, subst, length, Some, List, get_or}
use Rattle.std.specs.Prelude.{slice_get}
use Rattle.std.proofs.lemmas.Option.{slice_get-get_or}
use Rattle.shape_merge.specs.declared.files.FileIdentity.{FileIdentity}
use Rattle.shape_merge.specs.declared.files.FileIdentity.TheVariants as identity
use Rattle.shape_merge.proofs.Barred.{free_here, free_more}
use Rattle.shape_merge.proofs.files.which_is_barred.Goals as goal

pub loop-k-preserved : goal.loop-k-preserved
loop-k-preserved c =
    let asked = c.args.asked.now in
    let sights = c.args.sights.now in
    let k = c.loop-k.k in
    let name = c.index-name.result.now in
    let all = c.deref-dictionary-items.result.now in
    let dictionary = get_or all k identity.Nothing in
    let lt : k < length asked.names.items = omega (arith, c.loop-k-test.true, c.deref-dictionary-items.ensures.len, c.requires, asked.names.ok) in
    let named : slice_get asked.names.items k ≡ Some name = slice_get-get_or asked.names.items k name lt ∙ ap Some (sym c.index-name.ensures) in
    let identified : slice_get sights.dictionaries.items k ≡ Some dictionary = subst (λ (xs : List FileIdentity). slice_get xs k ≡ Some dictionary) c.deref-dictionary-items.ensures.value (slice_get-get_or all k identity.Nothing c.loop-k-test.true) in
    free_more asked sights k c.loop-k.invariant (free_here asked sights k name dictionary named identified (λ barred. let bad = c.if-is_barred.ensures.1 barred in cc))

pub returns : goal.returns
returns c =
    λ k lt. c.loop-k.invariant k (omega (arith, lt, c.loop-k-test.false, c.deref-dictionary-items.ensures.len, c.requires))

use Rattle.std.proofs.Common.{◌∙◌, ap, sym, refl, subst, get_or, inl, rules}
use Rattle.std.proofs.lemmas.List.Elements.{Contains-get_or}
use Rattle.std.proofs.lemmas.List.Sorted.{answers_always}
use Rattle.std.specs.List.Sorted.{IsStrictlyIncreasing}
use Rattle.shape_keys.specs.Entries.{shapes_in, entry_in}
use Rattle.shape_keys.specs.Found.{IsFoundAs}
use Rattle.shape_keys.proofs.Rising.{none, found_shape, found_there, found_nowhere, entry_said, shapes_said}
use Rattle.shape_keys.proofs.finding.shapes_find.Goals as goal

pub returns-in-Ok-clause-rises : goal.returns-in-Ok-clause-rises
returns-in-Ok-clause-rises c = λ rises.
    let es = c.args.entries.now in
    let at = c.in-Ok.place in
    let facts = c.in-Ok.ensures in
    let by_shape = facts.position (λ entry. entry.shape) (answers_always _ _ _ (λ f a r g called. search rules)) in
    let is = found_there c.args.shape es rises at facts.bound by_shape in
    subst (λ o. IsFoundAs o c.number.result c.args.entry.now (get_or es at none)) (sym is) (c.number.ensures, refl)

pub returns-in-Ok-clause-some : goal.returns-in-Ok-clause-some
returns-in-Ok-clause-some c =
    let es = c.args.entries.now in
    let at = c.in-Ok.place in
    let facts = c.in-Ok.ensures in
    let by_shape = facts.position (λ entry. entry.shape) (answers_always _ _ _ (λ f a r g called. search rules)) in
    inl (c.number.ensures, found_shape c.args.shape es at by_shape, Contains-get_or es at none facts.bound)

pub returns-in-Err-clause-rises : goal.returns-in-Err-clause-rises
returns-in-Err-clause-rises c = λ rises.
    let es = c.args.entries.now in
    let facts = c.in-Err.ensures in
    let by_shape = facts.position (λ entry. entry.shape) (answers_always _ _ _ (λ f a r g called. search rules)) in
    let is = found_nowhere c.args.shape es rises _ facts.bound by_shape in
    subst (λ o. IsFoundAs o c.number-in-Err.result c.args.entry.now c.args.entry.now) (sym is) (c.number-in-Err.ensures, refl)

pub returns-in-Ok-clause-dictionary : goal.returns-in-Ok-clause-dictionary
returns-in-Ok-clause-dictionary c = λ contents is said_as.
    let old = c.args.entry.now in
    let new = get_or c.args.entries.now c.in-Ok.place none in
    let rises : IsStrictlyIncreasing (shapes_in c.args.entries.now) = rw said_as (rw (shapes_said contents.entries) is.rises) in
    let found = returns-in-Ok-clause-rises c rises in
    let same = ap (entry_in c.args.shape) said_as ∙ entry_said c.args.shape contents.entries in
    subst (λ o. IsFoundAs o c.number.result old new) same found

pub returns-in-Err-clause-dictionary : goal.returns-in-Err-clause-dictionary
returns-in-Err-clause-dictionary c = λ contents is said_as.
    let old = c.args.entry.now in
    let rises : IsStrictlyIncreasing (shapes_in c.args.entries.now) = rw said_as (rw (shapes_said contents.entries) is.rises) in
    let found = returns-in-Err-clause-rises c rises in
    let same = ap (entry_in c.args.shape) said_as ∙ entry_said c.args.shape contents.entries in
    subst (λ o. IsFoundAs o c.number-in-Err.result old old) same found

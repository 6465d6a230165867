use Rattle.std.proofs.Common.{ap, subst, refl, ◌∙◌, List, map}
use Rattle.std.specs.List.{filter}
use Rattle.std.specs.List.Sorted.{IsPermutation, IsStrictlyIncreasing}
use Rattle.shape_dict.specs.declared.entries.Entry.{Entry}
use Rattle.sheet_core.specs.Inner.Choice.{qualifies}
use Rattle.sheet_core.proofs.Chosen.{choice_made}
use Rattle.sheet_core.proofs.choosing.choose.Goals as goal

pub returns : goal.returns
returns c =
    choice_made c.args.order c.args.kind c.args.least c.args.most c.args.dictionary.now.entries c.sort.new.entries.items c.truncate.new.self.items
    (subst (λ (es : List Entry). IsStrictlyIncreasing (map (λ entry. entry.shape) es)) (refl) c.entries.ensures.dictionary.rises)
    (subst (λ (es : List Entry). IsPermutation es c.sort.new.entries.items) (c.in_ok-chosen.ensures ∙ ap (filter (qualifies c.args.kind c.args.least)) c.entries.ensures.value) c.sort.ensures.same)
    c.sort.ensures.sorted c.truncate.ensures.items

use Rattle.std.proofs.Common.{◌≡◌, ◌∙◌, sym, ap, rules}
use Rattle.std.proofs.lemmas.List.Sorted.{answers_always}
use Rattle.shape_dict.specs.Contents.{entry_of}
use Rattle.shape_dict.proofs.Searched.{found_there, found_nowhere}
use Rattle.shape_dict.proofs.finding.find_entry.Goals as goal

pub returns-in-Ok : goal.returns-in-Ok
returns-in-Ok c =
    let es = c.args.entries.now in
    let shape : c.bits-word.result ≡ c.args.shape = search rules in
    let facts = c.in-Ok.ensures in
    let by_shape = facts.position (λ entry. entry.shape) (answers_always _ _ _ (λ f a r g called. search rules)) in
    sym (found_there c.bits-word.result es c.requires c.in-Ok.place _ facts.bound by_shape c.index-entries-place.is) ∙ ap (λ s. entry_of s es) shape

pub returns-in-Err : goal.returns-in-Err
returns-in-Err c =
    let es = c.args.entries.now in
    let shape : c.bits-word.result ≡ c.args.shape = search rules in
    let facts = c.in-Err.ensures in
    let by_shape = facts.position (λ entry. entry.shape) (answers_always _ _ _ (λ f a r g called. search rules)) in
    sym (found_nowhere c.bits-word.result es c.requires _ facts.bound by_shape) ∙ ap (λ s. entry_of s es) shape

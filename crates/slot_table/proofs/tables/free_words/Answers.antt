use Rattle.std.proofs.Common.{◌≡◌, ◌+◌, ◌*◌, ◌/◌, ◌%◌, ◌++◌, ℕ, List, [], ◌∷◌, ◌∙◌, ap, arith}
use Rattle.std.specs.List.{repeat, each_same}
use Rattle.slot_table.proofs.Pairs.{repeat_runs}
use Rattle.slot_table.proofs.tables.free_words.Goals as goal

pub returns-clause-items : goal.returns-clause-items
returns-clause-items c =
    let free : List ℕ = 0 ∷ 0xFFFF_FFFF_FFFF_FFFF ∷ [] in
    let q = c.args.slots / 1024 in
    let r = c.args.slots % 1024 in
    let run = each_same (repeat 1024 free) c.in_ok-run.run'.items c.in_ok-run.ensures.items in
    let words = each_same (repeat q c.as_slice.result.now) c.in_ok-words.words.items c.in_ok-words.ensures.items in
    let rest = each_same (repeat r free) c.in_ok-rest.rest.items c.in_ok-rest.ensures.items in
    c.in_ok-append.ensures.items
    ∙ ap (λ (l : List ℕ). l ++ c.in_ok-rest.rest.items) (words ∙ ap (λ (l : List ℕ). repeat q l) (c.as_slice.ensures.value ∙ run))
    ∙ ap (λ (l : List ℕ). repeat q (repeat 1024 free) ++ l) rest
    ∙ repeat_runs q 1024 r free
    ∙ ap (λ (k : ℕ). repeat k free) (omega arith)

use Rattle.std.proofs.Common.{List, [], ◌∷◌, ◌++◌, sym, subst, append_assoc}
use Rattle.std.proofs.lemmas.List.{append-nil}
use Rattle.shape_dict.specs.declared.entries.Entry.{Entry}
use Rattle.merge_core.specs.Inner.Trees.{Yields}
use Rattle.merge_core.proofs.Counted.{counted_more, none_counted}
use Rattle.merge_core.proofs.Unmerged.{fault_after}
use Rattle.merge_core.proofs.counting.tally_of_kept.Goals as goal

pub loop-place-init : goal.loop-place-init
loop-place-init g c = record {
  counted = λ all y. none_counted c.args.least c.no_tally-counts.result (Yields g.E.Entries.yields c.args.tree) all (c.no_tally-counts.ensures c.args.least) y;
  came = ([], c.no_tally-counts.ensures c.args.least, λ others y. y);
}

pub returns-in-Err-clause-all : goal.returns-in-Err-clause-all
returns-in-Err-clause-all g c = λ all y.
    let h = c.loop-place.invariant.counted all y in
    fault_after h.given h.others all c.in-Err.fault h.parts (c.in-Err.ensures.next h.others h.rest)

pub returns-in-Ok-None-clause-came : goal.returns-in-Ok-None-clause-came
returns-in-Ok-None-clause-came g c =
    let next = rw c.in-Ok-None.field-0-is at c.in-Ok-None.ensures in
    let h = c.loop-place.invariant.came in
    (h.0, h.1, subst (λ (xs : List Entry). Yields g.E.Entries.came c.args.tree xs) (append-nil h.0) (h.2 [] next.came))

pub loop-place-preserved : goal.loop-place-preserved
loop-place-preserved g c =
    let next = rw c.in-Ok-Some.field-0-is at c.in-Ok-Some.ensures in
    let entry = c.in-Ok-Some.entry in
    let h = c.loop-place.invariant.came in
    let follow : (others : List Entry) → Yields g.E.Entries.came c.next_of.new.tree others → Yields g.E.Entries.came c.args.tree ((h.0 ++ entry ∷ []) ++ others) = λ others y.
    subst (λ (xs : List Entry). Yields g.E.Entries.came c.args.tree xs) (sym (append_assoc h.0 (entry ∷ []) others)) (h.2 (entry ∷ others) (next.came others y)) in
    record {
      counted = λ all y. counted_more c.args.least c.loop-place.counts c.in-Some.next (Yields g.E.Entries.yields c.loop-place.tree) (Yields g.E.Entries.yields c.next_of.new.tree) all entry (c.loop-place.invariant.counted all y) next.next c.in-Some.ensures;
      came = (h.0 ++ entry ∷ [], c.in-Some.ensures h.0 h.1, follow);
    }

use Rattle.std.proofs.Common.{◌≡◌, true, List, Result, Ok, IfOk, length, ap, sym, subst, ◌∙◌, All}
use Rattle.std.proofs.lemmas.List.Elements.{All-append}
use Rattle.gather_core.proofs.Common.{Entry}
use Rattle.range_core.specs.Totals.{total_of, everything}
use Rattle.range_core.specs.Ranges.{AreDealtBy}
use Rattle.range_core.specs.Words.{word_ranges, range_of_word}
use Rattle.gather_core.specs.Inner.Taking.{IsTaken}
use Rattle.gather_core.specs.Numbering.{IsNumbered}
use Rattle.gather_core.proofs.Taken.{both_totals, everything_append, numbered_later, numbered_both}
use Rattle.gather_core.proofs.taking.+taking.Goals.{take_both-then-numbered, take_both-else-numbered}
use Rattle.range_core.proofs.SmallSums.{small_parts}
use Rattle.gather_core.proofs.taking.+taking.Goals as goal

pub take_ranges-take_both-requires-clause-low : goal.take_ranges-take_both-requires-clause-low
take_ranges-take_both-requires-clause-low g t c κs within =
    (small_parts c.args.ranges.items c.split_off.new.self.items c.in_ok-high.high.items _ c.in_ok-high.ensures.items c.in_ok-high.ensures.tail c.requires.small).0

pub take_ranges-take_both-requires-clause-high : goal.take_ranges-take_both-requires-clause-high
take_ranges-take_both-requires-clause-high g t c κs within =
    (small_parts c.args.ranges.items c.split_off.new.self.items c.in_ok-high.high.items _ c.in_ok-high.ensures.items c.in_ok-high.ensures.tail c.requires.small).1

-- what a thread has taken, if it answers that
taken_at : {T E : Type 0} (P : T → Type 0) (r : Result T E) (x : T) → r ≡ Ok x → IfOk r P → P x
taken_at {T} {E} P r x is h = subst (λ (o : Result T E). IfOk o P) is h

pub take_both-returns-clause-taken : goal.take_both-returns-clause-taken
take_both-returns-clause-taken g t c =
    let numbering = c.args.numbering.now in
    let front = c.args.low.items in
    let back = c.args.high.items in
    let low = c.in_ok-pass.field-0 in
    let high = c.in_ok-theirs.field-0 in
    let one : IsTaken numbering front low = taken_at (IsTaken numbering front) _ low c.in_ok-pass.was c.join-low.ensures.first.0 in
    let other : IsTaken numbering back high = taken_at (IsTaken numbering back) _ high c.in_ok-theirs.was c.join-low.ensures.second.0 in
    let some = low.lists.items in
    let more = high.lists.items in
    let items = c.in_ok-append.ensures.items in
    let met = c.absorb.ensures.met in
    let n = numbering.table.now.slots in
    let seen = c.absorb.new.pass.seen in
    let Long = λ (lists : List (List Entry)). length lists ≡ word_ranges in
    let Dealt = AreDealtBy (range_of_word numbering.cuts.now) in
    let both : c.if-numbered.result ≡ true → (low.numbered ≡ true) × (high.numbered ≡ true) =
    λ told. elim c.if-numbered.branch [
      | take_both-then-numbered w ↦ (w.if-numbered.true, sym w.result-is ∙ told)
      | take_both-else-numbered w ↦ absurd (cc)
    ] in
    record {
      pass = c.absorb.ensures.pass;
      long = subst (All Long) (sym items) (All-append Long some more one.long other.long);
      dealt = subst (All Dealt) (sym items) (All-append Dealt some more one.dealt other.dealt);
      totals = λ shape. ap (λ (l : List (List (List Entry))). total_of shape (everything l)) items ∙ both_totals some more front back one.totals other.totals shape;
      numbered = λ told shape.
          subst (IsNumbered n seen shape) (sym (ap (λ (l : List (List (List Entry))). total_of shape (everything l)) items ∙ everything_append shape some more))
          (numbered_both c.absorb.ensures.pass.legal shape (total_of shape (everything some)) (total_of shape (everything more))
          (numbered_later shape (total_of shape (everything some)) met.keeps_one (one.numbered (both told).0 shape))
          (numbered_later shape (total_of shape (everything more)) met.keeps_other (other.numbered (both told).1 shape)));
    }

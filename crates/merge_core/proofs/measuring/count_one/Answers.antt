use Rattle.std.proofs.Common.{◌++◌, ◌∷◌, [], ap, sym, subst, ◌∙◌, arith, List}
use Rattle.std.proofs.lemmas.List.{append-nil}
use Rattle.shape_dict.specs.declared.entries.Entry.{Entry}
use Rattle.merge_core.specs.declared.tallies.Tally.{Tally}
use Rattle.merge_core.specs.Inner.Ranges.{IsCountOf, AreTallies}
use Rattle.merge_core.proofs.measuring.count_one.Goals as goal

pub returns : goal.returns
returns g c =
    let h = c.in-Ok.ensures.0 in
    let ts = c.in-Ok.ensures.1 in
    record {
      low = h.low;
      high = h.high;
      is_low = h.is_low;
      is_high = h.is_high;
      has = h.has;
      joined = subst (λ (es : List Entry). IsCountOf c.args.plan.now.least es c.in-Some.tally) (c.deref.ensures.value ∙ sym h.same) c.in-Some.ensures;
      each = subst (λ (xs : List Tally). AreTallies h.has.pieces xs) (sym (ts.1 ∙ ap (λ (xs : List Tally). xs ++ ts.0) c.new-each.ensures.items)) ts.2;
      parts = c.in-Ok.joined.entries.items ∷ [];
      number = omega arith;
      are_parts = (h, tt);
      all = h.same ∙ sym (append-nil c.in-Ok.joined.entries.items);
    }

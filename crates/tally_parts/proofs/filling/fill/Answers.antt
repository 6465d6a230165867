use Rattle.std.proofs.Common.{ℕ, ◌+◌, ◌<◌, Bool, List, [], ◌∷◌, ◌++◌, length, refl, ap, subst, ◌∙◌, arith}
use Rattle.batch_core.specs.Batch.{joined}
use Rattle.tally_parts.specs.Inner.Filling.{IsSorted, waiting_of}
use Rattle.tally_parts.proofs.Good.{input_here}
use Rattle.tally_parts.proofs.Filled.{put_out, put_one, filled_waits}
use Rattle.tally_parts.proofs.filling.fill.Goals as goal

pub loop-n-preserved-then-not-branch : goal.loop-n-preserved-then-not-branch
loop-n-preserved-then-not-branch g c =
    let h = c.loop-n.invariant in
    let n = c.loop-n.n in
    record {
      number = c.in_ok-read_next.ensures.number ∙ h.number;
      bytes = c.in_ok-read_next.ensures.bytes ∙ h.bytes;
      waits = c.in_ok-read_next.ensures.waits ∙ h.waits;
      next = c.in_ok-read_next.ensures.next;
      on = omega (arith, h.on);
      within = omega arith;
      put = λ all i many.
          let lt : n < length all = omega (arith, many) in
          let here = input_here (g.T.Texts.bytes c.args.texts.now) (g.T.Texts.bytes c.loop-n.texts) all n h.bytes i lt in
          let out = subst (λ (b : Bool). IsSorted here.0 b c.read_next.new.feed.room.items) c.if-not-branch.true (c.in_ok-read_next.ensures.sorted here.0 here.1) in
          put_out all c.args.feed.now n (n + 1) here.0 c.loop-n.part.items (omega arith) here.2 out (h.put all i many);
    }

pub returns-then-not-fits-clause-filled : goal.returns-then-not-fits-clause-filled
returns-then-not-fits-clause-filled g c = λ all i many begun.
    let h = c.loop-n.invariant in
    let n = c.loop-n.n in
    let lt : n < length all = omega (arith, many) in
    let here = input_here (g.T.Texts.bytes c.args.texts.now) (g.T.Texts.bytes c.loop-n.texts) all n h.bytes i lt in
    let good = subst (λ (b : Bool). IsSorted here.0 b c.read_next.new.feed.room.items) c.if-not-branch.false (c.in_ok-read_next.ensures.sorted here.0 here.1) in
    filled_waits all c.args.feed.now _ n here.0 c.loop-n.part.items (omega (arith, c.in_ok-read_next.ensures.next)) lt here.2 good.0 refl good.1 (h.put all i many)

pub loop-n-preserved : goal.loop-n-preserved
loop-n-preserved g c =
    let h = c.loop-n.invariant in
    let n = c.loop-n.n in
    record {
      number = c.in_ok-read_next.ensures.number ∙ h.number;
      bytes = c.in_ok-read_next.ensures.bytes ∙ h.bytes;
      waits = c.in_ok-read_next.ensures.waits ∙ h.waits;
      next = c.in_ok-read_next.ensures.next;
      on = omega (arith, h.on);
      within = omega arith;
      put = λ all i many.
          let lt : n < length all = omega (arith, many) in
          let here = input_here (g.T.Texts.bytes c.args.texts.now) (g.T.Texts.bytes c.loop-n.texts) all n h.bytes i lt in
          let good = subst (λ (b : Bool). IsSorted here.0 b c.read_next.new.feed.room.items) c.if-not-branch.false (c.in_ok-read_next.ensures.sorted here.0 here.1) in
          let put = h.put all i many in
          let before = waiting_of c.args.feed.now ++ put.good in
          put_one all c.args.feed.now n (n + 1) here.0 c.loop-n.part.items c.push_text.new.texts.items (omega arith) here.2 good.0 put
          (c.in_ok-push_text.ensures.pushed before put.joined_is ∙ ap (λ (x : List ℕ). joined (before ++ x ∷ [])) (c.as_slice.ensures.value ∙ good.1));
    }

use Rattle.std.proofs.Common.{◌≡◌, ◌∙◌, ◌++◌, ◌∷◌, [], ◌+◌, ◌-◌, ℕ, List, map, take, drop, length, ap, sym, arith}
use Rattle.std.specs.Borrow.{Bor}
use Rattle.std.proofs.lemmas.List.{map-append}
use Rattle.sheet_core.specs.Places.{lines_after}
use Rattle.sheet_core.proofs.Placing.{line_ends, line_grows, lines_end}
use Rattle.sheet_core.proofs.places.lines_of.Goals as goal
use Rattle.sheet_core.proofs.places.lines_of.Goals.{then-bytes-place-eq10+in_ok-push, else-bytes-place-eq10}

pub loop-place-preserved : goal.loop-place-preserved
loop-place-preserved c =
    let is = c.loop-place.invariant in
    let bytes = c.args.bytes.now in
    let start = c.loop-place.start in
    let place = c.loop-place.place in
    let rest = drop (place + 1) bytes in
    let now : List (Bor (List ℕ)) → List (List ℕ) = map (λ (line : Bor (List ℕ)). line.now) in
    elim c.if-bytes-place-eq10.branch [
      | then-bytes-place-eq10+in_ok-push w ↦ rw (w.lines-is, w.start-is) (record {
        order = omega arith;
        inside = omega (arith, c.loop-place-test.true);
        same = ap (λ (xs : List (List ℕ)). xs ++ lines_after (take (place + 1 - (place + 1)) rest) rest) (ap now w.in_ok-push.ensures.items ∙ map-append (λ (line : Bor (List ℕ)). line.now) c.loop-place.lines.items _)
            ∙ line_ends (now c.loop-place.lines.items) bytes (lines_after [] bytes) start place c.loop-place-test.true w.if-bytes-place-eq10.true is.same;
      })
      | else-bytes-place-eq10 w ↦ rw (w.lines-is, w.start-is) (record {
        order = omega (arith, is.order);
        inside = is.inside;
        same = line_grows (now c.loop-place.lines.items) bytes (lines_after [] bytes) start place is.order c.loop-place-test.true w.if-bytes-place-eq10.false is.same;
      })
    ]

pub returns : goal.returns
returns c =
    let is = c.loop-place.invariant in
    let bytes = c.args.bytes.now in
    let start = c.loop-place.start in
    let place = c.loop-place.place in
    let end : place ≡ length bytes = omega (arith, c.loop-place-test.false, c.loop-place.auto.place-end) in
    let now : List (Bor (List ℕ)) → List (List ℕ) = map (λ (line : Bor (List ℕ)). line.now) in
    ap now c.in_ok-push-2.ensures.items ∙ map-append (λ (line : Bor (List ℕ)). line.now) c.loop-place.lines.items _
    ∙ lines_end (now c.loop-place.lines.items) bytes (lines_after [] bytes) start place end is.same

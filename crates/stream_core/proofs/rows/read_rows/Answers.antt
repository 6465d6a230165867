use Rattle.std.proofs.Common.{◌≡◌, ◌+◌, ◌++◌, ◌∷◌, [], ap, sym, subst, ◌∙◌, arith, ℕ, List}
use Rattle.std.specs.List.{flat_map}
use Rattle.shape_dict.specs.Text.{line_text}
use Rattle.shape_dict.specs.declared.entries.Entry.{Entry}
use Rattle.stream_core.specs.Rows.{AreRows}
use Rattle.stream_core.proofs.Rowed.{rows_more, rows_raised, row_of, read_more}
use Rattle.stream_core.proofs.rows.read_rows.Goals as goal

pub loop-left-preserved : goal.loop-left-preserved
loop-left-preserved c =
    let e = c.in-Some.entry in
    let kinds = c.of_one_kind-kinds in
    let header = c.args.header.now in
    let is = row_of kinds.result header e kinds.ensures.text kinds.ensures.games c.in-Some.ensures.row in
    let more = rows_more header c.args.low c.loop-left.least c.loop-left.entries.items e c.loop-left.invariant.rows c.in-Some.ensures.least is in
    let next : e.shape + 1 ≡ c.bits-least.result + 1 = cc (c.bits-least.ensures.value, c.word.ensures.value) in
    let line = ap (λ t. line_text t e ++ c.in-Some.rest.now) kinds.ensures.text in
    record {
      rows = subst (λ (es : List Entry). AreRows header c.args.low (c.bits-least.result + 1) es) (sym c.in_ok-push.ensures.items) (subst (λ (n : ℕ). AreRows header c.args.low n (c.loop-left.entries.items ++ e ∷ [])) next more);
      same = subst (λ (es : List Entry). c.args.bytes.now ≡ flat_map (line_text header.text) es ++ c.in-Some.rest.now) (sym c.in_ok-push.ensures.items)
          (read_more header.text c.loop-left.entries.items e c.args.bytes.now c.loop-left.left.now c.in-Some.rest.now c.loop-left.invariant.same (c.in-Some.ensures.same ∙ line));
    }

pub returns-clause-rows : goal.returns-clause-rows
returns-clause-rows c = rows_raised c.args.header.now c.args.low c.loop-left.least c.args.high c.loop-left.entries.items c.loop-left.invariant.rows (omega arith)

use Rattle.std.proofs.Common.{ap, ◌∙◌, ℕ, List, [], Option, subst, IfSome}
use Rattle.shape_dict.specs.declared.headers.Header.{Header}
use Rattle.stream_core.specs.Streams.{HasGiven}
use Rattle.merge_core.proofs.Left.{opened_left}
use Rattle.merge_core.proofs.leaves.open_leaf.Goals as goal

pub returns-in-Ok-open-clause-left : goal.returns-in-Ok-open-clause-left
returns-in-Ok-open-clause-left g c = λ text d known is_text.
    let o = opened_left (g.S.Reader.Read.remaining c.in-Ok.reader) c.in-Ok-open.lines text d (c.in-Ok.ensures ∙ known) is_text c.in-Ok-open.ensures.given c.in-Ok-open.ensures.only in
    (ap (λ (h : Header). h.games) c.header-header.ensures ∙ o.0, o.1)

pub returns-in-Ok-open-clause-given : goal.returns-in-Ok-open-clause-given
returns-in-Ok-open-clause-given g c = λ text known.
    subst (λ (r : Option (List ℕ)). IfSome r (λ whole. HasGiven c.in-Ok-open.lines whole [])) (c.in-Ok.ensures ∙ known) c.in-Ok-open.ensures.given

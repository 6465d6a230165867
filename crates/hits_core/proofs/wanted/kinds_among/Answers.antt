use Rattle.std.proofs.Common.{◌≡◌, All, ap, sym, subst, ◌∙◌, take_all, List, ℕ}
use Rattle.std.proofs.lemmas.List.Elements.{All-more}
use Rattle.shape_core.specs.Word.{kind_of}
use Rattle.shape_core.specs.declared.words.Kind.TheVariants as kind
use Rattle.hits_core.proofs.wanted.kinds_among.Goals as goal

pub loop-shape-preserved : goal.loop-shape-preserved
loop-shape-preserved c =
    All-more (λ word. kind_of word ≡ kind.Square) c.args.words.now c.loop-shape.shape-index c.shape-item.result c.loop-shape-test.true c.loop-shape.invariant
    (ap kind_of (sym c.shape-item.is) ∙ ap kind_of (sym c.word.ensures.value) ∙ sym c.kind.ensures ∙ c.in-Square.is)

pub returns : goal.returns
returns c = λ is. subst (λ (words : List ℕ). All (λ word. kind_of word ≡ kind.Square) words) (take_all c.loop-shape.shape-index c.args.words.now c.loop-shape-test.false) c.loop-shape.invariant

use Rattle.std.proofs.Common.{List, ℕ, map, take, sym, subst}
use Rattle.std.specs.Borrow.{Bor}
use Rattle.std.proofs.lemmas.List.{map_more}
use Rattle.game_files.specs.Sources.{AreMeant}
use Rattle.game_files.proofs.Meanings.{meant_push}
use Rattle.game_files.proofs.words.sources.Goals as goal

pub loop-word-preserved : goal.loop-word-preserved
loop-word-preserved c =
    let text : Bor (List ℕ) → List ℕ = λ w. w.now in
    let words = c.args.words.now in
    let i = c.loop-word.word-index in
    let grew = c.in_ok-push_word.ensures in
    subst (λ ws. AreMeant ws c.push_word.new.all.items) (sym (map_more text words i _ c.loop-word-test.true))
    (subst (AreMeant _) (sym grew.2) (meant_push (map text (take i words)) _ c.loop-word.all.items grew.0 c.loop-word.invariant grew.1))

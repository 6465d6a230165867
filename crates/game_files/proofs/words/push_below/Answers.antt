use Rattle.std.proofs.Common.{◌≡◌, ◌≢◌, ◌++◌, ◌∙◌, ◌==◌, [], ap, map, sym, subst, true, false}
use Rattle.std.proofs.lemmas.Result.{on_ok_weaker}
use Rattle.game_files.specs.declared.flaws.Why.TheVariants as why
use Rattle.game_files.specs.declared.words.Source.TheVariants as source
use Rattle.game_files.proofs.Meanings.{flaw_alone, below_found, some_flaws, some_files, none_long}
use Rattle.game_files.proofs.words.push_below.Goals as goal
use Rattle.game_files.proofs.words.push_below.Goals.{else-is_empty-via-then-is_empty+else-is_empty-2, else-is_empty-via-else-is_empty}

pub returns-then-is_empty-2 : goal.returns-then-is_empty-2
returns-then-is_empty-2 c =
    let files = c.args.below.files.items in
    let none : files ≡ [] = none_long files (subst (λ n. (n == 0) ≡ true) c.args.below.files.ok.0 (sym c.is_empty.ensures ∙ c.if-is_empty.true)) in
    on_ok_weaker c.push_flaw.result (flaw_alone c.args.folder.now why.NoGames files c.args.all.now.items c.push_flaw.new.all.items c.requires none) c.push_flaw.ensures

pub returns : goal.returns
returns c =
    let flaws = c.args.below.flaws.items in
    let files = c.args.below.files.items in
    let some : map source.Flaw flaws ++ map source.File files ≢ [] =
    elim c.else-is_empty.branch [
      | else-is_empty-via-then-is_empty+else-is_empty-2 w ↦ some_flaws flaws files
          (subst (λ n. (n == 0) ≡ false) c.args.below.flaws.ok.0 (sym w.is_empty-then-is_empty.ensures ∙ w.if-is_empty-2.false))
      | else-is_empty-via-else-is_empty w ↦ some_files flaws files
          (subst (λ n. (n == 0) ≡ false) c.args.below.files.ok.0 (sym c.is_empty.ensures ∙ w.if-is_empty.false))
    ] in
    on_ok_weaker c.push_files.result
    (λ is. below_found flaws files c.args.all.now.items c.push_files.new.all.items c.requires some (is ∙ ap (λ a. a ++ map source.File files) c.in_ok-push_flaws.ensures))
    c.push_files.ensures

use Rattle.std.proofs.Common.{◌∙◌, ap, sym, subst, String, Vec}
use Rattle.std.specs.Global.{Global}
use Rattle.game_files.specs.Names.{is_game_name}
use Rattle.game_files.specs.Sources.{AreGames}
use Rattle.game_files.proofs.Meanings.{games_push}
use Rattle.game_files.proofs.walks.Walk.step.Goals as goal

pub returns-in_ok-enter-in-Folder : goal.returns-in_ok-enter-in-Folder
returns-in_ok-enter-in-Folder c = λ games. subst (λ (f : Vec (String Global) Global). AreGames f.items) (sym c.enter.ensures) games

pub returns-in_ok-push-in-File : goal.returns-in_ok-push-in-File
returns-in_ok-push-in-File c = λ games.
    let is = ap is_game_name (sym c.as_str-in-File.ensures.value) ∙ sym c.is_game_name.ensures ∙ c.if-is_game_name.true in
    subst AreGames (sym c.in_ok-push-in-File.ensures.items) (games_push c.args.self.now.below.files.items c.in-Some.field-0.path games is)

pub returns-in_ok-fail-in-Unseen : goal.returns-in_ok-fail-in-Unseen
returns-in_ok-fail-in-Unseen c = λ games. subst (λ (f : Vec (String Global) Global). AreGames f.items) (sym c.fail.ensures) games

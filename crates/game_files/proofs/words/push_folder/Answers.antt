use Rattle.std.proofs.lemmas.Result.{on_ok_weaker}
use Rattle.game_files.proofs.Meanings.{below_after}
use Rattle.game_files.proofs.words.push_folder.Goals as goal

pub returns : goal.returns
returns c =
    on_ok_weaker c.push_below.result
    (below_after c.args.all.now.items c.push_passed_over.new.all.items c.push_below.new.all.items c.in_ok-push_passed_over.ensures) c.push_below.ensures

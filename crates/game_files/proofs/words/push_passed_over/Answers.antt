use Rattle.game_files.specs.declared.flaws.Why.TheVariants as why
use Rattle.game_files.proofs.Meanings.{one_flaw}
use Rattle.game_files.proofs.words.push_passed_over.Goals as goal

pub returns-in_ok-push_flaw : goal.returns-in_ok-push_flaw
returns-in_ok-push_flaw c =
    one_flaw c.args.folder.now (why.PassedOver c.args.names) c.args.all.now.items c.push_flaw.new.all.items c.in_ok-push_flaw.ensures

use Rattle.std.proofs.Common.{◌∷◌, [], refl}
use Rattle.game_files.specs.declared.flaws.Flaw.{Flaw}
use Rattle.game_files.specs.declared.words.Source.TheVariants as source
use Rattle.game_files.proofs.words.push_flaw.Goals as goal

pub returns : goal.returns
returns c = let flaw : Flaw = record { name = c.in_ok-name.name; why = c.args.why } in
    (source.Flaw flaw ∷ [], (flaw, c.in_ok-name.ensures.ok, refl, refl), c.in_ok-push.ensures.items)

use Rattle.std.proofs.Common.{List, nat_eq, ap, subst, ◌∙◌}
use Rattle.std.specs.Prelude.{slice_get, filter}
use Rattle.std.specs.HashSet.{contains}
use Rattle.shape_core.specs.declared.words.Kinds.{Kinds}
use Rattle.shape_dict.specs.Pieces.{entries_in}
use Rattle.tally_core.specs.Walk.{Walked, once_each, shapes_of}
use Rattle.tally_core.specs.declared.meetings.Meeting.{Meeting}
use Rattle.beyond_core.specs.Inner.TooMany.{HasMet}
use Rattle.beyond_core.proofs.TooMany.{found_new}
use Rattle.beyond_core.proofs.too_many.new_at.Goals as goal

pub returns-clause-found : goal.returns-clause-found
returns-clause-found c =
    let kinds = c.args.kinds in
    let bytes = c.args.bytes.now in
    let test = contains nat_eq c.in_ok-words.words in
    let found = c.shape_at.result in
    let met = subst (λ (k : Kinds). HasMet k bytes c.args.game c.walk_game.new.walk.meetings) (ap (λ (w : Walked). w.kinds) c.begin-walk.ensures) c.in_ok-walk_game.ensures.met in
    found_new kinds bytes (entries_in c.args.pieces.now) c.args.game c.args.place test found c.in_ok-words.ensures.has
    record {
      meetings = c.walk_game.new.walk.meetings;
      met = met;
      found_is = c.shape_at.ensures ∙ ap (λ (ms : List Meeting). slice_get (filter test (once_each (shapes_of ms))) c.args.place) c.meetings.ensures;
    }

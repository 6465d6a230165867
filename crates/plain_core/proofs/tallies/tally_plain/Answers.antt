use Rattle.std.proofs.Common.{◌≡◌, nat_eq, None, ap, subst}
use Rattle.std.specs.Map.{lookup}
use Rattle.shape_core.specs.declared.words.Kinds.{Kinds}
use Rattle.tally_core.specs.Walk.{Walked}
use Rattle.plain_core.specs.Inner.Counter.{CountsGame, count_in}
use Rattle.plain_core.proofs.Lookups.{counted_tally}
use Rattle.plain_core.proofs.tallies.tally_plain.Goals as goal

pub invariant_of-result : goal.invariant_of-result
invariant_of-result c =
    let kinds : c.begin-walk.result.kinds ≡ c.args.kinds = ap (λ (w : Walked). w.kinds) c.begin-walk.ensures in
    let counted =
    subst (λ (k : Kinds). CountsGame k c.args.game_record.now None (count_in c.new-counts.result) (count_in c.count_game.new.counts) c.in_ok-moves.moves) kinds
    (rw c.new-unnumbered.ensures at c.in_ok-moves.ensures.counts) in
    record {
      kinds = c.args.kinds;
      game = c.args.game_record.now;
      tallied = counted_tally c.args.kinds c.args.game_record.now (count_in c.new-counts.result) (count_in c.count_game.new.counts) c.in_ok-moves.moves c.entries_of.result.items
          (λ shape. ap (lookup (nat_eq shape)) c.new-counts.ensures) c.entries_of.ensures.entries counted c.entries_of.ensures.shapes c.entries_of.ensures.rises;
    }

pub returns-clause-tally : goal.returns-clause-tally
returns-clause-tally c =
    let kinds : c.begin-walk.result.kinds ≡ c.args.kinds = ap (λ (w : Walked). w.kinds) c.begin-walk.ensures in
    let counted =
    subst (λ (k : Kinds). CountsGame k c.args.game_record.now None (count_in c.new-counts.result) (count_in c.count_game.new.counts) c.in_ok-moves.moves) kinds
    (rw c.new-unnumbered.ensures at c.in_ok-moves.ensures.counts) in
    counted_tally c.args.kinds c.args.game_record.now (count_in c.new-counts.result) (count_in c.count_game.new.counts) c.in_ok-moves.moves c.entries_of.result.items
    (λ shape. ap (lookup (nat_eq shape)) c.new-counts.ensures) c.entries_of.ensures.entries counted c.entries_of.ensures.shapes c.entries_of.ensures.rises

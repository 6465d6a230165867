use Rattle.std.proofs.Common.{[], refl, sym, subst, arith}
use Rattle.plain_core.specs.Inner.Counter.{count_in, CountsGames}
use Rattle.plain_core.proofs.counting.Counter.new.Goals as goal

pub returns-clause-counted : goal.returns-clause-counted
returns-clause-counted c kinds bytes = record {
  trees = [];
  end = 0;
  games = [];
  written = refl;
  numbered = refl;
  replayed = tt;
  counted = subst (λ counts. CountsGames kinds [] (count_in counts) 0) (sym c.with_room.ensures)
      (record { counted = λ shape. refl; among = λ shape. omega arith; moves_counted = refl });
}

use Rattle.std.proofs.Common.{ℕ, [], refl, arith}
use Rattle.gather_core.proofs.Common.{Kinds, IsShare}
use Rattle.gather_core.proofs.word_shares.WordShare.begin.Goals as goal

-- a share without games
no_games : (worker : ℕ) (kinds : Kinds) → IsShare (record { worker = worker; kinds = kinds; games = []; moves = 0; rows = [] })
no_games worker kinds = record {
  added = [];
  is_of = record {
    replays = tt;
    sized = tt;
    games = refl;
    moves = refl;
    there = λ shape. refl;
    played = λ shape. refl;
    first = λ shape. refl;
    among = λ shape. omega arith;
  };
}

pub returns-clause-share : goal.returns-clause-share
returns-clause-share c = rw (c.in_ok-new.ensures, c.new-2.ensures.items) (no_games c.args.worker c.begin.result.kinds)

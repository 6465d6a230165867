use Rattle.std.proofs.Common.{◌≡◌, bit_and, bit_or, refl}
use Rattle.shape_core.specs.Symmetry.{exchange_of}
use Rattle.shape_core.proofs.Moves.{Moves, whole, masked, joined, swap}
use Rattle.shape_core.proofs.Exchanges.{made_exchange, exchange_of_small}
use Rattle.shape_core.proofs.masks.exchanged.Goals as goal

-- where each cell comes from
moves : Moves
moves = joined (masked whole 0x4000000000000) (swap 0x1555555555555 1)

is_exchange : (c : goal.After-swapped) → bit_or (bit_and c.args.word 0x4000000000000) c.swapped.result ≡ exchange_of c.args.word
unfolding moves
is_exchange c = rw (c.swapped.ensures) (made_exchange moves c.args.word refl c.requires)

pub returns-clause-value : goal.returns-clause-value
returns-clause-value c = is_exchange c

pub returns-clause-small : goal.returns-clause-small
returns-clause-small c = rw (is_exchange c) (exchange_of_small c.args.word)

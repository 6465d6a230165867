use Rattle.std.proofs.Common.{◌≡◌, ℕ, ◌+◌, ◌<◌, ◌≤◌, List, length, take, drop, get_or, ap, arith}
use Rattle.gather_core.proofs.Common.{sum_by_more, sum_by-append, take-append-drop, Held, all_moves}
use Rattle.gather_core.proofs.gathering_words.moves_of.Goals as goal

-- the moves of one share more, and of all
moves_more : (shares : List Held) (i : ℕ) (share : Held) → i < length shares → share ≡ get_or shares i share →
    (all_moves (take (i + 1) shares) ≡ all_moves (take i shares) + share.moves) × (all_moves (take (i + 1) shares) ≤ all_moves shares)
moves_more shares i share inside is =
    let step = sum_by_more (λ (s : Held). s.moves) shares i share inside in
    let same = ap (λ (s : Held). s.moves) is in
    let parts = ap (λ (all : List Held). all_moves all) (take-append-drop (i + 1) shares) in
    let both = sum_by-append (λ (s : Held). s.moves) (take (i + 1) shares) (drop (i + 1) shares) in
    (omega arith, omega arith)

pub overflow_cast-moves : goal.overflow_cast-moves
overflow_cast-moves c =
    let more = moves_more c.args.shares.now c.loop-share.share-index c.share-item.result c.loop-share-test.true c.share-item.is in
    omega arith

pub overflow_add-moves : goal.overflow_add-moves
overflow_add-moves c =
    let more = moves_more c.args.shares.now c.loop-share.share-index c.share-item.result c.loop-share-test.true c.share-item.is in
    omega arith

pub loop-share-preserved : goal.loop-share-preserved
loop-share-preserved c =
    let more = moves_more c.args.shares.now c.loop-share.share-index c.share-item.result c.loop-share-test.true c.share-item.is in
    omega arith

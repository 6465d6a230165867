-- A group without a liberty is what the flood found.
use Rattle.std.proofs.Common.{◌≡◌, ◌⊎◌, inl, inr, Contains, slice_index_or}
use Rattle.std.proofs.lemmas.Bool.{false≢true}
use Rattle.go_board.specs.declared.points.Stone.TheVariants as kind
use Rattle.go_board.specs.Position.{position_in, IsAlive}
use Rattle.go_board.proofs.Places.{shown_on}
use Rattle.go_board.proofs.Stones.{same_stone}
use Rattle.go_board.proofs.Capturing.{Removes-dead, group_dead}
use Rattle.go_board.proofs.groups.remove_if_dead.Goals as goal

pub returns-then-not-is_alive-clause-stones : goal.returns-then-not-is_alive-clause-stones
returns-then-not-is_alive-clause-stones c =
    let same : position_in c.args.size c.args.stones.now c.args.point ≡ c.args.stone =
    rw (shown_on c.args.size c.args.stones.now c.args.point c.requires.on_board, ← c.index.ensures.value) (same_stone (slice_index_or c.args.stones.now c.index.result kind.Empty) c.args.stone c.eq.result c.eq.ensures c.if-eq.true) in
    let dead : IsAlive c.args.size (position_in c.args.size c.args.stones.now) c.args.point → ⊥ =
    λ a. false≢true (rw c.if-not-is_alive.true at (c.is_alive.ensures.alive.1 a)) in
    let group = group_dead c.args.size (position_in c.args.size c.args.stones.now) c.args.stone c.args.point c.is_alive.new.group.points same dead
    (rw c.if-not-is_alive.true at c.is_alive.ensures.group) in
    Removes-dead c.args.size (position_in c.args.size c.args.stones.now) (position_in c.args.size c.remove.new.stones) c.args.stone c.args.point
    c.is_alive.new.group.points group c.remove.ensures.stones

pub returns-then-not-is_alive-clause-removed : goal.returns-then-not-is_alive-clause-removed
returns-then-not-is_alive-clause-removed c = λ q.
    let same : position_in c.args.size c.args.stones.now c.args.point ≡ c.args.stone =
    rw (shown_on c.args.size c.args.stones.now c.args.point c.requires.on_board, ← c.index.ensures.value) (same_stone (slice_index_or c.args.stones.now c.index.result kind.Empty) c.args.stone c.eq.result c.eq.ensures c.if-eq.true) in
    let dead : IsAlive c.args.size (position_in c.args.size c.args.stones.now) c.args.point → ⊥ =
    λ a. false≢true (rw c.if-not-is_alive.true at (c.is_alive.ensures.alive.1 a)) in
    let group = group_dead c.args.size (position_in c.args.size c.args.stones.now) c.args.stone c.args.point c.is_alive.new.group.points same dead
    (rw c.if-not-is_alive.true at c.is_alive.ensures.group) in (
      (λ l. elim ((c.remove.ensures.removed q).0 l) [ inl a ↦ inl a | inr b ↦ inr ((group q).0 b) ]),
      (λ s. (c.remove.ensures.removed q).1 (elim s as (λ _. Contains c.args.removed.now.points q ⊎ Contains c.is_alive.new.group.points q) [
        | inl a ↦ inl a
        | inr b ↦ inr ((group q).1 b)
      ])),
    )

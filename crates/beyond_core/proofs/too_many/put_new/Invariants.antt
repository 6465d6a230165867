use Rattle.std.proofs.Common.{◌≡◌, ◌||◌, ◌==◌, ℕ, nat_eq, drop}
use Rattle.std.specs.HashSet.{contains}
use Rattle.std.specs.List.{list_any}
use Rattle.beyond_core.specs.Inner.TooMany.{new_words}
use Rattle.beyond_core.proofs.too_many.put_new.Given as goal

-- with the words that are left they would be all
abbrev pub invariant-loop-entry : goal.invariant-loop-entry
invariant-loop-entry l =
    (word : ℕ) → (contains nat_eq l.words word || list_any (λ w. word == w) (new_words l.game (drop l.entry-index l.entries)))
    ≡ (contains nat_eq l.fn.words word || list_any (λ w. word == w) (new_words l.game l.entries))

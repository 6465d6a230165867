-- What a list of entries has of a pattern, and what a map has.
use Rattle.std.proofs.Common.{◌≡◌, ℕ, zero, suc, ◌≤◌, ◌==◌, nat_eq, nat_lt, true, false, cond, List, [], ◌∷◌, map, All, Option, Some, None, refl, ap, sym, ◌∙◌, arith}
use Rattle.std.specs.List.Sorted.{IsStrictlyIncreasing}
use Rattle.std.specs.Map.{lookup}
use Rattle.std.proofs.Math.Dec.{leb-zero, leb-suc-suc}
use Rattle.std.proofs.lemmas.Bool.Decides.{nat_tests}
use Rattle.shape_core.specs.declared.words.Kind.{Kind}
use Rattle.tally_core.specs.Counts.{Replayed, kinds_of, there_in, played_in}
use Rattle.shape_core.specs.declared.words.Kinds.{Kinds}
use Rattle.go_record.specs.Actions.{Actions}
use Rattle.plain_core.specs.Tally.{tallied_entry, IsTally}
use Rattle.range_core.specs.Entries.{IsShape}
use Rattle.shape_dict.specs.declared.entries.Entry.{Entry}
use Rattle.shape_dict.specs.Contents.{entry_of}
use Rattle.plain_core.specs.Inner.Count.{Count}
use Rattle.plain_core.specs.Inner.Counter.{used_again, CountsGame}
use Rattle.plain_core.specs.Inner.Entries.{entry_of_pair, entered, AreEntered}

test_tells : (a b : ℕ) → (a == b) ≡ true → a ≡ b
test_tells a b h = Prim.grind (arith, nat_tests)

test_flips : (a b : ℕ) → (a == b) ≡ (b == a)
test_flips a b = Prim.grind (arith, nat_tests)

-- the entry of a pattern that was there and played so often in a game counted alone
tallied_numbers : (shape there played : ℕ) → played ≤ there → entered shape (used_again None there played None)
    ≡ cond (nat_lt 0 there) (Some (record { shape = shape; there = there; played = played; first = None })) None
unfolding entered
tallied_numbers shape zero zero among = refl
tallied_numbers shape zero (suc played) among = absurd (omega arith)
tallied_numbers shape (suc there) played among = sym (ap (λ b. cond b (Some (record { shape = shape; there = suc there; played = played; first = None })) None) (leb-suc-suc 0 there ∙ leb-zero there))

pub entry_of-pairs : (shape : ℕ) (pairs : List (ℕ × Count)) → entry_of shape (map entry_of_pair pairs) ≡ entered shape (lookup (nat_eq shape) pairs)
unfolding entered
entry_of-pairs shape [] = refl
entry_of-pairs shape (pair ∷ pairs) =
    elim (pair.0 == shape) as (λ b. (pair.0 == shape) ≡ b →
    cond b (Some (entry_of_pair pair)) (entry_of shape (map entry_of_pair pairs))
    ≡ entered shape (cond (shape == pair.0) (Some pair.1) (lookup (nat_eq shape) pairs))) [
      | true ↦ λ same. ap (λ key. Some (entry_of_pair (key, pair.1))) (test_tells pair.0 shape same)
          ∙ sym (ap (λ b. entered shape (cond b (Some pair.1) (lookup (nat_eq shape) pairs))) (test_flips shape pair.0 ∙ same))
      | false ↦ λ other. entry_of-pairs shape pairs
          ∙ sym (ap (λ b. entered shape (cond b (Some pair.1) (lookup (nat_eq shape) pairs))) (test_flips shape pair.0 ∙ other))
    ] refl

-- what a pattern counts in a game that is counted alone
pub tallied : (kinds : List Kind) (game : Replayed) (shape : ℕ) → played_in kinds game shape ≤ there_in kinds game shape →
    entered shape (used_again None (there_in kinds game shape) (played_in kinds game shape) None) ≡ tallied_entry kinds game shape
unfolding entered
tallied kinds game shape among = tallied_numbers shape (there_in kinds game shape) (played_in kinds game shape) among

-- the entries of a map in which one game was counted are those of its tally
tally_entries : (kinds : Kinds) (game : Actions) (none counts : ℕ → Option Count) (moves : ℕ) (entries : List Entry) →
    ((shape : ℕ) → none shape ≡ None) → AreEntered counts entries → (counted : CountsGame kinds game None none counts moves) →
    (shape : ℕ) → entry_of shape entries ≡ tallied_entry (kinds_of kinds) (record { size = game.size; occasions = counted.occasions }) shape
tally_entries kinds game none counts moves entries empty same counted shape =
    let replayed : Replayed = record { size = game.size; occasions = counted.occasions } in
    let k = kinds_of kinds in
    same shape
    ∙ ap (entered shape) (counted.counted shape ∙ ap (used_again None (there_in k replayed shape) (played_in k replayed shape)) (empty shape))
    ∙ tallied k replayed shape (counted.among shape)

-- so they are its tally
pub counted_tally : (kinds : Kinds) (game : Actions) (none counts : ℕ → Option Count) (moves : ℕ) (entries : List Entry) →
    ((shape : ℕ) → none shape ≡ None) → AreEntered counts entries → CountsGame kinds game None none counts moves →
    All IsShape entries → IsStrictlyIncreasing (map (λ entry. entry.shape) entries) → IsTally kinds game (record { moves = moves; entries = entries })
counted_tally kinds game none counts moves entries empty same counted shapes rises = record {
  occasions = counted.occasions;
  replayed = counted.replayed;
  moves_counted = counted.moves_counted;
  rises = rises;
  shapes = shapes;
  entries = tally_entries kinds game none counts moves entries empty same counted;
}

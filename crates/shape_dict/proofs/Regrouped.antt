-- Joins may be made of parts: those of the first dictionaries, those of the ones that follow, and then of both.
use Rattle.std.proofs.Common.{◌≡◌, ℕ, ◌+◌, ◌^◌, ◌≤◌, ◌⊎◌, inl, inr, List, [], ◌∷◌, ◌++◌, Option, Some, None, ap, sym, refl, subst, ◌∙◌, arith}
use Rattle.std.specs.Option.{option_map}
use Rattle.shape_dict.specs.declared.entries.Entry.{Entry}
use Rattle.shape_dict.specs.Contents.{Contents, IsDictionary, entry_of}
use Rattle.shape_dict.specs.Merging.{moved_entry, summed_entry}
use Rattle.shape_dict.specs.Inner.Merging.{merged}
use Rattle.shape_dict.specs.Join.{joined_entry, IsJoin, IsJoinOf, IsOverflow}
use Rattle.shape_dict.proofs.Joined.{join_of}

-- a first game that follows the games of two is one that follows the games of both
moved_twice : (m n : ℕ) (first : Option ℕ) → option_map (λ game. game + m) (option_map (λ game. game + n) first) ≡ option_map (λ game. game + (m + n)) first
moved_twice m n None = refl
moved_twice m n (Some game) = ap Some (omega arith)

abbrev with_counts : Entry → ℕ → ℕ → Entry
with_counts entry there played = record entry { there = there; played = played }

summed_thrice : (a b c : Entry) → summed_entry a (summed_entry b c) ≡ summed_entry (summed_entry a b) c
summed_thrice a b c =
    let there : a.there + (b.there + c.there) ≡ a.there + b.there + c.there = omega arith in
    let played : a.played + (b.played + c.played) ≡ a.played + b.played + c.played = omega arith in
    ap (λ (x : ℕ). with_counts a x (a.played + (b.played + c.played))) there ∙ ap (λ (x : ℕ). with_counts a (a.there + b.there + c.there) x) played

-- what the first says of a pattern, and what the others say of it together
pub entries_regroup : (m n : ℕ) (a b c : Option Entry) → joined_entry m a (joined_entry n b c) ≡ joined_entry (m + n) (joined_entry m a b) c
entries_regroup m n None None None = refl
entries_regroup m n None None (Some c) = ap (λ (first : Option ℕ). Some (record c { first = first })) (moved_twice m n c.first)
entries_regroup m n None (Some b) None = refl
entries_regroup m n None (Some b) (Some c) = refl
entries_regroup m n (Some a) None None = refl
entries_regroup m n (Some a) None (Some c) = refl
entries_regroup m n (Some a) (Some b) None = refl
entries_regroup m n (Some a) (Some b) (Some c) = ap Some (summed_thrice a b c)

-- the join of two, entry by entry
abbrev both_of : Contents → Contents → Contents
both_of a b = record { games = a.games + b.games; moves = a.moves + b.moves; entries = merged a.games a.entries b.entries; counts_diamonds = a.counts_diamonds }

-- the first joined with the sum of the others is the sum of the first two joined with the third
pub joins_regroup : (a b c bc abc : Contents) → IsDictionary a → IsDictionary b → a.counts_diamonds ≡ b.counts_diamonds → IsJoin b c bc → IsJoin a bc abc → (ab : Contents) × IsJoin a b ab × IsJoin ab c abc
joins_regroup a b c bc abc is_a is_b kinds later all =
    let first : IsJoin a b (both_of a b) = join_of a b is_a is_b kinds in (
      both_of a b,
      first,
      record {
        dictionary = all.dictionary;
        games = omega (arith, all.games, later.games);
        moves = omega (arith, all.moves, later.moves);
        same_kinds = kinds ∙ later.same_kinds;
        kinds = all.kinds;
        entries = λ shape. all.entries shape
            ∙ (ap (joined_entry a.games (entry_of shape a.entries)) (later.entries shape)
            ∙ (entries_regroup a.games b.games (entry_of shape a.entries) (entry_of shape b.entries) (entry_of shape c.entries)
            ∙ ap (λ (x : Option Entry). joined_entry (a.games + b.games) x (entry_of shape c.entries)) (sym (first.entries shape))));
      },
    )

-- where no sum of the last two is too large, and none of the first and these, then none of the first two is, and none of
-- these and the last
counts_grow : (games : ℕ) (b : Entry) (c : Option Entry) → (both : Entry) × (joined_entry games (Some b) c ≡ Some both) × (b.there ≤ both.there)
counts_grow games b None = (b, refl, omega arith)
counts_grow games b (Some c) = (summed_entry b c, refl, omega arith)

first_two_fit : (a b c bc : Contents) → IsJoin b c bc → (IsOverflow a bc → ⊥) → IsOverflow a b → ⊥
first_two_fit a b c bc later fits (inl large) = fits (inl (omega (arith, later.games)))
first_two_fit a b c bc later fits (inr (inl large)) = fits (inr (inl (omega (arith, later.moves))))
first_two_fit a b c bc later fits (inr (inr large)) =
    let both = counts_grow b.games large.of_right (entry_of large.shape c.entries) in
    fits (inr (inr (record {
      shape = large.shape;
      of_left = large.of_left;
      of_right = both.0;
      in_left = large.in_left;
      in_right = later.entries large.shape ∙ (ap (λ (x : Option Entry). joined_entry b.games x (entry_of large.shape c.entries)) large.in_right ∙ both.1);
      large = omega (arith, large.large, both.2);
    })))

abbrev IsLargeAfter : ℕ → Option Entry → Option Entry → Entry → Type 0
IsLargeAfter games a b c =
    ((y : Entry) × (b ≡ Some y) × (2 ^ 64 ≤ y.there + c.there))
    ⊎ ((x : Entry) × (y : Entry) × (a ≡ Some x) × (joined_entry games b (Some c) ≡ Some y) × (2 ^ 64 ≤ x.there + y.there))

large_after : (m n : ℕ) (a b : Option Entry) (left c : Entry) → joined_entry m a b ≡ Some left → 2 ^ 64 ≤ left.there + c.there → IsLargeAfter n a b c
large_after m n None None left c is large = absurd cc
large_after m n (Some x) None left c is large =
    let same : x ≡ left = cc in
    inr (x, moved_entry n c, refl, refl, omega (arith, ap (λ (e : Entry). e.there) same))
large_after m n None (Some y) left c is large =
    let same : moved_entry m y ≡ left = cc in
    inl (y, refl, omega (arith, ap (λ (e : Entry). e.there) same))
large_after m n (Some x) (Some y) left c is large =
    let same : summed_entry x y ≡ left = cc in
    inr (x, summed_entry y c, refl, refl, omega (arith, ap (λ (e : Entry). e.there) same))

last_two_fit : (a b c ab bc : Contents) → IsJoin a b ab → IsJoin b c bc → (IsOverflow b c → ⊥) → (IsOverflow a bc → ⊥) → IsOverflow ab c → ⊥
last_two_fit a b c ab bc first later fits_later fits (inl large) = fits (inl (omega (arith, first.games, later.games)))
last_two_fit a b c ab bc first later fits_later fits (inr (inl large)) = fits (inr (inl (omega (arith, first.moves, later.moves))))
last_two_fit a b c ab bc first later fits_later fits (inr (inr large)) =
    elim (large_after a.games b.games (entry_of large.shape a.entries) (entry_of large.shape b.entries) large.of_left large.of_right
    (sym (first.entries large.shape) ∙ large.in_left) large.large) [
      | inl found ↦ fits_later (inr (inr (record {
        shape = large.shape;
        of_left = found.0;
        of_right = large.of_right;
        in_left = found.1;
        in_right = large.in_right;
        large = found.2;
      })))
      | inr found ↦ fits (inr (inr (record {
        shape = large.shape;
        of_left = found.0;
        of_right = found.1;
        in_left = found.2;
        in_right = later.entries large.shape ∙ (ap (λ (x : Option Entry). joined_entry b.games (entry_of large.shape b.entries) x) large.in_right ∙ found.3);
        large = found.4;
      })))
    ]

-- a sum is a dictionary of the kinds of the first
pub sum_is_dictionary : (first : Contents) (others : List Contents) (sum : Contents) → IsDictionary first → IsJoinOf first others sum → IsDictionary sum
sum_is_dictionary first [] sum is h = subst (λ (x : Contents). IsDictionary x) (sym h) is
sum_is_dictionary first (next ∷ others) sum is h = sum_is_dictionary h.0 others sum h.2.dictionary h.3

pub sum_has_kinds : (first : Contents) (others : List Contents) (sum : Contents) → IsJoinOf first others sum → sum.counts_diamonds ≡ first.counts_diamonds
sum_has_kinds first [] sum h = ap (λ (x : Contents). x.counts_diamonds) h
sum_has_kinds first (next ∷ others) sum h = sum_has_kinds h.0 others sum h.3 ∙ h.2.kinds

-- the sum of some that follow, joined at once, or each in turn
pub joins_follow : (left first : Contents) (others : List Contents) (right sum : Contents) → IsDictionary left → IsDictionary first → left.counts_diamonds ≡ first.counts_diamonds →
    IsJoinOf first others right → (IsOverflow left right → ⊥) → IsJoin left right sum → IsJoinOf left (first ∷ others) sum
joins_follow left first [] right sum is_left is_first kinds h fits join =
    (sum, subst (λ (x : Contents). IsOverflow left x → ⊥) h fits, subst (λ (x : Contents). IsJoin left x sum) h join, refl)
joins_follow left first (next ∷ others) right sum is_left is_first kinds h fits join =
    let rest = joins_follow left h.0 others right sum is_left h.2.dictionary (kinds ∙ sym h.2.kinds) h.3 fits join in
    let parts = joins_regroup left first next h.0 rest.0 is_left is_first kinds h.2 rest.2 in (
      parts.0,
      first_two_fit left first next h.0 h.2 rest.1,
      parts.1,
      (rest.0, last_two_fit left first next parts.0 h.0 parts.1 h.2 h.1 rest.1, parts.2, rest.3),
    )

pub joins_append : (first : Contents) (others : List Contents) (middle : Contents) (more : List Contents) (sum : Contents) → IsJoinOf first others middle → IsJoinOf middle more sum → IsJoinOf first (others ++ more) sum
joins_append first [] middle more sum h k = subst (λ (x : Contents). IsJoinOf x more sum) h k
joins_append first (next ∷ others) middle more sum h k = (h.0, h.1, h.2, joins_append h.0 others middle more sum h.3 k)

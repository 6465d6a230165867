-- Entries written to the front of a room, one after another.
use Rattle.std.proofs.Common.{◌≡◌, ℕ, zero, suc, ◌+◌, ◌<◌, ◌≤◌, List, [], ◌∷◌, ◌++◌, map, length, get_or, take, drop, set, refl, ap, arith, add-one}
use Rattle.shape_dict.specs.declared.entries.Entry.{Entry}
use Rattle.shape_keys.specs.declared.entries.ShapesEntry.{ShapesEntry}
use Rattle.shape_keys.specs.Entries.{said}

one_more : (es : List Entry) (room : List ShapesEntry) (i : ℕ) (d : Entry) → i < length es → length es ≤ length room → set (map said (take i es) ++ drop i room) i (said (get_or es i d)) ≡ map said (take (suc i) es) ++ drop (suc i) room
one_more [] room i d within fits = absurd (omega arith)
one_more (e ∷ es) [] i d within fits = absurd (omega arith)
one_more (e ∷ es) (r ∷ room) zero d within fits = refl
one_more (e ∷ es) (r ∷ room) (suc i) d within fits = ap (λ more. said e ∷ more) (one_more es room i d (omega arith) (omega arith))

pub put_one : (es : List Entry) (room : List ShapesEntry) (i : ℕ) (d : Entry) → i < length es → length es ≤ length room → set (map said (take i es) ++ drop i room) i (said (get_or es i d)) ≡ map said (take (i + 1) es) ++ drop (i + 1) room
put_one es room i d within fits = rw add-one (one_more es room i d within fits)

-- Entries that are made one after another.
use Rattle.std.proofs.Common.{◌≡◌, ◌++◌, ◌∷◌, [], List, map, ap, sym, subst, refl, All, ℕ}
use Rattle.std.specs.Map.{keys_of}
use Rattle.std.proofs.lemmas.List.Elements.{All-append, All-cons, All-nil}
use Rattle.shape_dict.specs.declared.entries.Entry.{Entry}
use Rattle.plain_core.specs.Inner.Count.{Count}
use Rattle.range_core.specs.Entries.{IsShape}
use Rattle.plain_core.specs.Inner.Entries.{entry_of_pair, pairs_of}

pub shapes_more : (old new : List Entry) (entry : Entry) → new ≡ old ++ entry ∷ [] → IsShape entry → All IsShape old → All IsShape new
shapes_more old new entry grown is all = subst (All IsShape) (sym grown) (All-append IsShape old (entry ∷ []) all (All-cons IsShape entry [] is (All-nil IsShape)))

pub shapes_of-pairs : (pairs : List (ℕ × Count)) → map (λ entry. entry.shape) (map entry_of_pair pairs) ≡ keys_of pairs
shapes_of-pairs [] = refl
shapes_of-pairs (pair ∷ pairs) = ap (λ shapes. pair.0 ∷ shapes) (shapes_of-pairs pairs)

-- the entries of the pairs are the rows
pub entries_of-pairs : (rows : List Entry) → map entry_of_pair (pairs_of rows) ≡ rows
entries_of-pairs [] = refl
entries_of-pairs (row ∷ rows) = ap (λ more. row ∷ more) (entries_of-pairs rows)

-- What dictionaries have of a pattern together, by parts.
use Rattle.std.proofs.Common.{◌≡◌, ℕ, ◌+◌, List, [], ◌∷◌, ◌++◌, length, Option, Some, None, ap, sym, refl, ◌∙◌, subst, arith}
use Rattle.std.specs.Option.{option_map}
use Rattle.shape_dict.specs.declared.entries.Entry.{Entry}
use Rattle.shape_dict.specs.Contents.{entry_of}
use Rattle.shape_dict.specs.Join.{joined_entry}
use Rattle.shape_dict.proofs.Regrouped.{entries_regroup}
use Rattle.merge_core.specs.declared.tallies.Tally.{Tally}
use Rattle.merge_core.specs.Inner.Ranges.{Piece, Each, AreTallies, found, games_in}

not_moved : (first : Option ℕ) → option_map (λ game. game + 0) first ≡ first
not_moved None = refl
not_moved (Some game) = ap Some (omega arith)

alone : (c : Option Entry) → c ≡ joined_entry 0 None c
alone None = refl
alone (Some e) = ap (λ (first : Option ℕ). Some (record e { first = first })) (sym (not_moved e.first))

pub found_append : (shape : ℕ) (ps qs : List Piece) → found shape (ps ++ qs) ≡ joined_entry (games_in ps) (found shape ps) (found shape qs)
found_append shape [] qs = alone (found shape qs)
found_append shape (p ∷ ps) qs =
    ap (joined_entry p.header.games (entry_of shape p.entries)) (found_append shape ps qs)
    ∙ entries_regroup p.header.games (games_in ps) (entry_of shape p.entries) (found shape ps) (found shape qs)

pub games_append : (ps qs : List Piece) → games_in (ps ++ qs) ≡ games_in ps + games_in qs
games_append [] qs = omega arith
games_append (p ∷ ps) qs = let more = games_append ps qs in omega (arith, more)

pub each_append : (P : ℕ → Piece → Type 0) (from middle : ℕ) (ps qs : List Piece) → middle ≡ from + length ps → Each P from ps → Each P middle qs → Each P from (ps ++ qs)
each_append P from middle [] qs at h k = let same : middle ≡ from = omega arith in subst (λ (n : ℕ). Each P n qs) same k
each_append P from middle (p ∷ ps) qs at h k = (h.0, each_append P (from + 1) middle ps qs (omega arith) h.1 k)

pub tallies_append : (ps qs : List Piece) (ts us : List Tally) → AreTallies ps ts → AreTallies qs us → AreTallies (ps ++ qs) (ts ++ us)
tallies_append [] qs [] us h k = k
tallies_append [] qs (t ∷ ts) us h k = absurd h
tallies_append (p ∷ ps) qs [] us h k = absurd h
tallies_append (p ∷ ps) qs (t ∷ ts) us h k = (h.0, tallies_append ps qs ts us h.1 k)

-- Rows of which one is of another pattern than was asked for, and the rows of one number, share by share.
use Rattle.std.proofs.Common.{◌≡◌, ℕ, ◌+◌, ◌<◌, List, [], ◌∷◌, ◌++◌, length, get_or, take, Option, Some, None, cond, Contains, refl, ap, ◌∙◌, arith, append-nil, sym}
use Rattle.table_shares.proofs.Common.{option_or, take_more, find-append, Row, row_of, AreOfNumbers, first_at, earlier, is_stranger, stranger_in, unlike_of, is_some, nat_tests, Contains-append_left, Contains-append_right, Contains-push, AreSums, earlier_none, flat_map}
use Rattle.std.proofs.lemmas.Grind.{flat_map-append}
use Rattle.table_shares.specs.declared.numbers.NumberSums.{NumberSums}
use Rattle.table_shares.proofs.Totalled.{alike_one, first_none, first_one, first_more}

-- what lists give, and the next one
pub flat_map_next : {X Y : Type 0} (f : X → List Y) (xs : List X) (i : ℕ) (x : X) → i < length xs → x ≡ get_or xs i x →
    flat_map f (take (i + 1) xs) ≡ flat_map f (take i xs) ++ f x
flat_map_next f xs i x inside is =
    ap (flat_map f) (take_more xs i x inside) ∙ flat_map-append f (take i xs) (get_or xs i x ∷ [])
    ∙ ap (λ ys. flat_map f (take i xs) ++ ys) (append-nil (f (get_or xs i x)) ∙ ap f (sym is))

-- ---- strangers
pub stranger_none : (rows : List Row) (number : ℕ) (found : Option ℕ) → row_of rows number ≡ None → stranger_in rows number found ≡ None
stranger_none [] number found none = refl
stranger_none (row ∷ rows) number found none = Prim.grind (arith, stranger_none rows number found)

-- where all rows of a number are of a pattern, no other one is found
pub stranger_alike : (rows : List Row) (number shape : ℕ) (found : Option ℕ) → ((row : Row) → Contains rows row → row.number ≡ number → row.shape ≡ shape) →
    stranger_in rows number found ≡ cond (is_some (row_of rows number)) (unlike_of shape found) None
stranger_alike [] number shape found alike = refl
stranger_alike (row ∷ rows) number shape found alike =
    let here = alike row (Contains-append_left (row ∷ []) rows row (Contains-push [] row)) in
    Prim.grind (arith, nat_tests, here, stranger_alike rows number shape found (λ r among. alike r (Contains-append_right (row ∷ []) rows r among)))

pub stranger_append : (rows more : List Row) (number : ℕ) (found : Option ℕ) → stranger_in (rows ++ more) number found ≡ option_or (stranger_in rows number found) (stranger_in more number found)
stranger_append rows more number found = Prim.grind (arith, find-append (is_stranger number found) rows more)

-- a share has no row of the number
pub sums_kept : (rows more : List Row) (number : ℕ) (found : Option ℕ) (sums : NumberSums) → row_of more number ≡ None → AreSums rows number found sums →
    AreSums (rows ++ more) number found sums
sums_kept rows more number found sums none h = record {
  first = h.first ∙ Prim.grind (arith, first_more rows more number, first_none more number none, earlier_none (first_at rows number));
  stranger = h.stranger ∙ Prim.grind (arith, stranger_append rows more number found, stranger_none more number found none);
}

-- a share has a row of it
pub sums_with : (rows more : List Row) (number : ℕ) (found : Option ℕ) (sums new : NumberSums) (row : Row) → AreOfNumbers more → row_of more number ≡ Some row → AreSums rows number found sums →
    new.first ≡ earlier sums.first row.first → new.stranger ≡ option_or sums.stranger (unlike_of row.shape found) → AreSums (rows ++ more) number found new
sums_with rows more number found sums new row numbers is h first stranger = record {
  first = Prim.grind (arith, first, h.first, first_more rows more number, first_one more number row numbers is);
  stranger = Prim.grind (arith, stranger, h.stranger, stranger_append rows more number found, stranger_alike more number row.shape found (alike_one more number row numbers is));
}

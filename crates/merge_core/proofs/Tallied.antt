-- Entries that are tallied, and tallies added up.
use Rattle.std.proofs.Common.{◌≡◌, ℕ, zero, suc, ◌+◌, ◌<◌, List, [], ◌∷◌, ◌++◌, length, filter, take, get_or, Bool, true, false, not, cond, sym, refl, ap, subst, ◌∙◌, arith, length-append}
use Rattle.std.proofs.lemmas.List.Elements.{filter-append}
use Rattle.std.proofs.lemmas.List.Sums.{sum_by-append, sum_by-cons}
use Rattle.shape_dict.specs.declared.entries.Entry.{Entry}
use Rattle.shape_dict.specs.Contents.{is_square, played_in}
use Rattle.merge_core.specs.declared.tallies.Tally.{Tally}
use Rattle.merge_core.specs.Entries.{IsSmallUse}
use Rattle.merge_core.specs.Inner.Ranges.{IsTally, Piece, AreTallies, beside}
use Rattle.merge_core.specs.Inner.Tallies.{sum_of, sums}
use Rattle.merge_core.proofs.Rising.{all_append}

-- entries that pass a test, in two lists
many : (q : Entry → Bool) (es fs : List Entry) → length (filter q (es ++ fs)) ≡ length (filter q es) + length (filter q fs)
many q es fs = ap length (filter-append q es fs) ∙ length-append (filter q es) (filter q fs)

plays : (q : Entry → Bool) (es fs : List Entry) → played_in (filter q (es ++ fs)) ≡ played_in (filter q es) + played_in (filter q fs)
plays q es fs = ap played_in (filter-append q es fs) ∙ sum_by-append (λ (e : Entry). e.played) (filter q es) (filter q fs)

pub tally_both : (es fs : List Entry) (t u : Tally) → IsTally es t → IsTally fs u → IsTally (es ++ fs) (sum_of t u)
tally_both es fs t u h k = record {
  squares = omega (arith, many is_square es fs, h.squares, k.squares);
  diamonds = omega (arith, many (λ e. not (is_square e)) es fs, h.diamonds, k.diamonds);
  squares_played = omega (arith, plays is_square es fs, h.squares_played, k.squares_played);
  diamonds_played = omega (arith, plays (λ e. not (is_square e)) es fs, h.diamonds_played, k.diamonds_played);
  small = all_append IsSmallUse es fs h.small k.small;
}

one_played : (e : Entry) → played_in (e ∷ []) ≡ e.played
one_played e = omega (arith, sum_by-cons (λ (x : Entry). x.played) e [])

abbrev tally_by : Bool → Entry → Tally
tally_by b e = record { squares = cond b 1 0; diamonds = cond b 0 1; squares_played = cond b e.played 0; diamonds_played = cond b 0 e.played }

square_by : (b : Bool) (e : Entry) → (cond b 1 0 ≡ length (cond b (e ∷ []) [])) × (cond b 0 1 ≡ length (cond (not b) (e ∷ []) [])) × (cond b e.played 0 ≡ played_in (cond b (e ∷ []) [])) × (cond b 0 e.played ≡ played_in (cond (not b) (e ∷ []) []))
square_by true e = (refl, refl, sym (one_played e), refl)
square_by false e = (refl, refl, refl, sym (one_played e))

one_tally : (e : Entry) → IsSmallUse e → IsTally (e ∷ []) (tally_by (is_square e) e)
one_tally e small = let h = square_by (is_square e) e in record { squares = h.0; diamonds = h.1; squares_played = h.2; diamonds_played = h.3; small = (small, tt) }

-- one entry more
pub tally_more : (es : List Entry) (e : Entry) (b : Bool) (t next : Tally) → IsTally es t → IsSmallUse e → is_square e ≡ b → next ≡ sum_of t (tally_by b e) → IsTally (es ++ e ∷ []) next
tally_more es e b t next h small is same =
    subst (λ (u : Tally). IsTally (es ++ e ∷ []) u) (sym same)
    (subst (λ (c : Bool). IsTally (es ++ e ∷ []) (sum_of t (tally_by c e))) is (tally_both es (e ∷ []) t (tally_by (is_square e) e) h (one_tally e small)))

pub tally_none : (t : Tally) → t.squares ≡ 0 → t.diamonds ≡ 0 → t.squares_played ≡ 0 → t.diamonds_played ≡ 0 → IsTally [] t
tally_none t a b c d = record { squares = a; diamonds = b; squares_played = c; diamonds_played = d; small = tt }

next_sum : (ts us : List Tally) (i : ℕ) (d e : Tally) → length ts ≡ length us → i < length ts → take (suc i) (sums ts us) ≡ take i (sums ts us) ++ sum_of (get_or ts i d) (get_or us i e) ∷ []
next_sum [] us i d e same few = absurd (omega arith)
next_sum (t ∷ ts) [] i d e same few = absurd (omega arith)
next_sum (t ∷ ts) (u ∷ us) zero d e same few = refl
next_sum (t ∷ ts) (u ∷ us) (suc i) d e same few = ap (λ (xs : List Tally). sum_of t u ∷ xs) (next_sum ts us i d e (omega arith) (omega arith))

-- one sum more
pub sums_more : (ts us both new : List Tally) (i : ℕ) (d e : Tally) (sum : Tally) → length ts ≡ length us → i < length ts → both ≡ take i (sums ts us) → sum ≡ sum_of (get_or ts i d) (get_or us i e) →
    new ≡ both ++ sum ∷ [] → new ≡ take (i + 1) (sums ts us)
sums_more ts us both new i d e sum same few before is push =
    let next : suc i ≡ i + 1 = omega arith in
    push ∙ (ap (λ (xs : List Tally). xs ++ sum ∷ []) before ∙ (ap (λ (x : Tally). take i (sums ts us) ++ x ∷ []) is
    ∙ (sym (next_sum ts us i d e same few) ∙ ap (λ (n : ℕ). take n (sums ts us)) next)))

pub length-sums : (ts us : List Tally) → length ts ≡ length us → length (sums ts us) ≡ length ts
length-sums [] us same = refl
length-sums (t ∷ ts) [] same = absurd (omega arith)
length-sums (t ∷ ts) (u ∷ us) same = ap suc (length-sums ts us (omega arith))

-- of each dictionary in two ranges
pub tallies_beside : (ps qs : List Piece) (ts us : List Tally) → AreTallies ps ts → AreTallies qs us → length ps ≡ length qs → AreTallies (beside ps qs) (sums ts us)
tallies_beside [] [] [] us h k same = tt
tallies_beside [] [] (t ∷ ts) us h k same = absurd h
tallies_beside [] (q ∷ qs) ts us h k same = absurd (omega arith)
tallies_beside (p ∷ ps) [] ts us h k same = absurd (omega arith)
tallies_beside (p ∷ ps) (q ∷ qs) [] us h k same = absurd h
tallies_beside (p ∷ ps) (q ∷ qs) (t ∷ ts) [] h k same = absurd k
tallies_beside (p ∷ ps) (q ∷ qs) (t ∷ ts) (u ∷ us) h k same = (tally_both p.entries q.entries t u h.0 k.0, tallies_beside ps qs ts us h.1 k.1 (omega arith))

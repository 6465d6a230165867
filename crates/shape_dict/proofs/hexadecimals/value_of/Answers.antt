use Rattle.std.proofs.Common.{◌≡◌, ℕ, zero, suc, ◌<◌, ◌≤◌, sym, ap, ◌∙◌, Bool, true, ◌&&◌, cond, ltb, nat_eq, get_or, List, refl, arith, inl, inr}
use Rattle.std.proofs.lemmas.Bool.{cases_eq, and_parts}
use Rattle.std.proofs.lemmas.Bool.Decides.{nat_tests}
use Rattle.shape_dict.specs.Text.{hexadecimal_digit}
use Rattle.shape_dict.specs.declared.hexadecimals.TheConstants.{VALUES}
use Rattle.shape_dict.proofs.hexadecimals.value_of.Goals as goal

-- the value of a byte
abbrev fits : ℕ → ℕ → ℕ → Bool
fits byte value digit = cond (ltb value 16) (nat_eq digit byte) (nat_eq value 16)

fits_small : (byte value digit : ℕ) → fits byte value digit ≡ true → value ≤ 16
fits_small byte value digit h = grind (arith, nat_tests)

fits_is : (byte value digit : ℕ) → fits byte value digit ≡ true → value < 16 → digit ≡ byte
fits_is byte value digit h small = grind (arith, nat_tests)

-- it is so of each byte below n, by computing
unfoldable fit_below : List ℕ → ℕ → Bool
fit_below table zero = true
fit_below table (suc n) = fits n (get_or table n 0) (hexadecimal_digit (get_or table n 0)) && fit_below table n

fit_at : (table : List ℕ) (n : ℕ) → fit_below table n ≡ true → (b : ℕ) → b < n → fits b (get_or table b 0) (hexadecimal_digit (get_or table b 0)) ≡ true
unfolding fit_below
fit_at table zero h b low = absurd (omega arith)
fit_at table (suc n) h b low =
    let both = and_parts (fits n (get_or table n 0) (hexadecimal_digit (get_or table n 0))) (fit_below table n) h in
    elim (cases_eq b n) [ inl same ↦ rw same both.0 | inr other ↦ fit_at table n both.1 b (omega arith) ]

small_below : (table : List ℕ) (b : ℕ) → b < 256 → fit_below table 256 ≡ true → get_or table b 0 ≤ 16
small_below table b low h = fits_small b (get_or table b 0) (hexadecimal_digit (get_or table b 0)) (fit_at table 256 h b low)

is_below : (table : List ℕ) (b : ℕ) → b < 256 → fit_below table 256 ≡ true → get_or table b 0 < 16 → hexadecimal_digit (get_or table b 0) ≡ b
is_below table b low h small = fits_is b (get_or table b 0) (hexadecimal_digit (get_or table b 0)) (fit_at table 256 h b low) small

-- each digit's byte has it as its value, by computing
unfoldable known_below : List ℕ → ℕ → Bool
known_below table zero = true
known_below table (suc n) = nat_eq (get_or table (hexadecimal_digit n) 0) n && known_below table n

same_number : (a b : ℕ) → nat_eq a b ≡ true → a ≡ b
same_number a b h = grind (arith, nat_tests)

known_at : (table : List ℕ) (n : ℕ) → known_below table n ≡ true → (d : ℕ) → d < n → get_or table (hexadecimal_digit d) 0 ≡ d
unfolding known_below
known_at table zero h d low = absurd (omega arith)
known_at table (suc n) h d low =
    let both = and_parts (nat_eq (get_or table (hexadecimal_digit n) 0) n) (known_below table n) h in
    elim (cases_eq d n) [ inl same ↦ rw same (same_number (get_or table (hexadecimal_digit n) 0) n both.0) | inr other ↦ known_at table n both.1 d (omega arith) ]

known : (table : List ℕ) (b d : ℕ) → d < 16 → known_below table 16 ≡ true → hexadecimal_digit d ≡ b → get_or table b 0 ≡ d
known table b d low h same = ap (λ x. get_or table x 0) (sym same) ∙ known_at table 16 h d low

pub returns-clause-small : goal.returns-clause-small
unfolding fit_below
returns-clause-small c = small_below VALUES c.args.byte (omega arith) refl

pub returns-clause-found : goal.returns-clause-found
unfolding fit_below
returns-clause-found c = is_below VALUES c.args.byte (omega arith) refl

pub returns-clause-only : goal.returns-clause-only
unfolding known_below
returns-clause-only c = λ digit small same. known VALUES c.args.byte digit small refl same

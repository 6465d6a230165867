-- Decimal numbers at the front of bytes: there is one way to read them.
use Rattle.std.proofs.Common.{◌≡◌, ◌≢◌, ℕ, zero, suc, ◌+◌, ◌-◌, ◌*◌, ◌<◌, ◌≤◌, ◌^◌, inl, inr, List, [], ◌∷◌, ◌++◌, length, get_or, take, drop, sym, refl, ap, ◌∙◌, subst, arith, rules, Option, Some, None, IfSome, IsSomeAnd, MatchOption}
use Rattle.std.specs.Fmt.{decimal}
use Rattle.std.proofs.lemmas.Fmt.{digits_decimal, digits_value-decimal, decimal_injective, decimal_nonempty, first_decimal, decimal_digit, decimal-digits_value}
use Rattle.std.proofs.lemmas.Str.Parse.{IsNumeralModel, numerals_by_fold}
use Rattle.std.proofs.lemmas.List.{take-append-drop, length-take-le, get_or-take, append_cancel_left}
use denote.Ref.{Bor}
use Rattle.shape_dict.specs.Text.{optional_number}
use Rattle.shape_dict.specs.Inner.Parsing.{IsEnded, AreDigits, read_on}

pub own : IsNumeralModel AreDigits (read_on 0)
own = numerals_by_fold AreDigits (search rules) read_on (search rules)

not_ended : (y : ℕ) (r ys : List ℕ) → 48 ≤ y → y ≤ 57 → IsEnded r → r ≡ y ∷ ys → ⊥
not_ended y r ys low high ended e = elim (subst IsEnded e ended) [ inl h ↦ omega arith | inr h ↦ omega arith ]

-- digits and what follows them part in one way
pub run_unique : (xs ys r s : List ℕ) → AreDigits xs → AreDigits ys → IsEnded r → IsEnded s → xs ++ r ≡ ys ++ s → (xs ≡ ys) × (r ≡ s)
run_unique [] [] r s h k ended over e = (refl, e)
run_unique [] (y ∷ ys) r s h k ended over e = absurd (not_ended y r (ys ++ s) k.0 k.1 ended e)
run_unique (x ∷ xs) [] r s h k ended over e = absurd (not_ended x s (xs ++ r) h.0 h.1 over (sym e))
run_unique (x ∷ xs) (y ∷ ys) r s h k ended over e =
    let first : x ≡ y = cc in
    let rest : xs ++ r ≡ ys ++ s = cc in
    let more = run_unique xs ys r s h.2 k.2 ended over rest in
    (cc, more.1)

pub number_unique : (m n : ℕ) (r s : List ℕ) → m < 2 ^ 64 → n < 2 ^ 64 → IsEnded r → IsEnded s → decimal m ++ r ≡ decimal n ++ s → (m ≡ n) × (r ≡ s)
number_unique m n r s small little ended over e =
    let p = run_unique (decimal m) (decimal n) r s (digits_decimal own m small) (digits_decimal own n little) ended over e in
    (decimal_injective m n small little p.0, p.1)

-- the digits at the front are those of the number
pub front_is : (bytes : List ℕ) (count n : ℕ) (left : List ℕ) → AreDigits (take count bytes) → IsEnded (drop count bytes) → n < 2 ^ 64 → IsEnded left → bytes ≡ decimal n ++ left → (take count bytes ≡ decimal n) × (drop count bytes ≡ left)
front_is bytes count n left digits ended small over e =
    run_unique (take count bytes) (decimal n) (drop count bytes) left digits (digits_decimal own n small) ended over (take-append-drop count bytes ∙ e)

pub none_without_digits : (bytes : List ℕ) (n : ℕ) (left : List ℕ) → AreDigits (take 0 bytes) → IsEnded (drop 0 bytes) → n < 2 ^ 64 → IsEnded left → bytes ≡ decimal n ++ left → ⊥
none_without_digits bytes n left digits ended small over e =
    let p = front_is bytes 0 n left digits ended small over e in
    let long = decimal_nonempty n small in
    let same = ap length p.0 in
    omega arith

first_digit : (n : ℕ) → n < 2 ^ 64 → 1 < length (decimal n) → 48 < get_or (decimal n) 0 0
first_digit zero small long = let one = ap length (decimal_digit 0 (omega arith)) in absurd (omega arith)
first_digit (suc n) small long = first_decimal (suc n) (omega arith) small

pub none_with_zero : (bytes : List ℕ) (count n : ℕ) (left : List ℕ) → count ≤ length bytes → AreDigits (take count bytes) → IsEnded (drop count bytes) → 1 < count → get_or bytes 0 0 ≡ 48 → n < 2 ^ 64 → IsEnded left → bytes ≡ decimal n ++ left → ⊥
none_with_zero bytes count n left fits digits ended long zero_first small over e =
    let p = front_is bytes count n left digits ended small over e in
    let same : length (decimal n) ≡ count = ap length (sym p.0) ∙ length-take-le count bytes fits in
    let first = first_digit n small (omega arith) in
    let at : get_or (decimal n) 0 0 ≡ get_or bytes 0 0 = ap (λ ds. get_or ds 0 0) (sym p.0) ∙ get_or-take count bytes 0 0 (omega arith) in
    omega arith

pub none_too_large : (bytes : List ℕ) (count n : ℕ) (left : List ℕ) → AreDigits (take count bytes) → IsEnded (drop count bytes) → (read_on 0 (take count bytes) < 2 ^ 64 → ⊥) → n < 2 ^ 64 → IsEnded left → bytes ≡ decimal n ++ left → ⊥
none_too_large bytes count n left digits ended large small over e =
    let p = front_is bytes count n left digits ended small over e in
    let value : read_on 0 (take count bytes) ≡ n = ap (read_on 0) p.0 ∙ digits_value-decimal own n small in
    large (omega arith)

pub value_is : (bytes : List ℕ) (count n : ℕ) (left : List ℕ) → AreDigits (take count bytes) → IsEnded (drop count bytes) → n < 2 ^ 64 → IsEnded left → bytes ≡ decimal n ++ left → (read_on 0 (take count bytes) ≡ n) × (drop count bytes ≡ left)
value_is bytes count n left digits ended small over e =
    let p = front_is bytes count n left digits ended small over e in
    (ap (read_on 0) p.0 ∙ digits_value-decimal own n small, p.1)

one_digit : (length count : ℕ) → length ≡ count → 0 < count → (1 < count → ⊥) → length ≡ 1
one_digit n count same some few = omega arith

pub spelled : (bytes : List ℕ) (count : ℕ) → count ≤ length bytes → AreDigits (take count bytes) → 0 < count → (1 < count → get_or bytes 0 0 ≡ 48 → ⊥) → read_on 0 (take count bytes) < 2 ^ 64 → bytes ≡ decimal (read_on 0 (take count bytes)) ++ drop count bytes
spelled bytes count fits digits some lead small =
    let long = length-take-le count bytes fits in
    let at : get_or (take count bytes) 0 0 ≡ get_or bytes 0 0 = get_or-take count bytes 0 0 some in
    let back = decimal-digits_value own (take count bytes) digits (omega arith) (λ z. one_digit (length (take count bytes)) count long some (λ more. lead more (sym at ∙ z))) small in
    sym (take-append-drop count bytes) ∙ ap (λ ds. ds ++ drop count bytes) (sym back)

-- a number read on is at least the number so far
pub read_on_ge : (n : ℕ) (ds : List ℕ) → n ≤ read_on n ds
read_on_ge n [] = omega arith
read_on_ge n (d ∷ ds) = let more = read_on_ge (10 * n + (d - 48)) ds in omega arith

-- literals
pub after_found : (s p : List ℕ) (r : Option (Bor (List ℕ))) → MatchOption r ((rest : List ℕ) → s ≢ p ++ rest) (λ x. s ≡ p ++ x.now) → IfSome r (λ x. s ≡ p ++ x.now)
after_found s p None h = tt
after_found s p (Some x) h = h

pub after_only : (s p : List ℕ) (r : Option (Bor (List ℕ))) → MatchOption r ((rest : List ℕ) → s ≢ p ++ rest) (λ x. s ≡ p ++ x.now) → (left : List ℕ) → s ≡ p ++ left → IsSomeAnd r (λ x. x.now ≡ left)
after_only s p None h left e = absurd (h left e)
after_only s p (Some x) h left e = append_cancel_left p x.now left (sym h ∙ e)

pub digits_push : (xs : List ℕ) (b : ℕ) → AreDigits xs → 48 ≤ b → b ≤ 57 → AreDigits (xs ++ b ∷ [])
digits_push [] b h low high = (low, high, tt)
digits_push (x ∷ xs) b h low high = (h.0, h.1, digits_push xs b h.2 low high)

-- `-` begins no number
no_dash_in : (ds left rest : List ℕ) → AreDigits ds → 0 < length ds → ds ++ left ≡ 45 ∷ rest → ⊥
no_dash_in [] left rest digits some e = omega arith
no_dash_in (d ∷ ds) left rest digits some e = let same : d ≡ 45 = cc in let low = digits.0 in omega arith

pub no_dash : (n : ℕ) (left rest : List ℕ) → n < 2 ^ 64 → decimal n ++ left ≡ 45 ∷ rest → ⊥
no_dash n left rest small e = no_dash_in (decimal n) left rest (digits_decimal own n small) (decimal_nonempty n small) e

pub dash_only : (number : Option ℕ) (left rest : List ℕ) → IfSome number (λ n. n < 2 ^ 64) → 45 ∷ rest ≡ optional_number number ++ left → (None ≡ number) × (rest ≡ left)
dash_only None left rest h e = (refl, cc)
dash_only (Some n) left rest h e = absurd (no_dash n left rest h (sym e))

-- The number of digits, counted up to a cap.
use Rattle.std.proofs.Common.{◌≡◌, ℕ, ◌+◌, ◌-◌, ◌*◌, ◌<◌, true, ◌&&◌, List, [], ◌∷◌, min, length, drop, get_or, ap, sym, ◌∙◌, arith, add-one}
use Rattle.std.proofs.Math.Seq.{drop-cons}
use Rattle.std.specs.List.{list_all}
use Rattle.go_record.specs.Spelling.{is_digit, digits_after}

-- a number that is cut to the cap on the way gives the same
pub capped : (total : ℕ) (digits : List ℕ) → min (digits_after (min total 100) digits) 100 ≡ min (digits_after total digits) 100
capped total [] = omega arith
capped total (digit ∷ digits) =
    let cut : min (10 * min total 100 + (digit - 48)) 100 ≡ min (10 * total + (digit - 48)) 100 = omega arith in
    sym (capped (10 * min total 100 + (digit - 48)) digits)
    ∙ ap (λ n. min (digits_after n digits) 100) cut
    ∙ capped (10 * total + (digit - 48)) digits

-- one digit more is read
pub digits_left : (digits : List ℕ) (i : ℕ) → i < length digits → is_digit (get_or digits i 0) ≡ true →
    list_all is_digit (drop i digits) ≡ list_all is_digit digits → list_all is_digit (drop (i + 1) digits) ≡ list_all is_digit digits
digits_left digits i inside is before =
    sym (ap (λ b. b && list_all is_digit (drop (i + 1) digits)) is) ∙ sym (ap (list_all is_digit) split) ∙ before
  where
    split : drop i digits ≡ get_or digits i 0 ∷ drop (i + 1) digits
    split = rw (add-one, drop-cons digits i 0)

pub number_left : (digits : List ℕ) (i total next : ℕ) → i < length digits → next ≡ min (10 * total + (get_or digits i 0 - 48)) 100 →
    min (digits_after next (drop (i + 1) digits)) 100 ≡ min (digits_after total (drop i digits)) 100
number_left digits i total next inside is =
    ap (λ n. min (digits_after n (drop (i + 1) digits)) 100) is
    ∙ capped (10 * total + (get_or digits i 0 - 48)) (drop (i + 1) digits)
    ∙ sym (ap (λ ds. min (digits_after total ds) 100) split)
  where
    split : drop i digits ≡ get_or digits i 0 ∷ drop (i + 1) digits
    split = rw (add-one, drop-cons digits i 0)

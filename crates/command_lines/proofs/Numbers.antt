-- What the values of options say.
use Rattle.std.proofs.Common.{◌≡◌, ◌≢◌, ◌<◌, ◌^◌, ℕ, List, Option, Some, None, Result, refl, sym, subst, ap, ◌∙◌, codes, arith}
use Rattle.std.specs.Prelude.{IfSome, IfNone}
use Rattle.std.specs.Str.Parse.{ExplainsUnsignedError, HasUnsignedDigitsIfOk, ParsesUnsigned, digits_value, without_leading_plus}
use Rattle.std.specs.declared.num.ParseIntError.{ParseIntError}
use Rattle.clap.specs.Words.{Row, ReadsOne, first_of, one_of}
use Rattle.command_lines.specs.Texts.{HasNoText, number_of}
use Rattle.command_lines.specs.Values.{HasNoNumber, HasNoOptionalNumber, IsNumberOf}
use Rattle.shape_dict.specs.declared.entries.Text.{Text}
use Rattle.shape_dict.specs.declared.entries.Text.TheVariants as text

-- how std reads a number of at most this many bits
abbrev GivesNumber : ℕ → List ℕ → Result ℕ ParseIntError → Type 0
GivesNumber bits t result = ParsesUnsigned bits 10 t result × ExplainsUnsignedError 10 t result × HasUnsignedDigitsIfOk t result

-- a number that was read is that of the option's text
pub number_read : (bits : ℕ) (name : List ℕ) (rows : List Row) (text : Option (List ℕ)) (result : Option ℕ) → one_of name rows ≡ text → (text ≡ None → result ≡ None) →
    ((t : List ℕ) → text ≡ Some t → ReadsOne (GivesNumber bits) t result) → IfSome result (IsNumberOf name rows)
number_read bits name rows text None is none value = tt
number_read bits name rows None (Some n) is none value = absurd (let bad = none refl in cc)
number_read bits name rows (Some t) (Some n) is none value =
    let read = (value t refl).0 in
    record { text = t; given = is; digits = read.0.0; value = read.1 }

-- where none was read, the option has no number of at most this many bits
pub number_missing : (bits : ℕ) (name : List ℕ) (rows : List Row) (text : Option (List ℕ)) (result : Option ℕ) → one_of name rows ≡ text →
    ((t : List ℕ) → text ≡ Some t → ReadsOne (GivesNumber bits) t result) → IfNone result (HasNoNumber (2 ^ bits) name rows)
number_missing bits name rows text (Some n) is value = tt
number_missing bits name rows text None is value = λ number given small.
    (value given.text (sym is ∙ given.given)).1.0 (given.digits, subst (λ m. m < 2 ^ bits) given.value small)

-- a value that is no number is no number that may be left out
pub no_optional : (name : List ℕ) (rows : List Row) (text : List ℕ) → first_of name rows ≡ Some text → HasNoNumber (2 ^ 64) name rows → HasNoOptionalNumber name rows
no_optional name rows text is none None given small = let both = sym is ∙ given in absurd (cc)
no_optional name rows text is none (Some number) given small = none number given small

-- an option has one number
pub one_number : (name : List ℕ) (rows : List Row) (m n : ℕ) → IsNumberOf name rows m → IsNumberOf name rows n → m ≡ n
one_number name rows m n one other =
    let same : one.text ≡ other.text = let both = sym one.given ∙ other.given in cc in
    one.value ∙ ap (λ t. digits_value 10 (without_leading_plus t)) same ∙ sym other.value

text_small : (kind : Text) → number_of kind < 2 ^ 8
text_small text.One = omega arith
text_small text.Two = omega arith
text_small text.Three = omega arith

-- no number, no text
pub no_text : (rows : List Row) → HasNoNumber (2 ^ 8) (codes "text") rows → HasNoText rows
no_text rows none kind given = none (number_of kind) given (text_small kind)

-- the text of a number that was read, or none
pub text_given : (rows : List Row) (number : ℕ) (result : Option Text) → IsNumberOf (codes "text") rows number → IfSome result (λ kind. number ≡ number_of kind) →
    IfSome result (λ kind. IsNumberOf (codes "text") rows (number_of kind))
text_given rows number (Some kind) is same = subst (IsNumberOf (codes "text") rows) same is
text_given rows number None is same = tt

pub other_text : (rows : List Row) (number : ℕ) (result : Option Text) → IsNumberOf (codes "text") rows number → IfNone result ((kind : Text) → number ≢ number_of kind) →
    IfNone result (HasNoText rows)
other_text rows number (Some kind) is none = tt
other_text rows number None is none = λ kind given. none kind (one_number (codes "text") rows number (number_of kind) is given)

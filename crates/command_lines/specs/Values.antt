-- What the values of options, words and flags say.
use Rattle.std.specs.Prelude.{◌≡◌, ◌<◌, ◌^◌, ℕ, List, [], Option, Some, None, IfSome, codes, unwrap_or}
use Rattle.std.specs.Str.Parse.{IsNumeral, digits_value, without_leading_plus}
use Rattle.clap.specs.Words.{Row, all_of, first_of, found_of, one_of, rows_of}
use Rattle.clap.specs.declared.parser.matches.ArgMatches.{ArgMatches}

-- the values of each option, word and flag
abbrev pub rows_in : ArgMatches → List Row
rows_in matches = rows_of (found_of matches)

-- the values of this name, in their order: none where it is not given
abbrev pub words_in : List ℕ → List Row → List (List ℕ)
words_in name rows = unwrap_or (all_of name rows) []

-- the value of this option is this number, in decimal digits that may follow a `+`
pub record IsNumberOf (name : List ℕ) (rows : List Row) (number : ℕ) : Type 0 where
  pub text : List ℕ
  pub given : one_of name rows ≡ Some text
  pub digits : IsNumeral 10 (without_leading_plus text)
  pub value : number ≡ digits_value 10 (without_leading_plus text)

-- the option has no number below this limit as its value
abbrev pub HasNoNumber : ℕ → List ℕ → List Row → Type 0
HasNoNumber limit name rows = (number : ℕ) → IsNumberOf name rows number → number < limit → ⊥

-- this is the option's number: none where it is not given
abbrev pub IsOptionalNumberOf : List ℕ → List Row → Option ℕ → Type 0
IsOptionalNumberOf name rows None = first_of name rows ≡ None
IsOptionalNumberOf name rows (Some number) = IsNumberOf name rows number

-- the option has a value that is no number below 2 ^ 64
abbrev pub HasNoOptionalNumber : List ℕ → List Row → Type 0
HasNoOptionalNumber name rows = (found : Option ℕ) → IsOptionalNumberOf name rows found → IfSome found (λ number. number < 2 ^ 64) → ⊥

-- whether the flag was given says which of two this is: the first where it was
pub record IsChoiceOf {A : Type 0} (flag : List ℕ) (yes no : A) (rows : List Row) (found : A) : Type 0 where
  pub given : one_of flag rows ≡ Some (codes "true") → found ≡ yes
  pub denied : one_of flag rows ≡ Some (codes "false") → found ≡ no
  pub absent : one_of flag rows ≡ None → found ≡ no

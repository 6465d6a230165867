-- What `clap` is told of a program without arguments, and of those arguments that several programs take.
use Rattle.std.specs.Prelude.{ℕ, List, [], ◌∷◌, Some, true, codes, pos}
use Rattle.clap.specs.Lexer.{usize_max}
use Rattle.clap.specs.Words.{App, Rule, new_app, new_rule}
use Rattle.clap.specs.declared.builder.ArgAction.TheVariants.{SetTrue}
use Rattle.clap.specs.declared.builder.value_parser.ValueParser.TheVariants as parser

-- a program without arguments: it has a version, and its name is not among its words
abbrev pub bare_app : List ℕ → App
bare_app name = let app = new_app name in record app { top = record app.top { has_version = true; no_binary_name = true } }

-- an argument that may be given, at its place among such arguments
abbrev pub word_rule : List ℕ → Rule
word_rule name = record (new_rule name) { value_names = 1 }

-- any number of words
abbrev pub names_rule : List ℕ → Rule
names_rule name = record (new_rule name) {
  value_names = 1;
  range = Some (record { start_inclusive = 1; end_inclusive = usize_max });
}

-- a flag
abbrev pub flag_rule : List ℕ → Rule
flag_rule name = record (new_rule name) { long = Some name; action = Some SetTrue }

-- an option that takes a value
abbrev pub option_rule : List ℕ → Rule
option_rule name = record (new_rule name) { long = Some name; value_names = 1 }

-- an option that takes a number within bounds, and has a value where it is not given
abbrev pub number_rule : List ℕ → ℕ → ℕ → List ℕ → Rule
number_rule name least most usual =
    record (option_rule name) { parser = Some (parser.Signed (pos least) (pos most)); defaults = usual ∷ [] }

abbrev pub text_rule : Rule
text_rule = number_rule (codes "text") 1 3 (codes "1")

abbrev pub workers_rule : Rule
workers_rule = number_rule (codes "workers") 1 64 (codes "4")

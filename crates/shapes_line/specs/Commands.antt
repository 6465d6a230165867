-- The command line as `clap` is told it, and what `clap` makes of words by its own definitions.
use Rattle.std.specs.Prelude.{ℕ, List, Option, true, codes}
use Rattle.clap.specs.Words.{App, Row, Rule, new_app, subcommand_of, with_rule, with_subcommand}
use Rattle.command_lines.specs.Arguments.{bare_app, flag_rule, number_rule, text_rule, word_rule, workers_rule}

-- an argument that has to be given, at its place among such arguments
abbrev pub required_word : List ℕ → Rule
required_word name = record (word_rule name) { required = true }

abbrev pub bits_rule : Rule
bits_rule = number_rule (codes "bits") 0 22 (codes "20")

abbrev pub count_app : App
count_app = with_rule (with_rule (with_rule (new_app (codes "count")) workers_rule) bits_rule) text_rule

abbrev pub find_app : App
find_app =
    with_rule (with_rule (with_rule (new_app (codes "find")) (required_word (codes "glyphs"))) (required_word (codes "colour")))
    (flag_rule (codes "diamond"))

abbrev pub join_app : App
join_app = with_rule (new_app (codes "join")) text_rule

abbrev pub program_app : App
program_app =
    with_subcommand (with_subcommand (with_subcommand (with_subcommand (bare_app (codes "shapes")) (new_app (codes "board")).top)
    count_app.top) find_app.top) join_app.top

-- the subcommand that the words name, with the values that they give it
abbrev pub asked_by : List (List ℕ) → Option (List ℕ × List Row)
asked_by words = subcommand_of program_app words

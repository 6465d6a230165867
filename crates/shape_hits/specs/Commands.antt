-- The command line as `clap` is told it.
use Rattle.std.specs.Prelude.{Some, codes}
use Rattle.clap.specs.Words.{App, Rule, with_rule}
use Rattle.clap.specs.declared.builder.value_parser.ValueParser.TheVariants as parser
use Rattle.command_lines.specs.Arguments.{bare_app, flag_rule, names_rule, option_rule, word_rule, workers_rule}

abbrev pub most_rule : Rule
most_rule = record (option_rule (codes "most")) { parser = Some (parser.Unsigned 0 18446744073709551615) }

-- with what says which patterns are looked for
abbrev pub patterns_app : App
patterns_app =
    with_rule (with_rule (with_rule (with_rule (bare_app (codes "shape_hits")) (word_rule (codes "glyphs")))
    (word_rule (codes "colour"))) (flag_rule (codes "diamond"))) (option_rule (codes "words"))

abbrev pub program_app : App
program_app =
    with_rule (with_rule (with_rule (with_rule (with_rule (with_rule patterns_app (flag_rule (codes "there")))
    (flag_rule (codes "coordinates"))) most_rule) workers_rule) (option_rule (codes "sgf"))) (names_rule (codes "files"))

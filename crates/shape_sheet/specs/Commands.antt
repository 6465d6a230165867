-- The command line as `clap` is told it.
use Rattle.std.specs.Prelude.{[], ◌∷◌, Some, codes}
use Rattle.clap.specs.Words.{App, Rule, with_rule}
use Rattle.clap.specs.declared.builder.value_parser.ValueParser.TheVariants as parser
use Rattle.command_lines.specs.Arguments.{bare_app, flag_rule, number_rule, option_rule}

abbrev pub by_rule : Rule
by_rule = record (option_rule (codes "by")) { defaults = codes "played" ∷ [] }

abbrev pub least_rule : Rule
least_rule = record (option_rule (codes "least")) { parser = Some (parser.Unsigned 1 18446744073709551615); defaults = codes "1" ∷ [] }

abbrev pub most_rule : Rule
most_rule = number_rule (codes "most") 1 10000 (codes "50")

abbrev pub program_app : App
program_app =
    with_rule (with_rule (with_rule (with_rule (with_rule (with_rule (bare_app (codes "shape_sheet")) by_rule) least_rule) most_rule)
    (flag_rule (codes "diamonds"))) (flag_rule (codes "plain"))) (option_rule (codes "hits"))

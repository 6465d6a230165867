-- The command line as `clap` is told it.
use Rattle.std.specs.Prelude.{Some, true, codes}
use Rattle.clap.specs.Words.{App, Rule, with_rule}
use Rattle.clap.specs.declared.builder.value_parser.ValueParser.TheVariants as parser
use Rattle.command_lines.specs.Arguments.{bare_app, names_rule, option_rule, text_rule}

-- the option takes a number, from 1 on
abbrev pub least_rule : Rule
least_rule = record (option_rule (codes "least")) { parser = Some (parser.Unsigned 1 18446744073709551615) }

-- the option takes a name; its short form is `-o`
abbrev pub out_rule : Rule
out_rule = record (option_rule (codes "out")) { short = Some 111 }

-- one name at least has to be given
abbrev pub dictionaries_rule : Rule
dictionaries_rule = record (names_rule (codes "dictionaries")) { required = true }

abbrev pub program_app : App
program_app =
    with_rule (with_rule (with_rule (with_rule (bare_app (codes "shape_merge")) text_rule) least_rule) out_rule) dictionaries_rule

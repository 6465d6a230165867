-- The command line as `clap` is told it.
use Rattle.std.specs.Prelude.{Some, [], ◌∷◌, codes}
use Rattle.clap.specs.Words.{App, Rule, with_rule}
use Rattle.clap.specs.declared.builder.value_parser.ValueParser.TheVariants as parser
use Rattle.command_lines.specs.Arguments.{bare_app, flag_rule, names_rule, option_rule, text_rule, workers_rule}

-- the option takes a number from 64 to 1,000,000, and has 1024 where it is not given
abbrev pub memory_rule : Rule
memory_rule = record (option_rule (codes "memory")) { parser = Some (parser.Unsigned 64 1000000); defaults = codes "1024" ∷ [] }

-- the option takes a name; its short form is `-o`
abbrev pub out_rule : Rule
out_rule = record (option_rule (codes "out")) { short = Some 111 }

-- the program with what says how is counted, and where the dictionary goes
abbrev pub counting_app : App
counting_app = with_rule (with_rule (with_rule (with_rule (bare_app (codes "shape_tally")) text_rule) workers_rule) memory_rule) out_rule

-- the program with what names its inputs and other files, too
abbrev pub program_app : App
program_app =
    with_rule (with_rule (with_rule (with_rule (with_rule (with_rule counting_app (option_rule (codes "report"))) (flag_rule (codes "strict")))
    (option_rule (codes "spill"))) (option_rule (codes "list"))) (flag_rule (codes "null"))) (names_rule (codes "files"))

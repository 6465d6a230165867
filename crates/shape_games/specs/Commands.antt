-- The command line as `clap` is told it.
use Rattle.std.specs.Prelude.{Some, codes}
use Rattle.clap.specs.Words.{App, Rule, with_rule}
use Rattle.clap.specs.declared.builder.ArgAction.TheVariants.{Append}
use Rattle.command_lines.specs.Arguments.{bare_app, flag_rule, names_rule, option_rule}

-- the option may be given several times
abbrev pub where_rule : Rule
where_rule = record (option_rule (codes "where")) { action = Some Append }

abbrev pub program_app : App
program_app =
    with_rule (with_rule (with_rule (with_rule (with_rule (bare_app (codes "shape_games")) (flag_rule (codes "info"))) where_rule)
    (flag_rule (codes "cut"))) (flag_rule (codes "twice"))) (names_rule (codes "files"))

use Rattle.std.proofs.Common.{◌≡◌, ◌∙◌, refl, sym, true, false}
use Rattle.clap.specs.Words.{found_of}
use Rattle.clap.proofs.WalkLemmas.{one_text-rows}
use Rattle.command_lines.proofs.values.choice.Goals as goal

true_not_false : true ≡ false → ⊥
true_not_false h = cc

pub returns-then-get_flag : goal.returns-then-get_flag
returns-then-get_flag g c =
    let rows = one_text-rows (found_of c.args.matches.now) c.args.flag.now in
    record {
      given = λ e. refl;
      denied = λ e. absurd (true_not_false (sym c.if-get_flag.true ∙ c.get_flag.ensures.other (rows ∙ e)));
      absent = λ e. absurd (true_not_false (sym c.if-get_flag.true ∙ c.get_flag.ensures.none (rows ∙ e)));
    }

pub returns-else-get_flag : goal.returns-else-get_flag
returns-else-get_flag g c =
    let rows = one_text-rows (found_of c.args.matches.now) c.args.flag.now in
    record {
      given = λ e. absurd (true_not_false (sym (c.get_flag.ensures.value (rows ∙ e)) ∙ c.if-get_flag.false));
      denied = λ e. refl;
      absent = λ e. refl;
    }

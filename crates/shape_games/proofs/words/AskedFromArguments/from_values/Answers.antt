use Rattle.std.proofs.Common.{◌≡◌, ◌∙◌, ap, sym, refl, inr, map, codes, List, ℕ}
use Rattle.std.specs.Borrow.{Bor}
use Rattle.command_lines.specs.Values.{rows_in, words_in}
use Rattle.shape_games.specs.Words.{is_some_text, work_of}
use Rattle.shape_games.proofs.words.AskedFromArguments.from_values.Goals as goal

pub returns-in_default-clause-fault : goal.returns-in_default-clause-fault
returns-in_default-clause-fault c =
    let rows = rows_in c.args.matches.now in
    let info = c.has_flag-info.result in
    let cut = c.has_flag-cut.result in
    let twice = c.has_flag-twice.result in
    let some : c.is_some_text.result ≡ is_some_text (words_in (codes "where") rows) =
    c.is_some_text.ensures
    ∙ ap is_some_text (ap (λ (texts : List (Bor (List ℕ))). map (λ text. text.now) texts) c.deref-2.ensures.value ∙ c.in_ok-texts.ensures) in
    inr (
      refl,
      inr (record {
        info = info;
        cut = cut;
        twice = twice;
        flags = record { is_info = c.has_flag-info.ensures; is_cut = c.has_flag-cut.ensures; is_twice = c.has_flag-twice.ensures };
        no_work = ap (λ b. work_of info cut twice b) (sym some) ∙ sym c.in_default.ensures;
      }),
    )

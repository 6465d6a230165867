use Rattle.std.proofs.Common.{◌≡◌, ◌<◌, ℕ, List, length, sym, subst, ◌∙◌, arith}
use Rattle.std.proofs.lemmas.Option.{none-some, same_Some}
use Rattle.shape_dict.specs.declared.entries.Entry.{Entry}
use Rattle.shape_dict.specs.Pieces.{entries_in}
use Rattle.tally_core.specs.Beyond.{IsFirstBeyond}
use Rattle.beyond_core.proofs.TooMany.{all_before, has_game, first_word}
use Rattle.beyond_core.proofs.too_many.first_of.Goals as goal

pub game_of-requires : goal.game_of-requires
game_of-requires c =
    subst (λ (es : List Entry). c.args.most < length es) (sym (all_before c.args.kinds c.args.bytes.now c.args.counted.now c.requires.counted)) c.requires.many

pub new_at-requires : goal.new_at-requires
new_at-requires c =
    has_game c.args.kinds c.args.bytes.now c.args.counted.now c.requires.counted c.in_ok-reached.reached.game c.args.most (omega (arith, c.in_ok-reached.ensures.before, c.in_ok-reached.ensures.few)) c.in_ok-reached.ensures.more

pub unreachable-requires : goal.unreachable-requires
unreachable-requires c =
    let word =
    first_word c.args.kinds c.args.bytes.now c.args.counted.now c.requires.counted c.in_ok-reached.reached.game c.args.most (omega (arith, c.in_ok-reached.ensures.before, c.in_ok-reached.ensures.few)) c.in_ok-reached.ensures.more
    c.replays_have_one_result.ensures (entries_in c.pieces-pieces.result.now) c.in_ok-reached.reached.before c.in_ok-shape.field-0 c.pieces-pieces.ensures.value c.in_ok-reached.ensures.before
    c.in_ok-shape.ensures.found in
    none-some word.0 (sym c.in-None.is ∙ word.1)

pub returns-clause-first : goal.returns-clause-first
returns-clause-first c =
    let word =
    first_word c.args.kinds c.args.bytes.now c.args.counted.now c.requires.counted c.in_ok-reached.reached.game c.args.most (omega (arith, c.in_ok-reached.ensures.before, c.in_ok-reached.ensures.few)) c.in_ok-reached.ensures.more
    c.replays_have_one_result.ensures (entries_in c.pieces-pieces.result.now) c.in_ok-reached.reached.before c.in_ok-shape.field-0 c.pieces-pieces.ensures.value c.in_ok-reached.ensures.before
    c.in_ok-shape.ensures.found in
    let same : word.0 ≡ c.in-Some.shape = same_Some word.0 c.in-Some.shape (sym word.1 ∙ c.in-Some.is) in
    subst (λ (w : ℕ). IsFirstBeyond c.args.kinds c.args.bytes.now c.args.most c.in_ok-reached.reached.game w) same word.2

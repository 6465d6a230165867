use Rattle.std.proofs.Common.{◌≡◌, ◌<◌, [], ◌∷◌, length, bit_xor, refl, sym, ap, ap₂, subst, ◌∙◌, arith}
use Rattle.std.proofs.lemmas.List.{with_items_is, get_or_read}
use Rattle.go_board.specs.Position.{placed}
use Rattle.shape_core.specs.declared.words.Kind.TheVariants as kind
use Rattle.std.specs.Int.Bits.{xor_zero_r, xor_self}
use Rattle.shape_core.proofs.Recoding.{changed_twice}
use Rattle.shape_core.specs.Around.{stone_code}
use Rattle.shape_core.specs.Field.{MarksNear, reach_of}
use Rattle.shape_core.proofs.Nearness.{MarksNear-twice}
use Rattle.shape_core.specs.Inner.KeptLists.{AreWords}
use Rattle.std.specs.Vec.{with_items}
use Rattle.shape_core.proofs.Playing.{Changes-of_both}
use Rattle.shape_core.proofs.Agreeing.{Follows-agree, placed_again, same_stones, found_code}
use Rattle.shape_core.proofs.kept.KeptWords.change.Goals as goal

pub returns-in-Both-clause-follow : goal.returns-in-Both-clause-follow
returns-in-Both-clause-follow c = λ position old.
    let kept = c.args.self.now in
    let items = kept.squares.items in
    let within : c.index.result < length items = omega (arith, c.index.ensures.below, old.squares_follow.count) in
    let read = get_or_read items c.index.result c.index-2.result.now within c.index-2.ensures 0 in
    let code = found_code kept position c.args.point c.index.result c.word.result c.code.result c.requires.on_board old c.index.ensures.value (c.word.ensures ∙ read) c.code.ensures.value in
    let change = ap₂ bit_xor code c.code_of.ensures.value in
    let size = c.args.self.now.size in
    let after = placed position c.args.point c.args.stone in
    let squares = c.args.self.now.squares in
    let diamonds = c.args.self.now.diamonds in
    record {
      squares_follow =
          subst (λ ws. AreWords kind.Square size after ws) (sym (with_items_is squares c.recode.new.words (c.recode.auto.words ∙ c.deref_mut.ensures.len)))
          (c.recode.ensures.follow position c.args.stone change (rw c.deref_mut.ensures.value old.squares_follow));
      diamonds_follow = λ both.
          subst (λ ws. AreWords kind.Diamond size after ws) (sym (with_items_is diamonds c.recode-in-Both.new.words (c.recode-in-Both.auto.words ∙ c.deref_mut-in-Both.ensures.len)))
          (c.recode-in-Both.ensures.follow position c.args.stone change (rw c.deref_mut-in-Both.ensures.value (old.diamonds_follow both)));
    }

pub returns-in_default-clause-follow : goal.returns-in_default-clause-follow
returns-in_default-clause-follow c = λ position old.
    let kept = c.args.self.now in
    let items = kept.squares.items in
    let within : c.index.result < length items = omega (arith, c.index.ensures.below, old.squares_follow.count) in
    let read = get_or_read items c.index.result c.index-2.result.now within c.index-2.ensures 0 in
    let code = found_code kept position c.args.point c.index.result c.word.result c.code.result c.requires.on_board old c.index.ensures.value (c.word.ensures ∙ read) c.code.ensures.value in
    let change = ap₂ bit_xor code c.code_of.ensures.value in
    let size = c.args.self.now.size in
    let after = placed position c.args.point c.args.stone in
    let squares = c.args.self.now.squares in
    record {
      squares_follow =
          subst (λ ws. AreWords kind.Square size after ws) (sym (with_items_is squares c.recode.new.words (c.recode.auto.words ∙ c.deref_mut.ensures.len)))
          (c.recode.ensures.follow position c.args.stone change (rw c.deref_mut.ensures.value old.squares_follow));
      diamonds_follow = λ both. absurd (c.in_default.not-Both both);
    }

-- the code that is found is that of the stone on the point
pub returns-else-change-ne0-clause-follow : goal.returns-else-change-ne0-clause-follow
returns-else-change-ne0-clause-follow c = λ position old.
    let kept = c.args.self.now in
    let items = kept.squares.items in
    let within : c.index.result < length items = omega (arith, c.index.ensures.below, old.squares_follow.count) in
    let read = get_or_read items c.index.result c.index-2.result.now within c.index-2.ensures 0 in
    let code = found_code kept position c.args.point c.index.result c.word.result c.code.result c.requires.on_board old c.index.ensures.value (c.word.ensures ∙ read) c.code.ensures.value in
    let point = c.args.point in
    let stands : position point ≡ c.args.stone =
    same_stones (position point) c.args.stone (sym code ∙ sym (xor_zero_r c.code.result) ∙ ap (bit_xor c.code.result) (sym c.if-change-ne0.false) ∙ changed_twice c.code.result c.code_of.result ∙ c.code_of.ensures.value) in
    Follows-agree kept position (placed position point c.args.stone) (placed_again kept.size position point c.args.stone stands) old

pub returns-in-Both-clause-change : goal.returns-in-Both-clause-change
returns-in-Both-clause-change c =
    let kept = c.args.self.now in
    let marked = c.recode.new.changed in
    let later = c.recode-in-Both.new.changed in
    let squares = with_items_is kept.squares c.recode.new.words (c.recode.auto.words ∙ c.deref_mut.ensures.len) in
    let diamonds = with_items_is kept.diamonds c.recode-in-Both.new.words (c.recode-in-Both.auto.words ∙ c.deref_mut-in-Both.ensures.len) in
    let once = with_items_is kept.changed marked (c.recode.auto.changed ∙ c.deref_mut-then-change-ne0.ensures.len) in
    let twice = with_items_is (with_items kept.changed marked) later (c.recode-in-Both.auto.changed ∙ c.deref_mut-in-Both-2.ensures.len) in
    Changes-of_both kept _ c.recode.new.words marked c.recode-in-Both.new.words later refl refl squares diamonds twice
    (rw c.deref_mut-then-change-ne0.ensures.value at c.recode.ensures.stay)
    (rw c.deref_mut.ensures.value at c.recode.ensures.differing)
    (rw (c.deref_mut-in-Both-2.ensures.value ∙ once) at c.recode-in-Both.ensures.stay)
    (rw c.deref_mut-in-Both.ensures.value at c.recode-in-Both.ensures.differing)

pub returns-in-Both-clause-near : goal.returns-in-Both-clause-near
returns-in-Both-clause-near c =
    let kept = c.args.self.now in
    let marked = c.recode.new.changed in
    let later = c.recode-in-Both.new.changed in
    let points = c.args.point ∷ [] in
    let once = with_items_is kept.changed marked (c.recode.auto.changed ∙ c.deref_mut-then-change-ne0.ensures.len) in
    let twice = with_items_is (with_items kept.changed marked) later (c.recode-in-Both.auto.changed ∙ c.deref_mut-in-Both-2.ensures.len) in
    subst (λ after. MarksNear (reach_of kept.kinds) points kept.changed.items after) (sym twice)
    (subst (λ kinds. MarksNear (reach_of kinds) points kept.changed.items later) (sym c.in-Both.is)
    (MarksNear-twice 3 points points points kept.changed.items marked later (λ p held. held) (λ p held. held)
    (rw c.deref_mut-then-change-ne0.ensures.value at c.recode.ensures.near 3 refl)
    (rw (c.deref_mut-in-Both-2.ensures.value ∙ once) at c.recode-in-Both.ensures.near 3 refl)))

pub returns-in_default-clause-near : goal.returns-in_default-clause-near
returns-in_default-clause-near c =
    let kept = c.args.self.now in
    let marked = c.recode.new.changed in
    let points = c.args.point ∷ [] in
    let once = with_items_is kept.changed marked (c.recode.auto.changed ∙ c.deref_mut-then-change-ne0.ensures.len) in
    subst (λ after. MarksNear (reach_of kept.kinds) points kept.changed.items after) (sym once)
    (subst (λ kinds. MarksNear (reach_of kinds) points kept.changed.items marked) (sym c.in_default.is)
    (rw c.deref_mut-then-change-ne0.ensures.value at c.recode.ensures.near 2 refl))

-- the code that is found is not that of the stone on the point
pub returns-in-Both-clause-still : goal.returns-in-Both-clause-still
returns-in-Both-clause-still c = λ position old stands.
    let kept = c.args.self.now in
    let items = kept.squares.items in
    let within : c.index.result < length items = omega (arith, c.index.ensures.below, old.squares_follow.count) in
    let read = get_or_read items c.index.result c.index-2.result.now within c.index-2.ensures 0 in
    let code = found_code kept position c.args.point c.index.result c.word.result c.code.result c.requires.on_board old c.index.ensures.value (c.word.ensures ∙ read) c.code.ensures.value in
    let same : c.code_of.result ≡ c.code.result = c.code_of.ensures.value ∙ ap stone_code (sym stands) ∙ sym code in
    absurd (c.if-change-ne0.true (ap (bit_xor c.code.result) same ∙ xor_self c.code.result))

pub returns-in_default-clause-still : goal.returns-in_default-clause-still
returns-in_default-clause-still c = λ position old stands.
    let kept = c.args.self.now in
    let items = kept.squares.items in
    let within : c.index.result < length items = omega (arith, c.index.ensures.below, old.squares_follow.count) in
    let read = get_or_read items c.index.result c.index-2.result.now within c.index-2.ensures 0 in
    let code = found_code kept position c.args.point c.index.result c.word.result c.code.result c.requires.on_board old c.index.ensures.value (c.word.ensures ∙ read) c.code.ensures.value in
    let same : c.code_of.result ≡ c.code.result = c.code_of.ensures.value ∙ ap stone_code (sym stands) ∙ sym code in
    absurd (c.if-change-ne0.true (ap (bit_xor c.code.result) same ∙ xor_self c.code.result))

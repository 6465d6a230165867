use Rattle.std.proofs.Common.{◌-◌, ◌∷◌, [], ◌∙◌, Some, sym, length, take, drop}
use Rattle.std.proofs.lemmas.Bool.{true≢false}
use Rattle.std.proofs.lemmas.Bool.Decides.{Decides-eqb}
use Rattle.std.proofs.lemmas.List.{take_rest}
use Rattle.std.proofs.lemmas.Slice.Eq.{strip_suffix_is}
use Rattle.listing_core.specs.Columns.{key_text}
use Rattle.listing_core.proofs.Spellings.{starred}
use Rattle.listing_core.proofs.conditions.condition_of.Goals as goal

pub returns-in-Some-clause-spelled : goal.returns-in-Some-clause-spelled
returns-in-Some-clause-spelled c =
    let bytes = c.as_bytes-bytes.result.now in
    let front = c.in-Some.front in
    let value = take (length bytes - 3) (drop 3 bytes) in
    let ends = strip_suffix_is Decides-eqb value (42 ∷ []) (Some front) c.in-Some.ensures.cases in
    record {
      spelled = sym c.as_bytes-bytes.ensures.value
          ∙ starred bytes (key_text c.in_ok-key.key) value front.now c.if-bytes-lt3.false c.if-bytes-ne61.false c.in_ok-key.ensures.some (take_rest bytes 3) ends;
      whole = λ e before w. absurd (true≢false e);
    }

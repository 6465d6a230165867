use Rattle.std.proofs.Common.{ap, ◌∙◌}
use Rattle.shape_dict.specs.Parts.{joined}
use Rattle.tally_parts.proofs.Stored.{stored}
use Rattle.tally_parts.proofs.counting.spill.Goals as goal

pub returns-in-Ok-keep : goal.returns-in-Ok-keep
returns-in-Ok-keep g c =
    let keep = c.in-Ok-keep.ensures in
    record {
      kept = record {
        one_more = keep.number;
        others = keep.others;
        last = stored (g.S.Sources.bytes c.keep.new.self (g.S.Sources.number c.args.spills.now)) (joined c.as_slice.result.now) c.args.dictionary.now keep.last
            (ap joined c.as_slice.ensures.value ∙ c.in-Ok.ensures.ok);
      };
      wanted = record {};
    }

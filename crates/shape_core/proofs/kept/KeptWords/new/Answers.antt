use Rattle.std.proofs.Common.{◌<◌, ◌^◌, length, ap, ◌∙◌}
use Rattle.std.proofs.lemmas.Nat.{pow_pos}
use Rattle.std.proofs.lemmas.List.{length-replicate}
use Rattle.std.proofs.lemmas.List.Elements.{All-replicate}
use Rattle.shape_core.proofs.kept.KeptWords.new.Goals as goal
use Rattle.shape_core.proofs.kept.KeptWords.new.Goals.{in-Squares, in-Both+in_ok-diamonds-in-Both}

pub returns-clause-room : goal.returns-clause-room
returns-clause-room c =
    let size = c.size-size.ensures.value in
    record {
      extent = rw size c.size-size.ensures.board.extent;
      squares_count = rw size c.in_ok-squares.ensures.words.count;
      diamonds_count = λ both. elim c.match-kinds.branch [
        | in-Squares w ↦ let squares = w.in-Squares.is in cc
        | in-Both+in_ok-diamonds-in-Both w ↦ rw size (ap (λ v. length v.items) w.diamonds-is ∙ w.in_ok-diamonds-in-Both.ensures.words.count)
      ];
      squares_kind = c.in_ok-squares.ensures.kinds;
      diamonds_kind = λ both. elim c.match-kinds.branch [
        | in-Squares w ↦ let squares = w.in-Squares.is in cc
        | in-Both+in_ok-diamonds-in-Both w ↦ rw (ap (λ v. v.items) w.diamonds-is) w.in_ok-diamonds-in-Both.ensures.kinds
      ];
      marks =
          let items = c.in_ok-changed.ensures.items_if_clones_equal (λ y e. e) in
          let rows = c.from.ensures ∙ c.rows.ensures.value in
          record {
            rows = ap length items ∙ length-replicate c.from.result 0 ∙ rows;
            within = rw items (All-replicate (λ row. row < 2 ^ c.size-size.result.columns) c.from.result 0 (pow_pos c.size-size.result.columns));
          };
    }

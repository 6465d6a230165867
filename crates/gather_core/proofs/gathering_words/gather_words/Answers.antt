use Rattle.std.proofs.Common.{ap, sym, subst, ◌∙◌}
use Rattle.shape_dict.specs.Contents.{Contents}
use Rattle.shape_dict.specs.Pieces.{entries_in}
use Rattle.range_core.specs.Totals.{total_of, all_of, everything}
use Rattle.range_core.specs.Words.{range_of_word}
use Rattle.range_core.proofs.SmallSums.{small_same}
use Rattle.gather_core.specs.Numbering.{IsNumbered}
use Rattle.gather_core.proofs.Common.{IsGathered, all_rows}
use Rattle.gather_core.proofs.Few.{counts_small}
use Rattle.gather_core.proofs.Gathered.{words_gathered}
use Rattle.gather_core.proofs.OfRows.{small_entries}
use Rattle.gather_core.proofs.Taken.{numbered_later}
use Rattle.gather_core.proofs.gathering_words.gather_words.Goals.{After-has_diamonds}
use Rattle.gather_core.proofs.gathering_words.gather_words.Goals as goal

pub take_ranges-requires-clause-small : goal.take_ranges-requires-clause-small
take_ranges-requires-clause-small g c κs within =
    small_entries (all_rows c.args.shares.items) (all_of c.in_ok-ranges.ranges.items) c.in_ok-ranges.ensures (counts_small c.args.shares.items c.requires.shares c.requires.few)

pub pieces_in_order-requires-clause-dealt : goal.pieces_in_order-requires-clause-dealt
pieces_in_order-requires-clause-dealt g c κs within =
    let cuts = c.in_ok-cuts.cuts in
    (cuts, c.in_ok-words.ensures.dealt (range_of_word cuts) c.in_ok-theirs.ensures.taken.dealt)

pub pieces_in_order-requires-clause-small : goal.pieces_in_order-requires-clause-small
pieces_in_order-requires-clause-small g c κs within =
    let taken = c.in_ok-theirs.ensures.taken in
    let words = c.in_ok-words.ensures.totals (range_of_word c.in_ok-cuts.cuts) taken.dealt in
    let ranges = all_of c.in_ok-ranges.ranges.items in
    small_same ranges (all_of c.in_ok-words.words.items) (λ shape. words shape ∙ taken.totals shape)
    (small_entries (all_rows c.args.shares.items) ranges c.in_ok-ranges.ensures (counts_small c.args.shares.items c.requires.shares c.requires.few))

-- what the shares have, added up
gathered : (g : _) (c : After-has_diamonds g) → IsGathered c.args.kinds c.args.games c.args.shares.items (record {
  games = c.args.games;
  moves = c.moves_of-moves.result;
  entries = entries_in c.in_ok-pieces.pieces.items;
  counts_diamonds = c.has_diamonds.result;
})
gathered g c =
    let of = c.in_ok-ranges.ensures in
    let taken = c.in_ok-theirs.ensures.taken in
    let words = c.in_ok-words.ensures.totals (range_of_word c.in_ok-cuts.cuts) taken.dealt in
    let pieces = c.in_ok-pieces.ensures in
    let moves = rw c.as_slice.ensures.value at c.moves_of-moves.ensures in
    words_gathered c.kinds_stay.ensures.canonical c.kinds_stay.ensures.around c.args.kinds c.args.games c.args.shares.items (entries_in c.in_ok-pieces.pieces.items)
    record {
      met = of.met;
      rows_are = of.rows_are;
      totals = λ shape. pieces.totals shape ∙ words shape ∙ taken.totals shape ∙ of.totals shape;
    }
    pieces.rises pieces.counted c.moves_of-moves.result c.has_diamonds.result c.requires.shares c.requires.kinds c.requires.games c.requires.covers moves c.has_diamonds.ensures

pub new-dictionary-requires : goal.new-dictionary-requires
new-dictionary-requires g c = (gathered g c).dictionary

pub returns-clause-gathered : goal.returns-clause-gathered
returns-clause-gathered g c =
    subst (IsGathered c.args.kinds c.args.games c.args.shares.items) (sym c.new-dictionary.ensures)
    (gathered g (goal.at.returns-clause-gathered g c).After-has_diamonds)

pub returns-clause-numbered : goal.returns-clause-numbered
returns-clause-numbered g c all shape =
    let taken = c.in_ok-theirs.ensures.taken in
    let words = c.in_ok-words.ensures.totals (range_of_word c.in_ok-cuts.cuts) taken.dealt in
    let lists = c.in_ok-theirs.field-0.lists.items in
    subst (IsNumbered c.args.table.now.slots c.absorb.new.pass.seen shape)
    (sym (ap (λ (d : Contents). total_of shape d.entries) c.new-dictionary.ensures ∙ c.in_ok-pieces.ensures.totals shape ∙ words shape))
    (numbered_later shape (total_of shape (everything lists)) c.absorb.ensures.met.keeps_other (taken.numbered all shape))

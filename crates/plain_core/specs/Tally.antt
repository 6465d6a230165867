-- What a tally holds: how many occasions one game has, and how often each of its patterns was there and was played.
use Rattle.std.specs.Prelude.{◌≡◌, ℕ, nat_lt, List, length, map, All, Option, Some, None, if◌then◌else◌}
use Rattle.std.specs.List.Sorted.{IsStrictlyIncreasing}
use Rattle.shape_core.specs.declared.words.Kind.{Kind}
use Rattle.shape_core.specs.declared.words.Kinds.{Kinds}
use Rattle.shape_dict.specs.declared.entries.Entry.{Entry}
use Rattle.shape_dict.specs.Contents.{entry_of}
use Rattle.go_record.specs.Actions.{Actions}
use Rattle.tally_core.specs.Occasions.{Occasion, AreOccasions}
use Rattle.tally_core.specs.Counts.{Replayed, kinds_of, there_in, played_in}
use Rattle.range_core.specs.Entries.{IsShape}

pub record Tallied : Type 0 where
  pub moves : ℕ
  pub entries : List Entry

-- what one game counts of a pattern; a tally knows no numbers of games
abbrev pub tallied_entry : List Kind → Replayed → ℕ → Option Entry
tallied_entry kinds game shape =
    if nat_lt 0 (there_in kinds game shape)
    then Some (record { shape = shape; there = there_in kinds game shape; played = played_in kinds game shape; first = None })
    else None

-- the tally of a game
pub record IsTally (kinds : Kinds) (game : Actions) (tally : Tallied) : Type 0 where
  pub occasions : List Occasion
  pub replayed : AreOccasions game occasions
  pub moves_counted : tally.moves ≡ length occasions
  pub rises : IsStrictlyIncreasing (map (λ entry. entry.shape) tally.entries)
  pub shapes : All IsShape tally.entries
  pub entries : (shape : ℕ) → entry_of shape tally.entries ≡ tallied_entry (kinds_of kinds) (record { size = game.size; occasions = occasions }) shape

-- it is the tally of some game, in which some kinds of pattern were counted
pub record IsSomeTally (tally : Tallied) : Type 0 where
  pub kinds : Kinds
  pub game : Actions
  pub tallied : IsTally kinds game tally

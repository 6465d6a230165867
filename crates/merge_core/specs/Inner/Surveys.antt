-- Dictionaries that were judged range by range.
use Rattle.std.specs.Prelude.{◌≡◌, ℕ, ◌+◌, ◌^◌, ◌<◌, ◌≤◌, List, length, take, true, Option, Some, slice_get, sum_by, unwrap_or}
use Rattle.std.specs.List.{AllByRecursion}
use Rattle.shape_dict.specs.declared.entries.Entry.{Entry}
use Rattle.shape_dict.specs.declared.headers.Header.{Header}
use Rattle.shape_dict.specs.Text.{header_text}
use Rattle.shape_dict.specs.Reading.{IsHeader, counts_of}
use Rattle.merge_core.specs.declared.cuts.Cut.{Cut}
use Rattle.merge_core.specs.declared.cuts.Plan.{Plan}
use Rattle.merge_core.specs.declared.judged.Totals.{Totals}
use Rattle.merge_core.specs.declared.tallies.Tally.{Tally}
use Rattle.merge_core.specs.Merge.{AreInputs}
use Rattle.merge_core.specs.Inner.Judging.{HasJoined}
use Rattle.merge_core.specs.Inner.Ranges.{AreParts, all_of}

-- the text begins with this header, and its lines begin at this place
pub record IsFront (text : List ℕ) (header : Header) (place : ℕ) : Type 0 where
  pub is_header : IsHeader header
  pub same : take place text ≡ header_text header

-- the lines are as many, and were played as often, as the header says
pub record Fits (header : Header) (tally : Tally) : Type 0 where
  pub no_games : header.games ≡ 0 → header.moves ≡ 0
  pub squares : tally.squares ≡ header.squares
  pub squares_played : tally.squares_played ≡ header.moves
  pub diamonds : tally.diamonds ≡ unwrap_or header.diamonds 0
  pub diamonds_played : counts_of header ≡ true → tally.diamonds_played ≡ header.moves

-- between the two cuts is all that the dictionary of this number has after its header, and that has this tally
pub record IsWhole (bytes : ℕ → Option (List ℕ)) (headers : List Header) (low high : Cut) (n : ℕ) (tally : Tally) : Type 0 where
  pub header : Header
  pub from : ℕ
  pub to : ℕ
  pub is_header : slice_get headers n ≡ Some header
  pub is_from : slice_get low.places.items n ≡ Some from
  pub is_to : slice_get high.places.items n ≡ Some to
  pub fits : Fits header tally
  pub front : (text : List ℕ) → bytes n ≡ Some text → IsFront text header from
  pub end : (text : List ℕ) → bytes n ≡ Some text → length text ≤ to

-- the totals are those of these headers, of which there is one at least
pub record IsTotalsOf (headers : List Header) (totals : Totals) : Type 0 where
  pub some : 0 < length headers
  pub games : totals.games ≡ sum_by (λ header. header.games) headers
  pub moves : totals.moves ≡ sum_by (λ header. header.moves) headers
  pub kinds : AllByRecursion (λ header. counts_of header ≡ totals.counts_diamonds) headers
  pub few_games : totals.games < 2 ^ 64
  pub few_moves : totals.moves < 2 ^ 64

-- range by range the plan has the join of all dictionaries, whose texts are good
pub record IsSurveyed (bytes : ℕ → Option (List ℕ)) (plan : Plan) (totals : Totals) (counts : Tally) : Type 0 where
  pub parts : List (List Entry)
  pub number : length parts + 1 ≡ length plan.cuts.items
  pub are_parts : AreParts bytes plan 0 parts
  pub joined : (inputs : List (List ℕ)) → AreInputs bytes 0 inputs → length inputs ≡ length plan.headers.items →
      (h : HasJoined bytes plan.least totals counts inputs) × (h.entries ≡ all_of parts)

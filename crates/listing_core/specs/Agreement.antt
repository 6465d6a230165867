-- What the lines of a listing say together, against what `count` reports.
use Rattle.std.specs.Prelude.{◌≡◌, ℕ, Bool, true, false, List, count_by}
use Rattle.game_core.specs.declared.reports.Report.{Report}
use Rattle.listing_core.specs.declared.lines.Line.{Line}
use Rattle.listing_core.specs.declared.lines.What.{What}
use Rattle.listing_core.specs.declared.lines.What.TheVariants as what

abbrev pub is_game : What → Bool
is_game (what.Game size moves occasions) = true
is_game what.Other = false
is_game (what.Refused found) = false

abbrev pub is_other : What → Bool
is_other (what.Game size moves occasions) = false
is_other what.Other = true
is_other (what.Refused found) = false

abbrev pub is_refused : What → Bool
is_refused (what.Game size moves occasions) = false
is_refused what.Other = false
is_refused (what.Refused found) = true

-- how many occasions a line says
abbrev pub occasions_in : What → ℕ
occasions_in (what.Game size moves occasions) = occasions
occasions_in what.Other = 0
occasions_in (what.Refused found) = 0

-- these lines are of as many trees of each sort as the report has
pub record Agrees (lines : List Line) (report : Report) : Type 0 where
  pub games : count_by (λ line. is_game line.what) lines ≡ report.games
  pub others : count_by (λ line. is_other line.what) lines ≡ report.others
  pub refused : count_by (λ line. is_refused line.what) lines ≡ report.refused

-- What samples are: a pattern's bits, the first game that is written in some bytes, and a share that has counted one game.
use Rattle.std.specs.Prelude.{◌≡◌, ◌<◌, ◌^◌, ℕ, List, []}
use Rattle.go_record.specs.Actions.{Actions}
use Rattle.game_core.specs.Games.{IsGameOf}
use Rattle.shape_core.specs.Symmetry.{least_image}
use Rattle.shape_core.specs.declared.words.Kinds.TheVariants as kinds
use Rattle.slot_table.specs.declared.entries.Happened.{Happened}
use Rattle.harvest_faults.specs.declared.faults.HarvestFault.{HarvestFault}
use Rattle.gather_core.specs.Shares.{Held}
use Rattle.gather_core.specs.Adding.{IsAdded}
use Rattle.table_shares.specs.Adding.{IsAddFault}

-- a word has these bits, and it is the least of its images
abbrev pub IsPattern : ℕ → Type 0
IsPattern bits = (bits < 2 ^ 51) × (least_image bits ≡ bits)

-- the first game of these bytes has this record
abbrev pub IsFirstGame : List ℕ → Actions → Type 0
IsFirstGame bytes actions = (at : ℕ) × (end : ℕ) × IsGameOf bytes 0 at end actions

-- a share of worker 0, for squares, that has counted nothing
abbrev pub no_games : Held
no_games = record { worker = 0; kinds = kinds.Squares; games = []; moves = 0; rows = [] }

-- a share of worker 0 has counted the squares of this game, and nothing else
abbrev pub HasOneGame : ℕ → Actions → Held → Type 0
HasOneGame game actions held = IsAdded game actions no_games held

-- the game was refused as the first of a share over a table of n slots with this history
abbrev pub IsRefused : ℕ → List Happened → ℕ → Actions → HarvestFault → Type 0
IsRefused n seen game actions found = (held : Held) × IsAddFault n seen game actions no_games held found

-- What dictionaries have between two words, and the join of that.
use Rattle.std.specs.Prelude.{◌≡◌, ℕ, ◌+◌, ◌-◌, ◌≤◌, List, [], ◌∷◌, ◌++◌, length, take, drop, Option, None, Some, slice_get}
use Rattle.std.specs.List.{flat_map, AllByRecursion}
use Rattle.shape_dict.specs.declared.entries.Entry.{Entry}
use Rattle.shape_dict.specs.declared.headers.Header.{Header}
use Rattle.shape_dict.specs.Contents.{entry_of, played_in, squares_of, diamonds_of}
use Rattle.shape_dict.specs.Text.{line_text}
use Rattle.shape_dict.specs.Join.{joined_entry}
use Rattle.stream_core.specs.Rows.{AreRows, Rises}
use Rattle.merge_core.specs.Entries.{IsSmallUse}
use Rattle.merge_core.specs.Least.{kept}
use Rattle.merge_core.specs.declared.cuts.Cut.{Cut}
use Rattle.merge_core.specs.declared.cuts.Plan.{Plan}
use Rattle.merge_core.specs.declared.tallies.Tally.{Tally}
use Rattle.merge_core.specs.declared.measuring.Ranged.{Ranged}

-- these are the bytes of a text from one place up to another
pub record IsWithin (text : List ℕ) (from to : ℕ) (bytes : List ℕ) : Type 0 where
  pub order : from ≤ to
  pub same : bytes ≡ take (to - from) (drop from text)

-- what a dictionary with this header has in a range of words
pub record Piece : Type 0 where
  pub header : Header
  pub entries : List Entry

-- it holds of each of these, which are numbered from this number on
abbrev pub Each : (ℕ → Piece → Type 0) → ℕ → List Piece → Type 0
Each P from [] = Unit {0}
Each P from (p ∷ ps) = P from p × Each P (from + 1) ps

-- what the dictionaries together have of a pattern
abbrev pub found : ℕ → List Piece → Option Entry
found shape [] = None
found shape (p ∷ ps) = joined_entry p.header.games (entry_of shape p.entries) (found shape ps)

abbrev pub games_in : List Piece → ℕ
games_in [] = 0
games_in (p ∷ ps) = p.header.games + games_in ps

-- each dictionary's entries in one range, and then those in the next
abbrev pub beside : List Piece → List Piece → List Piece
beside [] qs = []
beside (p ∷ ps) [] = []
beside (p ∷ ps) (q ∷ qs) = record { header = p.header; entries = p.entries ++ q.entries } ∷ beside ps qs

-- these are the join of what the dictionaries have from one word on, up to another
pub record AreJoined (ps : List Piece) (low high : ℕ) (entries : List Entry) : Type 0 where
  pub rises : Rises low high entries
  pub same : (shape : ℕ) → entry_of shape entries ≡ found shape ps

-- these are the lines of the dictionary of this number between two cuts
pub record IsPiece (bytes : ℕ → Option (List ℕ)) (headers : List Header) (low high : Cut) (n : ℕ) (p : Piece) : Type 0 where
  pub header : slice_get headers n ≡ Some p.header
  pub from : ℕ
  pub to : ℕ
  pub is_from : slice_get low.places.items n ≡ Some from
  pub is_to : slice_get high.places.items n ≡ Some to
  pub rows : AreRows p.header low.word high.word p.entries
  pub same : (text : List ℕ) → bytes n ≡ Some text → IsWithin text from to (flat_map (line_text p.header.text) p.entries)

-- how many squares and diamonds there are among entries, and how often they were played
pub record IsTally (entries : List Entry) (tally : Tally) : Type 0 where
  pub squares : tally.squares ≡ length (squares_of entries)
  pub diamonds : tally.diamonds ≡ length (diamonds_of entries)
  pub squares_played : tally.squares_played ≡ played_in (squares_of entries)
  pub diamonds_played : tally.diamonds_played ≡ played_in (diamonds_of entries)
  pub small : AllByRecursion IsSmallUse entries

-- the tally of those entries that stay, and the counts of all are small
pub record IsCountOf (least : Option ℕ) (entries : List Entry) (tally : Tally) : Type 0 where
  pub tallied : IsTally (kept least entries) tally
  pub small : AllByRecursion IsSmallUse entries

-- of each dictionary by itself
abbrev pub AreTallies : List Piece → List Tally → Type 0
AreTallies [] [] = Unit {0}
AreTallies (p ∷ ps) (t ∷ ts) = IsTally p.entries t × AreTallies ps ts
AreTallies ps ts = ⊥

-- all dictionaries between two cuts, and their join
pub record HasRange (bytes : ℕ → Option (List ℕ)) (headers : List Header) (low high : Cut) : Type 0 where
  pub pieces : List Piece
  pub joined : List Entry
  pub number : length pieces ≡ length headers
  pub are : Each (IsPiece bytes headers low high) 0 pieces
  pub sum : AreJoined pieces low.word high.word joined

-- the cut of this number
abbrev pub IsCut : List Cut → ℕ → Cut → Type 0
IsCut cuts n cut = slice_get cuts n ≡ Some cut

-- the join of what is between the cut of this number and the next one
pub record HasRangeAt (bytes : ℕ → Option (List ℕ)) (plan : Plan) (n : ℕ) (joined : List Entry) : Type 0 where
  pub low : Cut
  pub high : Cut
  pub is_low : IsCut plan.cuts.items n low
  pub is_high : IsCut plan.cuts.items (n + 1) high
  pub has : HasRange bytes plan.headers.items low high
  pub same : has.joined ≡ joined

-- the joins of the ranges from a number on
abbrev pub AreParts : (ℕ → Option (List ℕ)) → Plan → ℕ → List (List Entry) → Type 0
AreParts bytes plan n [] = Unit {0}
AreParts bytes plan n (part ∷ parts) = HasRangeAt bytes plan n part × AreParts bytes plan (n + 1) parts

-- one after another
abbrev pub all_of : List (List Entry) → List Entry
all_of [] = []
all_of (part ∷ parts) = part ++ all_of parts

-- what is in the ranges from the cut of one number on up to that of another, range by range, and how much that is
pub record IsRanged (bytes : ℕ → Option (List ℕ)) (plan : Plan) (from to : ℕ) (ranged : Ranged) : Type 0 where
  pub low : Cut
  pub high : Cut
  pub is_low : IsCut plan.cuts.items from low
  pub is_high : IsCut plan.cuts.items to high
  pub has : HasRange bytes plan.headers.items low high
  pub joined : IsCountOf plan.least has.joined ranged.joined
  pub each : AreTallies has.pieces ranged.each.items
  pub parts : List (List Entry)
  pub number : from + length parts ≡ to
  pub are_parts : AreParts bytes plan from parts
  pub all : has.joined ≡ all_of parts

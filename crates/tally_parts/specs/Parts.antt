-- The dictionary of the games of all texts that can be read, in their order, and what is written of it.
use Rattle.std.specs.Prelude.{◌≡◌, ℕ, ◌<◌, ◌≤◌, ◌⊎◌, List, [], ◌∷◌, length, take, Option}
use Rattle.std.specs.Io.KnownBytes.{Appends, Keeps}
use Rattle.sgf_core.specs.Limit.{most_bytes}
use Rattle.sgf_core.specs.declared.faults.SgfFault.{SgfFault}
use Rattle.go_record.specs.Actions.{Actions}
use Rattle.game_core.specs.Games.{HasReadAll}
use Rattle.game_core.specs.Faults.{HasFault}
use Rattle.game_core.specs.declared.reports.Report.{Report}
use Rattle.batch_core.specs.Batch.{AreGamesOf}
use Rattle.shape_core.specs.declared.words.Kinds.{Kinds}
use Rattle.shape_core.specs.declared.words.Kinds.TheVariants as kinds
use Rattle.shape_dict.specs.Contents.{Contents}
use Rattle.shape_dict.specs.Text.{text_of}
use Rattle.shape_dict.specs.declared.entries.Text.{Text}
use Rattle.shape_dict.specs.declared.entries.Text.TheVariants as text
use Rattle.tally_core.specs.Collection.{AreReplayed}
use Rattle.tally_core.specs.Counts.{Replayed}
use Rattle.tally_core.specs.Games.{IsDictionaryOf}

-- the kinds that a text has
abbrev pub kinds_for : Text → Kinds
kinds_for text.One = kinds.Squares
kinds_for text.Two = kinds.Both
kinds_for text.Three = kinds.Both

-- a text that can be read to its end; with a byte more it is no larger than an input may be
abbrev pub IsGood : List ℕ → Type 0
IsGood text = (length text < most_bytes) × ((report : Report) × HasReadAll text report)

-- a text that is left out: it is too large, or has this fault of syntax
abbrev pub IsLeftOut : List ℕ → Type 0
IsLeftOut text = (most_bytes ≤ length text) ⊎ ((found : SgfFault) × HasFault text found)

-- these texts are good, and the others are left out
abbrev pub AreGood : List (List ℕ) → List (List ℕ) → Type 0
AreGood [] good = good ≡ []
AreGood (text ∷ texts) good =
    (IsGood text × ((others : List (List ℕ)) × (good ≡ text ∷ others) × AreGood texts others)) ⊎ (IsLeftOut text × AreGood texts good)

-- the dictionary of the games of these texts, in their order
pub record IsDictionaryOfTexts (kinds : Kinds) (texts : List (List ℕ)) (contents : Contents) : Type 0 where
  pub games : List Actions
  pub replayed : List Replayed
  pub games_of : AreGamesOf texts games
  pub replays : AreReplayed games replayed
  pub dictionary : IsDictionaryOf kinds replayed contents

-- a text of the dictionary of the games of those texts among all that can be read, in their order
pub record IsTallyText (kind : Text) (all : List (List ℕ)) (written : List ℕ) : Type 0 where
  pub good : List (List ℕ)
  pub are_good : AreGood all good
  pub contents : Contents
  pub dictionary : IsDictionaryOfTexts (kinds_for kind) good contents
  pub printed : written ≡ text_of kind contents

-- nothing is out, or a front of that text
abbrev pub IsFrontOut : Text → List (List ℕ) → Option (List ℕ) → Option (List ℕ) → Type 0
IsFrontOut kind all before after =
    Keeps before after ⊎ ((written : List ℕ) × (n : ℕ) × IsTallyText kind all written × Appends before after (take n written))

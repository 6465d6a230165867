-- The page of chosen patterns.
use Rattle.std.specs.Prelude.{ℕ, List, [], ◌∷◌, ◌++◌, length, Option, Some, None, codes}
use Rattle.std.specs.Fmt.{decimal}
use Rattle.shape_core.specs.declared.words.Kind.{Kind}
use Rattle.shape_core.specs.declared.words.Kind.TheVariants as kind
use Rattle.shape_dict.specs.Contents.{Contents}
use Rattle.shape_dict.specs.Text.{word_text}
use Rattle.shape_dict.specs.declared.entries.Entry.{Entry}
use Rattle.sheet_core.specs.declared.asked.Asked.{Asked}
use Rattle.sheet_core.specs.declared.head.TheConstants.{HEAD}
use Rattle.sheet_core.specs.declared.orders.Order.{Order}
use Rattle.sheet_core.specs.declared.orders.Order.TheVariants as order
use Rattle.sheet_core.specs.Pieces.{hundredths_of, whole_percent_text, ranked}
use Rattle.sheet_core.specs.Drawing.{drawing_text}
use Rattle.sheet_core.specs.Empty.{empty_text}
use Rattle.sheet_core.specs.Places.{lines_after, places_of, places_text}

-- how many times of a hundred it was played, and how often it was there
unfoldable pub share_text : Entry → List ℕ
share_text entry =
    codes "<b>" ++ whole_percent_text (hundredths_of entry) ++ codes " of " ++ decimal entry.there ++ codes "</b>"

-- the same, and how often it was played
unfoldable pub uses_text : Entry → List ℕ
uses_text entry = share_text entry ++ codes "<br>played " ++ decimal entry.played

-- a pattern's rank and word
unfoldable pub name_text : ℕ → Entry → List ℕ
name_text rank entry = codes ", rank " ++ decimal rank ++ codes "<br><code>" ++ word_text entry.shape ++ codes "</code>"

-- the first game that had it, where that is known
unfoldable pub game_text : Option ℕ → List ℕ
game_text None = []
game_text (Some game) = codes "<br>first in game " ++ decimal game

-- what is below a drawing
unfoldable pub caption_text : ℕ → Entry → List ℕ
caption_text rank entry =
    codes "<figcaption>" ++ uses_text entry ++ name_text rank entry ++ game_text entry.first ++ codes "</figcaption>"

-- a pattern with its rank, and its places in these lines
unfoldable pub figure_text : List (List ℕ) → ℕ → Entry → List ℕ
figure_text lines rank entry =
    codes "<figure>" ++ drawing_text entry.shape ++ caption_text rank entry ++ places_text (places_of lines entry.shape)
    ++ codes "</figure>\n"

abbrev pub kind_name : Kind → List ℕ
kind_name kind.Square = codes "Squares"
kind_name kind.Diamond = codes "Diamonds"

abbrev pub order_name : Order → List ℕ
order_name order.Played = codes "the most often played"
order_name order.Urgency = codes "the most urgent"
order_name order.There = codes "the most often there"
order_name order.Bound = codes "the most surely urgent"

-- the dictionary's games and moves
unfoldable pub counted_text : Contents → List ℕ
counted_text contents = codes "<p>Games: " ++ decimal contents.games ++ codes ", moves: " ++ decimal contents.moves ++ codes ". "

-- how many patterns are shown
unfoldable pub number_text : Kind → ℕ → List ℕ
number_text kind count = kind_name kind ++ codes " shown: " ++ decimal count

-- what comes first, and which patterns are left out
unfoldable pub terms_text : Order → ℕ → List ℕ
terms_text order least =
    codes ", " ++ order_name order ++ codes " first, each there at least this often: " ++ decimal least
    ++ codes ".</p>\n"

-- how a figure is read, and where the figures begin
unfoldable pub legend_text : List ℕ
legend_text =
    codes "<p>1 is the move, and Black is to play it: with colours exchanged it is the same pattern. A thick line is the edge of the board; what is beyond a picture is no part of the pattern. <b>48 % of 100</b>: the pattern was there 100 times for the player to move, who played on its point 48 times.</p>\n<main>\n"

-- what is above the figures
unfoldable pub heading_text : Asked → Contents → ℕ → List ℕ
heading_text asked contents count =
    counted_text contents ++ number_text asked.kind count ++ terms_text asked.order asked.least ++ legend_text

unfoldable pub end_text : List ℕ
end_text = codes "</main>\n</body>\n</html>\n"

-- the head of the page, with its style sheet
unfoldable pub head_text : List ℕ
head_text = HEAD.now

-- the figures of the chosen patterns, the first with rank 1, or why there is none
unfoldable pub body_text : Asked → List (List ℕ) → Contents → List Entry → List ℕ
body_text asked lines contents [] = codes "<p>" ++ empty_text asked contents.entries ++ codes "</p>\n"
body_text asked lines contents (entry ∷ entries) = ranked (figure_text lines) 1 (entry ∷ entries)

-- the page: its head with the style sheet, a heading, and the figures, with places in the lines of these hits
unfoldable pub page_text : Asked → List ℕ → Contents → List Entry → List ℕ
page_text asked hits contents chosen =
    head_text ++ heading_text asked contents (length chosen) ++ body_text asked (lines_after [] hits) contents chosen ++ end_text

-- The three texts of a dictionary (this project's own). Text 1 is that of its squares, text 2 has its diamonds too, and
-- text 3 the first game of each pattern besides. Each line ends with one line feed; parts are one space apart.
use Rattle.std.specs.Prelude.{◌≡◌, ℕ, zero, suc, ◌+◌, ◌/◌, ◌%◌, ◌^◌, ◌<◌, Bool, true, false, nat_lt, List, [], ◌∷◌, ◌++◌, length, All, Option, Some, None, IfSome, codes, if◌then◌else◌}
use Rattle.std.specs.List.{flat_map}
use Rattle.std.specs.Fmt.{decimal}
use Rattle.shape_dict.specs.declared.entries.Entry.{Entry}
use Rattle.shape_dict.specs.declared.entries.Text.{Text}
use Rattle.shape_dict.specs.declared.headers.Header.{Header}
use Rattle.shape_dict.specs.declared.entries.Text.TheVariants as text
use Rattle.shape_dict.specs.Contents.{Contents, squares_of, diamonds_of}

abbrev pub line_feed : List ℕ
line_feed = 10 ∷ []

abbrev pub hexadecimal_digit : ℕ → ℕ
hexadecimal_digit digit = if nat_lt digit 10 then 48 + digit else 87 + digit

-- the last n hexadecimal digits of a number, in lower case
abbrev pub hexadecimal : ℕ → ℕ → List ℕ
hexadecimal zero number = []
hexadecimal (suc digits) number = hexadecimal digits (number / 16) ++ hexadecimal_digit (number % 16) ∷ []

-- a number, or `-` where there is none
abbrev pub optional_number : Option ℕ → List ℕ
optional_number None = codes "-"
optional_number (Some number) = decimal number

abbrev pub front_text : Text → List ℕ
front_text text.One = codes "shapes 1 games "
front_text text.Two = codes "shapes 2 games "
front_text text.Three = codes "shapes 3 games "

-- how many patterns follow
abbrev pub counts_text : Text → ℕ → Option ℕ → List ℕ
counts_text text.One squares diamonds = codes " patterns " ++ decimal squares
counts_text text.Two squares diamonds = codes " squares " ++ decimal squares ++ codes " diamonds " ++ optional_number diamonds
counts_text text.Three squares diamonds = codes " squares " ++ decimal squares ++ codes " diamonds " ++ optional_number diamonds

-- the games and moves after the text's number
abbrev pub games_text : Text → ℕ → ℕ → List ℕ
games_text text games moves = front_text text ++ decimal games ++ codes " moves " ++ decimal moves

abbrev pub header_text : Header → List ℕ
header_text header =
    games_text header.text header.games header.moves ++ counts_text header.text header.squares header.diamonds ++ line_feed

abbrev pub first_text : Text → Option ℕ → List ℕ
first_text text.One first = []
first_text text.Two first = []
first_text text.Three first = codes " " ++ optional_number first

-- a word in 13 digits
unfoldable pub word_text : ℕ → List ℕ
word_text word = hexadecimal 13 word

-- how often a pattern was there, and how often it was played
abbrev pub uses_text : Entry → List ℕ
uses_text entry = codes " " ++ decimal entry.there ++ codes " " ++ decimal entry.played

-- a pattern's line: its word, its uses, and in text 3 its first game
abbrev pub line_text : Text → Entry → List ℕ
line_text text entry = word_text entry.shape ++ uses_text entry ++ first_text text entry.first ++ line_feed

abbrev pub diamonds_counted : Bool → List Entry → Option ℕ
diamonds_counted false entries = None
diamonds_counted true entries = Some (length (diamonds_of entries))

abbrev pub header_of : Text → Contents → Header
header_of text contents = record {
  text = text;
  games = contents.games;
  moves = contents.moves;
  squares = length (squares_of contents.entries);
  diamonds = diamonds_counted contents.counts_diamonds contents.entries;
}

-- the entries that a text has
abbrev pub entries_of : Text → Contents → List Entry
entries_of text.One contents = squares_of contents.entries
entries_of text.Two contents = contents.entries
entries_of text.Three contents = contents.entries

-- the text of a dictionary
abbrev pub text_of : Text → Contents → List ℕ
text_of text contents = header_text (header_of text contents) ++ flat_map (line_text text) (entries_of text contents)

-- the text leaves nothing of the dictionary out
abbrev pub IsWhole : Text → Contents → Type 0
IsWhole text.One contents = (contents.counts_diamonds ≡ false) × All (λ entry. entry.first ≡ None) contents.entries
IsWhole text.Two contents = All (λ entry. entry.first ≡ None) contents.entries
IsWhole text.Three contents = Unit {0}

-- the numbers of a dictionary are below 2 ^ 64, as those of the program are
abbrev pub IsSmallEntry : Entry → Type 0
IsSmallEntry entry = (entry.there < 2 ^ 64) × (entry.played < 2 ^ 64) × IfSome entry.first (λ game. game < 2 ^ 64)

pub record IsSmall (contents : Contents) : Type 0 where
  pub games : contents.games < 2 ^ 64
  pub moves : contents.moves < 2 ^ 64
  pub squares : length (squares_of contents.entries) < 2 ^ 64
  pub diamonds : length (diamonds_of contents.entries) < 2 ^ 64
  pub each : All IsSmallEntry contents.entries

-- Which dictionary a text is, and which fault comes first in one that is none. Lines count from 1 at the header.
use Rattle.std.specs.Prelude.{◌≡◌, ◌≢◌, ℕ, ◌+◌, ◌^◌, ◌<◌, ◌≤◌, ◌⊎◌, Bool, is_some, nat_lt, List, [], ◌∷◌, ◌++◌, length, map, All, Option, None, Some, IfSome, unwrap_or, if◌then◌else◌}
use Rattle.std.specs.List.{flat_map}
use Rattle.std.specs.List.Sorted.{IsStrictlyIncreasing}
use Rattle.shape_core.specs.Symmetry.{least_image}
use Rattle.shape_core.specs.Word.{kind_of}
use Rattle.shape_core.specs.declared.words.Kind.{Kind}
use Rattle.shape_core.specs.declared.words.Kind.TheVariants as kind
use Rattle.shape_dict.specs.declared.entries.Entry.{Entry}
use Rattle.shape_dict.specs.declared.entries.Text.{Text}
use Rattle.shape_dict.specs.declared.entries.Text.TheVariants as text
use Rattle.shape_dict.specs.declared.faults.DictFault.{DictFault}
use Rattle.shape_dict.specs.declared.headers.Header.{Header}
use Rattle.shape_dict.specs.declared.faults.DictFault.TheVariants as fault
use Rattle.shape_dict.specs.Contents.{Contents, IsDictionary, HasTotals}
use Rattle.shape_dict.specs.Text.{header_text, line_text, text_of, IsWhole, IsSmall, IsSmallEntry}
use Rattle.sgf_core.specs.Limit.{most_bytes}

-- the bytes are a text of the dictionary that leaves nothing of it out
pub record IsTextOf (contents : Contents) (bytes : List ℕ) : Type 0 where
  pub text : Text
  pub dictionary : IsDictionary contents
  pub small : IsSmall contents
  pub whole : IsWhole text contents
  pub same : bytes ≡ text_of text contents

-- a header's numbers are below 2 ^ 64, and a text 1 has no diamonds
pub record IsHeader (header : Header) : Type 0 where
  pub games : header.games < 2 ^ 64
  pub moves : header.moves < 2 ^ 64
  pub squares : header.squares < 2 ^ 64
  pub diamonds : IfSome header.diamonds (λ n. n < 2 ^ 64)
  pub first_text : header.text ≡ text.One → header.diamonds ≡ None

-- how many lines follow a header
abbrev pub lines_after : Header → ℕ
lines_after header = header.squares + unwrap_or header.diamonds 0

-- the squares come first
abbrev pub kind_at : Header → ℕ → Kind
kind_at header place = if nat_lt place header.squares then kind.Square else kind.Diamond

-- what a text says of a first game
abbrev pub IsFirst : Text → ℕ → Option ℕ → Type 0
IsFirst text.One games first = first ≡ None
IsFirst text.Two games first = first ≡ None
IsFirst text.Three games first = IfSome first (λ game. game < games)

-- what the line at a place may say by itself
pub record IsLine (header : Header) (place : ℕ) (entry : Entry) : Type 0 where
  pub word : entry.shape < 2 ^ 51
  pub kind : kind_of entry.shape ≡ kind_at header place
  pub there : 1 ≤ entry.there
  pub played : entry.played ≤ entry.there
  pub small : IsSmallEntry entry
  pub first : IsFirst header.text header.games entry.first

-- each of these entries may be said by its line, from a place on
abbrev pub AreLines : Header → ℕ → List Entry → Type 0
AreLines header place [] = Unit {0}
AreLines header place (entry ∷ entries) = IsLine header place entry × AreLines header (place + 1) entries

-- the words rise, and each is the least of its images
pub record AreShapes (entries : List Entry) : Type 0 where
  pub rises : IsStrictlyIncreasing (map (λ entry. entry.shape) entries)
  pub canonical : All (λ entry. least_image entry.shape ≡ entry.shape) entries

-- the bytes begin with a header and these entries' lines, without a fault; `left` is what follows
pub record BeginsWith (bytes : List ℕ) (header : Header) (entries : List Entry) (left : List ℕ) : Type 0 where
  pub is_header : IsHeader header
  pub lines : AreLines header 0 entries
  pub shapes : AreShapes entries
  pub few : length entries ≤ lines_after header
  pub same : bytes ≡ header_text header ++ flat_map (line_text header.text) entries ++ left

-- the bytes begin with a header
pub record HasHeader (bytes : List ℕ) : Type 0 where
  pub header : Header
  pub left : List ℕ
  pub is_header : IsHeader header
  pub same : bytes ≡ header_text header ++ left

-- the bytes begin with a header and a first line, without a fault; `left` is what follows
pub record HasFirstLine (bytes : List ℕ) : Type 0 where
  pub header : Header
  pub entry : Entry
  pub left : List ℕ
  pub begins : BeginsWith bytes header (entry ∷ []) left

-- the bytes do not begin with a header
abbrev pub HasNoHeader : List ℕ → Type 0
HasNoHeader bytes = HasHeader bytes → ⊥

-- what follows does not begin with a line that this place may have
abbrev pub HasNoLine : Header → ℕ → List ℕ → Type 0
HasNoLine header place left = (entry : Entry) → (rest : List ℕ) → IsLine header place entry → left ≡ line_text header.text entry ++ rest → ⊥

-- the shape of the last entry, where there is one
abbrev pub shape_after : Option ℕ → List Entry → Option ℕ
shape_after last [] = last
shape_after last (entry ∷ entries) = shape_after (Some entry.shape) entries

abbrev pub last_shape : List Entry → Option ℕ
last_shape entries = shape_after None entries

-- a shape is above the last one, where there is one
abbrev pub IsAbove : Option ℕ → ℕ → Type 0
IsAbove None shape = Unit {0}
IsAbove (Some last) shape = last < shape

-- bytes begin with this line, which its place may have
pub record HasLine (header : Header) (place : ℕ) (left : List ℕ) (entry : Entry) : Type 0 where
  pub rest : List ℕ
  pub line : IsLine header place entry
  pub same : left ≡ line_text header.text entry ++ rest

-- the line that bytes begin with has a word that is not above the last one
pub record IsFallingLine (header : Header) (place : ℕ) (last : Option ℕ) (left : List ℕ) : Type 0 where
  pub entry : Entry
  pub has : HasLine header place left entry
  pub falls : IsAbove last entry.shape → ⊥

-- it has a word that is above the last one and not the least of its images
pub record IsOtherLine (header : Header) (place : ℕ) (last : Option ℕ) (left : List ℕ) : Type 0 where
  pub entry : Entry
  pub has : HasLine header place left entry
  pub above : IsAbove last entry.shape
  pub other : least_image entry.shape ≢ entry.shape

-- why bytes give no entry at a place, after the shapes up to the last one
abbrev pub IsLineFault : Header → ℕ → Option ℕ → List ℕ → DictFault → Type 0
IsLineFault header place last left (fault.BadLine line) = HasNoLine header place left × (line ≡ place + 2)
IsLineFault header place last left (fault.NotRising line) = IsFallingLine header place last left × (line ≡ place + 2)
IsLineFault header place last left (fault.NotCanonical line) = IsOtherLine header place last left × (line ≡ place + 2)
IsLineFault header place last left found = ⊥

-- the next line is one that its place may have, by itself
pub record NextLine (bytes : List ℕ) (header : Header) (entries : List Entry) (entry : Entry) : Type 0 where
  pub left : List ℕ
  pub rest : List ℕ
  pub begins : BeginsWith bytes header entries left
  pub more : length entries < lines_after header
  pub line : IsLine header (length entries) entry
  pub same : left ≡ line_text header.text entry ++ rest

abbrev pub counts_of : Header → Bool
counts_of header = is_some header.diamonds

-- a line is missing or is none: no line that its place may have follows
pub record IsBadLine (bytes : List ℕ) (line : ℕ) : Type 0 where
  pub header : Header
  pub entries : List Entry
  pub left : List ℕ
  pub begins : BeginsWith bytes header entries left
  pub more : length entries < lines_after header
  pub none : HasNoLine header (length entries) left
  pub at : line ≡ length entries + 2

-- a line's word is not above that of the line before
pub record IsNotRising (bytes : List ℕ) (line : ℕ) : Type 0 where
  pub header : Header
  pub before : List Entry
  pub last : Entry
  pub entry : Entry
  pub next : NextLine bytes header (before ++ last ∷ []) entry
  pub falls : entry.shape ≤ last.shape
  pub at : line ≡ length before + 3

-- a line's word rises and is not the least of its images
pub record IsNotCanonical (bytes : List ℕ) (line : ℕ) : Type 0 where
  pub header : Header
  pub entries : List Entry
  pub entry : Entry
  pub next : NextLine bytes header entries entry
  pub rises : IsStrictlyIncreasing (map (λ e. e.shape) (entries ++ entry ∷ []))
  pub other : least_image entry.shape ≢ entry.shape
  pub at : line ≡ length entries + 2

-- no line is missing
pub record HasAllLines (bytes : List ℕ) (header : Header) (entries : List Entry) (left : List ℕ) : Type 0 where
  pub begins : BeginsWith bytes header entries left
  pub all : length entries ≡ lines_after header

-- no line is missing, and the totals do not agree
pub record HasWrongTotals (bytes : List ℕ) : Type 0 where
  pub header : Header
  pub entries : List Entry
  pub left : List ℕ
  pub lines : HasAllLines bytes header entries left
  pub wrong : HasTotals header.games header.moves entries (counts_of header) → ⊥

-- the bytes begin with a text, and others follow it
pub record HasMore (bytes : List ℕ) (line : ℕ) : Type 0 where
  pub header : Header
  pub entries : List Entry
  pub left : List ℕ
  pub lines : HasAllLines bytes header entries left
  pub totals : HasTotals header.games header.moves entries (counts_of header)
  pub more : left ≢ []
  pub at : line ≡ lines_after header + 2

-- the fault is the first in bytes that are to begin with a text, however many they are; out of memory comes after a
-- header and a first line without a fault, whatever follows them
abbrev pub IsFirstFault : List ℕ → DictFault → Type 0
IsFirstFault bytes fault.BadHeader = HasNoHeader bytes
IsFirstFault bytes (fault.BadLine line) = IsBadLine bytes line
IsFirstFault bytes (fault.NotRising line) = IsNotRising bytes line
IsFirstFault bytes (fault.NotCanonical line) = IsNotCanonical bytes line
IsFirstFault bytes fault.WrongTotals = HasWrongTotals bytes
IsFirstFault bytes fault.Memory = HasFirstLine bytes
IsFirstFault bytes fault.Overflow = ⊥
IsFirstFault bytes fault.TooLarge = ⊥
IsFirstFault bytes fault.MixedKinds = ⊥

-- the same where too many bytes are a fault, which comes before all others
abbrev pub IsFrontFault : List ℕ → DictFault → Type 0
IsFrontFault bytes fault.TooLarge = most_bytes < length bytes
IsFrontFault bytes found = (length bytes ≤ most_bytes) × IsFirstFault bytes found

-- the same of bytes that are to be one text
abbrev pub IsTextFault : List ℕ → DictFault → Type 0
IsTextFault bytes (fault.BadLine line) = (length bytes ≤ most_bytes) × (IsBadLine bytes line ⊎ HasMore bytes line)
IsTextFault bytes found = IsFrontFault bytes found

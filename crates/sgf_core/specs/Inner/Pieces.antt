-- What private functions read of a tree: marks one by one, and what is wrong in place of one. Places are byte
-- offsets in the whole input, from 0.
use Rattle.std.specs.Prelude.{◌≡◌, ◌≢◌, ℕ, ◌<◌, ◌≤◌, Bool, false, IsTrue, ◌==◌, ◌||◌, List, [], ◌∷◌, ◌++◌, length, drop, slice_range, slice_index}
use Rattle.std.specs.List.{flat_map, list_all}
use Rattle.std.specs.Prelude.{Option, Some, None}
use Rattle.sgf_core.specs.Tree.{Property}
use Rattle.sgf_core.specs.Bytes.{is_white, is_letter, open_parenthesis, close_parenthesis, semicolon, open_bracket}
use Rattle.sgf_core.specs.Grammar.{Part, opens, begins_node, closes, property_parts, WritesParts}
use Rattle.sgf_core.specs.declared.marks.Mark.{Mark}
use Rattle.sgf_core.specs.declared.marks.Mark.TheVariants as mark
use Rattle.sgf_core.specs.declared.marks.Expects.{Expects}
use Rattle.sgf_core.specs.declared.marks.Expects.TheVariants as expects
use Rattle.sgf_core.specs.declared.faults.SgfFault.{SgfFault}
use Rattle.sgf_core.specs.declared.faults.SgfFault.TheVariants as fault

abbrev pub mark_parts : Mark → List Part
mark_parts mark.Begin = opens ∷ []
mark_parts mark.Node = begins_node ∷ []
mark_parts (mark.Prop property) = property_parts property
mark_parts mark.End = closes ∷ []

abbrev pub parts_of : List Mark → List Part
parts_of marks = flat_map mark_parts marks

-- the bytes that write these parts, and white bytes after them
pub record Wrote (at : ℕ) (parts : List Part) (text : List ℕ) : Type 0 where
  pub body : List ℕ
  pub white : List ℕ
  pub is : text ≡ body ++ white
  pub ends_white : IsTrue (list_all is_white white)
  pub writes : WritesParts at parts body

-- which marks may come: a node alone after a tree's first parenthesis, any in a node, and after an inner tree
-- another or the end
abbrev pub IsAllowed : Expects → Mark → Type 0
IsAllowed expects.Node mark.Node = Unit {0}
IsAllowed expects.Any mark.Node = Unit {0}
IsAllowed expects.Any (mark.Prop property) = property.values ≢ []
IsAllowed expects.Any mark.Begin = Unit {0}
IsAllowed expects.Any mark.End = Unit {0}
IsAllowed expects.Tree mark.Begin = Unit {0}
IsAllowed expects.Tree mark.End = Unit {0}
IsAllowed expects.Node mark.Begin = ⊥
IsAllowed expects.Node (mark.Prop property) = ⊥
IsAllowed expects.Node mark.End = ⊥
IsAllowed expects.Tree mark.Node = ⊥
IsAllowed expects.Tree (mark.Prop property) = ⊥

-- the bytes that a mark may begin with
abbrev pub is_fitting : Expects → ℕ → Bool
is_fitting expects.Node byte = byte == semicolon
is_fitting expects.Any byte = is_letter byte || byte == semicolon || byte == open_parenthesis || byte == close_parenthesis
is_fitting expects.Tree byte = byte == open_parenthesis || byte == close_parenthesis

-- neither a further value nor white bytes come after a property
abbrev pub IsWhole : List ℕ → ℕ → Mark → Type 0
IsWhole bytes end (mark.Prop property) =
    end < length bytes → (slice_index bytes end ≢ open_bracket) × (is_white (slice_index bytes end) ≡ false)
IsWhole bytes end mark.Begin = Unit {0}
IsWhole bytes end mark.Node = Unit {0}
IsWhole bytes end mark.End = Unit {0}

-- the bytes that write a mark; after a property they may go on with white bytes
abbrev pub IsMarkText : ℕ → Mark → List ℕ → Type 0
IsMarkText at (mark.Prop property) text = Wrote at (property_parts property) text
IsMarkText at mark.Begin text = WritesParts at (mark_parts mark.Begin) text
IsMarkText at mark.Node text = WritesParts at (mark_parts mark.Node) text
IsMarkText at mark.End text = WritesParts at (mark_parts mark.End) text

-- from a place on the bytes write this mark, up to `end`
pub record ReadsMark (bytes : List ℕ) (expected : Expects) (from end : ℕ) (read : Mark) : Type 0 where
  pub forward : from < end
  pub in_input : end ≤ length bytes
  pub allowed : IsAllowed expected read
  pub wrote : IsMarkText from read (slice_range bytes from end)
  pub whole : IsWhole bytes end read

-- what was kept of a mark: the mark, or nothing of a property for whose values memory was refused
abbrev pub IsKept : Option Mark → Mark → Type 0
IsKept None read = (property : Property) × (read ≡ mark.Prop property)
IsKept (Some kept) read = kept ≡ read

-- from a place on the input is less than a mark that may come
pub record EndsInMark (bytes : List ℕ) (expected : Expects) (from : ℕ) : Type 0 where
  pub more : List ℕ
  pub begun : Mark
  pub allowed : IsAllowed expected begun
  pub some_more : more ≢ []
  pub writes : WritesParts from (mark_parts begun) (drop from bytes ++ more)

-- after white bytes comes a byte with which no mark that may come begins
pub record IsMisfit (bytes : List ℕ) (expected : Expects) (from bad : ℕ) : Type 0 where
  pub after : from ≤ bad
  pub in_input : bad < length bytes
  pub white : IsTrue (list_all is_white (slice_range bytes from bad))
  pub not_white : is_white (slice_index bytes bad) ≡ false
  pub misfit : is_fitting expected (slice_index bytes bad) ≡ false

-- after an identifier and white bytes comes something that is no value
pub record IsNameAlone (bytes : List ℕ) (from bad : ℕ) : Type 0 where
  pub after : from ≤ bad
  pub in_input : bad < length bytes
  pub before : List ℕ
  pub letters : List ℕ
  pub behind : List ℕ
  pub is : slice_range bytes from bad ≡ before ++ (letters ++ behind)
  pub before_white : IsTrue (list_all is_white before)
  pub are_letters : IsTrue (list_all is_letter letters)
  pub some_letters : letters ≢ []
  pub behind_white : IsTrue (list_all is_white behind)
  pub not_white : is_white (slice_index bytes bad) ≡ false
  pub no_value : slice_index bytes bad ≢ open_bracket
  pub no_letter : behind ≡ [] → is_letter (slice_index bytes bad) ≡ false

-- what is wrong from a place on, in the tree that begins at `at`
abbrev pub MarkFault : List ℕ → ℕ → Expects → ℕ → SgfFault → Type 0
MarkFault bytes at expected from (fault.Truncated place) = (place ≡ at) × EndsInMark bytes expected from
MarkFault bytes at expected from (fault.BadByte bad) = IsMisfit bytes expected from bad
MarkFault bytes at expected from (fault.NoValue bad) = (expected ≡ expects.Any) × IsNameAlone bytes from bad
MarkFault bytes at expected from fault.TooLarge = ⊥
MarkFault bytes at expected from fault.Memory = ⊥

-- The lines of a text, and the parts that threads make of them.
use Rattle.std.specs.Prelude.{◌≡◌, ℕ, List, [], Vec, All, Result, Ok, Err, IsOk}
use Rattle.std.specs.List.{flat_map}
use Rattle.std.specs.Global.{Global}
use Rattle.std.specs.declared.alloc.AllocError.{AllocError}
use Rattle.shape_dict.specs.Contents.{squares_of}
use Rattle.shape_dict.specs.Text.{line_text}
use Rattle.shape_dict.specs.declared.entries.Entry.{Entry}
use Rattle.shape_dict.specs.declared.entries.Text.{Text}
use Rattle.shape_dict.specs.declared.entries.Text.TheVariants as text

-- the lines that a text has of entries
abbrev pub lines_of : Text → List Entry → List ℕ
lines_of text.One entries = flat_map (line_text text.One) (squares_of entries)
lines_of text.Two entries = flat_map (line_text text.Two) entries
lines_of text.Three entries = flat_map (line_text text.Three) entries

-- the bytes of a part, or none where it was refused memory
abbrev pub bytes_of : Result (Vec ℕ Global) AllocError → List ℕ
bytes_of (Ok part) = part.items
bytes_of (Err fault) = []

-- if no part was refused memory, then they are these bytes
abbrev pub AreMade : List ℕ → List (Result (Vec ℕ Global) AllocError) → Type 0
AreMade bytes made = All IsOk made → flat_map bytes_of made ≡ bytes

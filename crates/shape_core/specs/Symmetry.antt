-- The eight symmetries of the square as maps on offsets, the exchange of colours, and the canonical word
-- (this project's own).
use Rattle.std.specs.Prelude.{◌≡◌, ℕ, ◌==◌, ◌&&◌, min, Bool, neg_ℤ, map, if◌then◌else◌, position, unwrap_or, ◌⊎◌, List, [], ◌∷◌, slice_index_or}
use Rattle.std.specs.Ordering.{int_eq}
use Rattle.go_board.specs.declared.points.Colour.{Colour}
use Rattle.go_board.specs.declared.points.Colour.TheVariants as colour
use Rattle.go_board.specs.Play.{other}
use Rattle.shape_core.specs.declared.words.Kind.{Kind}
use Rattle.shape_core.specs.declared.symmetries.Symmetry.{Symmetry}
use Rattle.shape_core.specs.declared.symmetries.Symmetry.TheVariants as symmetry
use Rattle.shape_core.specs.Offset.{Offset, offsets_of}
use Rattle.shape_core.specs.Word.{kind_of, word_of, code_at, codes_of}

-- the eight, in the order of their numbers from 0 on
abbrev pub all_symmetries : List Symmetry
all_symmetries =
    symmetry.Same ∷ symmetry.RightTurn ∷ symmetry.HalfTurn ∷ symmetry.LeftTurn ∷ symmetry.LeftRight ∷ symmetry.TopBottom
    ∷ symmetry.FallingDiagonal ∷ symmetry.RisingDiagonal ∷ []

-- the symmetry of a number below 8
abbrev pub numbered : ℕ → Symmetry
numbered n = slice_index_or all_symmetries n symmetry.Same

-- where a symmetry moves an offset
abbrev pub moved : Symmetry → Offset → Offset
moved symmetry.Same o = o
moved symmetry.RightTurn o = record { dx = neg_ℤ o.dy; dy = o.dx }
moved symmetry.HalfTurn o = record { dx = neg_ℤ o.dx; dy = neg_ℤ o.dy }
moved symmetry.LeftTurn o = record { dx = o.dy; dy = neg_ℤ o.dx }
moved symmetry.LeftRight o = record { dx = neg_ℤ o.dx; dy = o.dy }
moved symmetry.TopBottom o = record { dx = o.dx; dy = neg_ℤ o.dy }
moved symmetry.FallingDiagonal o = record { dx = o.dy; dy = o.dx }
moved symmetry.RisingDiagonal o = record { dx = neg_ℤ o.dy; dy = neg_ℤ o.dx }

-- the two offsets are the same
abbrev pub same_offset : Offset → Offset → Bool
same_offset o q = int_eq o.dx q.dx && int_eq o.dy q.dy

-- the cell that a symmetry moves to this offset
abbrev pub source_cell : Kind → Symmetry → Offset → ℕ
source_cell kind s o = unwrap_or (position (λ q. same_offset (moved s q) o) (offsets_of kind)) 0

-- the word with each cell's code at the cell that the symmetry moves it to
unfoldable pub image_of : Symmetry → ℕ → ℕ
image_of s word =
    let kind = kind_of word in
    word_of kind (map (λ o. code_at word (source_cell kind s o)) (offsets_of kind))

-- the exchange of colours: 1 for 2 and 2 for 1
abbrev pub exchanged_code : ℕ → ℕ
exchanged_code code = if code == 1 then 2 else (if code == 2 then 1 else code)

-- the word with every code exchanged
unfoldable pub exchange_of : ℕ → ℕ
exchange_of word = word_of (kind_of word) (map exchanged_code (codes_of word))

-- the least of the eight images
unfoldable pub least_image : ℕ → ℕ
least_image word =
    min (image_of symmetry.Same word) (min (image_of symmetry.RightTurn word) (min (image_of symmetry.HalfTurn word)
    (min (image_of symmetry.LeftTurn word) (min (image_of symmetry.LeftRight word) (min (image_of symmetry.TopBottom word)
    (min (image_of symmetry.FallingDiagonal word) (image_of symmetry.RisingDiagonal word)))))))

-- the canonical word with this colour to move: White's words are looked at with the colours exchanged
abbrev pub canonical_of : ℕ → Colour → ℕ
canonical_of word colour.Black = least_image word
canonical_of word colour.White = least_image (exchange_of word)

-- the second word with its mover is one of the sixteen images of the first with its mover
abbrev pub IsImageOf : ℕ → Colour → ℕ → Colour → Type 0
IsImageOf word mover image image_mover =
    (s : Symmetry) × ((image ≡ image_of s word) × (image_mover ≡ mover)
    ⊎ (image ≡ image_of s (exchange_of word)) × (image_mover ≡ other mover))

-- A word beside its images, as four pairs.
use Rattle.std.specs.Prelude.{◌≡◌, ℕ, ◌*◌, ◌^◌, ◌<◌, List, [], ◌∷◌, slice_index, map}
use Rattle.shape_core.specs.declared.words.Kind.{Kind}
use Rattle.shape_core.specs.declared.symmetries.Symmetry.{Symmetry}
use Rattle.shape_core.specs.declared.symmetries.Symmetry.TheVariants as symmetry
use Rattle.shape_core.specs.Offset.{offsets_of}
use Rattle.shape_core.specs.Symmetry.{image_of, source_cell}

-- the word, and its image with rows for columns
abbrev pub pair_of : ℕ → List ℕ
pair_of w = w ∷ image_of symmetry.FallingDiagonal w ∷ []

-- these two with left and right exchanged
abbrev pub flipped_of : ℕ → List ℕ
flipped_of w = image_of symmetry.LeftRight w ∷ image_of symmetry.LeftRight (image_of symmetry.FallingDiagonal w) ∷ []

-- with top and bottom exchanged
abbrev pub turned_of : ℕ → List ℕ
turned_of w = image_of symmetry.TopBottom w ∷ image_of symmetry.TopBottom (image_of symmetry.FallingDiagonal w) ∷ []

-- with both
abbrev pub both_of : ℕ → List ℕ
both_of w =
    image_of symmetry.TopBottom (image_of symmetry.LeftRight w)
    ∷ image_of symmetry.TopBottom (image_of symmetry.LeftRight (image_of symmetry.FallingDiagonal w)) ∷ []

-- these are the four pairs of a word
pub record AreImages (w : ℕ) (pair flipped turned both : List ℕ) : Type 0 where
  pub small : w < 2 ^ 51
  pub pair_is : pair ≡ pair_of w
  pub flipped_is : flipped ≡ flipped_of w
  pub turned_is : turned ≡ turned_of w
  pub both_is : both ≡ both_of w

-- a code in a cell
abbrev pub code_in : ℕ → ℕ → ℕ
code_in code cell = code * 4 ^ cell

-- the cell that a symmetry moves to a cell
abbrev pub cell_from : Kind → Symmetry → ℕ → ℕ
cell_from kind s cell = slice_index (map (source_cell kind s) (offsets_of kind)) cell

-- a code in a cell's places in the eight words of a kind, in the order of the pairs. Each of the three symmetries, made
-- twice, moves nothing, so the cell that one moves to a cell is also the one to which it moves that cell.
unfoldable pub bits_row : Kind → ℕ → ℕ → List ℕ
bits_row kind code cell =
    let falling = cell_from kind symmetry.FallingDiagonal cell in
    let left_right = cell_from kind symmetry.LeftRight cell in
    let falling_left_right = cell_from kind symmetry.LeftRight falling in
    code_in code cell ∷ code_in code falling
    ∷ code_in code left_right ∷ code_in code falling_left_right
    ∷ code_in code (cell_from kind symmetry.TopBottom cell) ∷ code_in code (cell_from kind symmetry.TopBottom falling)
    ∷ code_in code (cell_from kind symmetry.TopBottom left_right) ∷ code_in code (cell_from kind symmetry.TopBottom falling_left_right) ∷ []

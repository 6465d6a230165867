-- The four flips of a word: itself, and left and right exchanged, or top and bottom, or both.
use Rattle.std.specs.Prelude.{ℕ, min}
use Rattle.shape_core.specs.declared.symmetries.Symmetry.TheVariants as symmetry
use Rattle.shape_core.specs.Symmetry.{image_of}

-- the least of the four
unfoldable pub flips : ℕ → ℕ
flips w =
    min (min (min w (image_of symmetry.LeftRight w)) (image_of symmetry.TopBottom w)) (image_of symmetry.TopBottom (image_of symmetry.LeftRight w))

-- The definitions on worked values.
use Rattle.std.proofs.Common.{◌≡◌, refl, codes}
use Rattle.go_board.specs.Position.{Position}
use Rattle.go_board.specs.declared.points.Colour.TheVariants as colour
use Rattle.go_board.specs.declared.points.Stone.TheVariants as stone
use Rattle.shape_core.specs.declared.words.Kind.TheVariants as kind
use Rattle.shape_core.specs.declared.symmetries.Symmetry.TheVariants as symmetry
use Rattle.shape_core.specs.Symmetry.{canonical_of, least_image, image_of, exchange_of, numbered}
use Rattle.shape_core.specs.Around.{word_around}
use Rattle.shape_core.specs.Glyph.{glyphs_of}

empty : Position
empty _ = stone.Empty

-- `###########X.############` with White to move
stone_left : canonical_of 0x3fff7fcffffff colour.White ≡ 0x3fffbfcffffff
unfolding least_image image_of exchange_of
stone_left = refl

-- `...........X.O...........`
own_exchange : canonical_of 0x0000008400000 colour.Black ≡ 0x0000004800000
unfolding least_image image_of
own_exchange = refl

-- `....X....................` with White to move
corner : canonical_of 0x100 colour.White ≡ 2
unfolding least_image image_of exchange_of
corner = refl

-- the only point of a board of one by one
alone : word_around kind.Square (record { columns = 1; rows = 1 }) empty (record { column = 0; row = 0 }) ≡ 0x3fffffcffffff
unfolding word_around empty
alone = refl

alone_as_diamond : word_around kind.Diamond (record { columns = 1; rows = 1 }) empty (record { column = 0; row = 0 }) ≡ 0x7fffffcffffff
unfolding word_around empty
alone_as_diamond = refl

-- the points of a board of two columns and one row
pair : canonical_of (word_around kind.Square (record { columns = 2; rows = 1 }) empty (record { column = 1; row = 0 })) colour.Black ≡ 0x3fff3fcffffff
unfolding word_around empty least_image image_of
pair = refl

-- two points of a board of four columns and one row
end_of_four : canonical_of (word_around kind.Diamond (record { columns = 4; rows = 1 }) empty (record { column = 3; row = 0 })) colour.Black ≡ 0x4cfcffcffffff
unfolding word_around empty least_image image_of
end_of_four = refl

second_of_four : canonical_of (word_around kind.Diamond (record { columns = 4; rows = 1 }) empty (record { column = 1; row = 0 })) colour.Black ≡ 0x7cfcffcffcfff
unfolding word_around empty least_image image_of
second_of_four = refl

-- a quarter turn to the left has the number 3
third : numbered 3 ≡ symmetry.LeftTurn
third = refl

alone_in_glyphs : glyphs_of 0x3fffffcffffff ≡ codes "############.############"
unfolding glyphs_of
alone_in_glyphs = refl

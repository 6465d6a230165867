-- The text of a whole dictionary: one game of one move, and one pattern.
use Rattle.std.proofs.Common.{◌≡◌, [], ◌∷◌, ◌++◌, None, false, arith, codes}
use Rattle.std.specs.Fmt.{decimal}
use Rattle.std.proofs.lemmas.Fmt.{decimal_digit}
use Rattle.shape_dict.specs.declared.entries.Text.TheVariants as text
use Rattle.shape_dict.specs.Contents.{Contents}
use Rattle.shape_dict.specs.Text.{header_text, word_text, header_of, text_of}

abbrev dictionary : Contents
dictionary = record {
  games = 1;
  moves = 1;
  entries = record { shape = 0; there = 1; played = 1; first = None } ∷ [];
  counts_diamonds = false;
}

whole_text : text_of text.One dictionary
    ≡ codes "shapes 1 games 1 moves 1 patterns 1" ++ 10 ∷ codes "0000000000000 1 1" ++ 10 ∷ []
unfolding word_text
whole_text = let one : decimal 1 ≡ codes "1" = decimal_digit 1 (omega arith) in cc

-- in text 3, `-` where diamonds are not counted
third_header : header_text (header_of text.Three dictionary) ≡ codes "shapes 3 games 1 moves 1 squares 1 diamonds -" ++ 10 ∷ []
third_header = let one : decimal 1 ≡ codes "1" = decimal_digit 1 (omega arith) in cc

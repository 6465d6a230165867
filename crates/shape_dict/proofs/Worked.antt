-- The definitions at worked values: a dictionary of one game of one move, and its texts' parts.
use Rattle.std.proofs.Common.{◌≡◌, ◌≢◌, ℕ, ◌<◌, [], ◌∷◌, length, Option, Some, None, true, false, refl, ap, codes, arith, rules, slice_index_or}
use Rattle.std.proofs.lemmas.Fmt.{decimal_digit}
use Rattle.std.proofs.lemmas.List.{length-append}
use Rattle.shape_core.specs.Symmetry.{least_image, image_of}
use Rattle.shape_dict.specs.declared.entries.Entry.{Entry}
use Rattle.shape_dict.specs.declared.entries.Text.{Text}
use Rattle.shape_dict.specs.declared.entries.Text.TheVariants as text
use Rattle.shape_dict.specs.Contents.{is_square, squares_of, diamonds_of, played_in, entry_of}
use Rattle.shape_dict.specs.Text.{hexadecimal, word_text, first_text, header_text}
use Rattle.shape_dict.specs.Join.{joined_entry}
use Rattle.shape_dict.specs.Reading.{HasHeader, HasFirstLine, HasNoHeader, IsFrontFault}
use Rattle.shape_dict.specs.declared.faults.DictFault.{DictFault}
use Rattle.shape_dict.specs.declared.faults.DictFault.TheVariants as fault
use Rattle.shape_dict.proofs.Faultless.{front_fault_unique, header_begun}

abbrev square : Entry
square = record { shape = 0x3fffffcffffff; there = 1; played = 1; first = None }

abbrev empty_square : Entry
empty_square = record { shape = 0; there = 1; played = 1; first = None }

abbrev diamond : Entry
diamond = record { shape = 0x7fffffcffffff; there = 1; played = 1; first = Some 0 }

kinds_square : is_square square ≡ true
kinds_square = refl

kinds_diamond : is_square diamond ≡ false
kinds_diamond = refl

squares_worked : squares_of (square ∷ diamond ∷ []) ≡ square ∷ []
squares_worked = refl

diamonds_worked : diamonds_of (square ∷ diamond ∷ []) ≡ diamond ∷ []
diamonds_worked = refl

played_worked : played_in (square ∷ diamond ∷ []) ≡ 2
played_worked = refl

found_worked : entry_of 0x7fffffcffffff (square ∷ diamond ∷ []) ≡ Some diamond
found_worked = refl

word_worked : hexadecimal 13 0x3fffffcffffff ≡ codes "3fffffcffffff"
word_worked = refl

first_worked : first_text text.Three None ≡ codes " -"
first_worked = refl

joined_worked : joined_entry 5 None (Some diamond) ≡ Some (record diamond { first = Some 5 })
joined_worked = refl

summed_worked : joined_entry 5 (Some square) (Some square) ≡ Some (record square { there = 2; played = 2 })
summed_worked = refl

-- no bytes have a fault that is not want of memory, and memory is not wanted for them
has_byte : (t : Text) (games moves squares : ℕ) (diamonds : Option ℕ) → 0 < length (header_text (record { text = t; games = games; moves = moves; squares = squares; diamonds = diamonds }))
has_byte text.One games moves squares diamonds = omega arith
has_byte text.Two games moves squares diamonds = omega arith
has_byte text.Three games moves squares diamonds = omega arith

headless_worked : HasNoHeader []
headless_worked h =
    let header = h.header in
    let some = has_byte header.text header.games header.moves header.squares header.diamonds in
    omega (arith, some, ap length h.same, length-append (header_text header) h.left)

fault_worked : IsFrontFault [] fault.BadHeader
fault_worked = (omega arith, headless_worked)

memory_worked : IsFrontFault [] fault.Memory → ⊥
memory_worked h =
    let line = h.1 in
    headless_worked (header_begun [] line.header (line.entry ∷ []) line.left line.begins)

one_fault_worked : (found : DictFault) → IsFrontFault [] found → found ≢ fault.Memory → found ≡ fault.BadHeader
one_fault_worked found h other = front_fault_unique [] found fault.BadHeader h fault_worked other (λ e. cc)

-- some bytes begin with a header, whatever follows it
header_worked : HasHeader (codes "shapes 1 games 1 moves 1 patterns 1\nshapes")
header_worked = record {
  header = record { text = text.One; games = 1; moves = 1; squares = 1; diamonds = None };
  left = codes "shapes";
  is_header = record { games = omega arith; moves = omega arith; squares = omega arith; diamonds = tt; first_text = λ e. refl };
  same = rw (decimal_digit 1 (omega arith)) refl;
}

-- of a list of one
only_one : (k : ℕ) (d : Entry) → k ≡ 0 → least_image (slice_index_or (empty_square ∷ []) k d).shape ≡ (slice_index_or (empty_square ∷ []) k d).shape
unfolding least_image image_of
only_one k d none = rw none refl

-- memory may be wanting where bytes begin with a header and a first line
first_line_worked : HasFirstLine (codes "shapes 1 games 1 moves 1 patterns 1\n0000000000000 1 1\n3")
unfolding word_text
first_line_worked = record {
  header = record { text = text.One; games = 1; moves = 1; squares = 1; diamonds = None };
  entry = empty_square;
  left = codes "3";
  begins = record {
    is_header = record { games = omega arith; moves = omega arith; squares = omega arith; diamonds = tt; first_text = λ e. refl };
    lines = (record { word = omega arith; kind = refl; there = omega arith; played = omega arith; small = search rules; first = refl }, tt);
    shapes = record { rises = λ k small. absurd (omega arith); canonical = λ k d small. only_one k d (omega arith) };
    few = omega arith;
    same = rw (decimal_digit 1 (omega arith)) refl;
  };
}

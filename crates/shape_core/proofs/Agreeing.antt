-- Words of positions that agree on the board; the cell in the middle; a stone placed where it is already.
use Rattle.std.proofs.Common.{◌≡◌, ℕ, List, slice_index, [], ◌∷◌, map, Bool, true, false, cond, ltb, ◌&&◌, Option, Some, None, sym, refl, ap, ap₂, ◌∙◌, arith, ⊎_elim}
use Rattle.std.proofs.lemmas.Bool.{and_parts, ltb-true, cases_eq}
use Rattle.shape_core.proofs.Marking.{same_point_from}
use Rattle.shape_core.proofs.Mixing.{placed_there, placed_other}
use Rattle.go_board.specs.Extent.{Extent}
use Rattle.go_board.specs.Point.{IsOn, index_of}
use Rattle.go_board.specs.Position.{Position, placed}
use Rattle.go_board.specs.declared.points.Point.{Point}
use Rattle.go_board.specs.declared.points.Stone.{Stone}
use Rattle.go_board.specs.declared.points.Stone.TheVariants as stone
use Rattle.shape_core.specs.declared.words.Kind.{Kind}
use Rattle.shape_core.specs.declared.words.Kind.TheVariants as kind
use Rattle.shape_core.specs.Offset.{offsets_of}
use Rattle.shape_core.specs.Inner.Table.{offset_of}
use Rattle.shape_core.specs.Word.{word_of, code_at}
use Rattle.shape_core.specs.Around.{shifted, stone_code, code_there, code_around, word_around}
use Rattle.shape_core.specs.Inner.KeptLists.{AreWords}
use Rattle.shape_core.specs.Inner.Keeping.{Follows}
use Rattle.shape_core.specs.declared.kept.KeptWords.{KeptWords}
use Rattle.shape_core.proofs.Codes.{code_at-word_of}
use Rattle.shape_core.proofs.Reach.{codes_round, get_or-codes_round, AreCodes-codes_round, word_around_is, code_around_on}

map-same : {A B : Type 0} (f g : A → B) → ((x : A) → f x ≡ g x) → (xs : List A) → map f xs ≡ map g xs
map-same f g e [] = refl
map-same f g e (x ∷ xs) = ap₂ ◌∷◌ (e x) (map-same f g e xs)

-- the two positions have the same stones on the board
abbrev pub Agree : Extent → Position → Position → Type 0
Agree size p q = (r : Point) → IsOn size r → p r ≡ q r

cond-agree : (b : Bool) (x y z : ℕ) → (b ≡ true → x ≡ y) → cond b x z ≡ cond b y z
cond-agree true x y z e = e refl
cond-agree false x y z e = refl

there_agree : (size : Extent) (p q : Position) → Agree size p q → (column row : Option ℕ) → code_there size p column row ≡ code_there size q column row
there_agree size p q same None row = refl
there_agree size p q same (Some column) None = refl
there_agree size p q same (Some column) (Some row) =
    cond-agree (ltb column size.columns && ltb row size.rows) (stone_code (p (record { column = column; row = row }))) (stone_code (q (record { column = column; row = row }))) 3
    (λ on. let parts = and_parts (ltb column size.columns) (ltb row size.rows) on in
    ap stone_code (same (record { column = column; row = row }) (ltb-true column size.columns parts.0, ltb-true row size.rows parts.1)))

word_around_agree : (k : Kind) (size : Extent) (p q : Position) (at : Point) → Agree size p q → word_around k size p at ≡ word_around k size q at
unfolding word_around
word_around_agree k size p q at same =
    ap (word_of k) (map-same (code_around size p at) (code_around size q at) (λ o. there_agree size p q same (shifted at.column o.dx) (shifted at.row o.dy)) (offsets_of k))

AreWords-agree : (k : Kind) (size : Extent) (p q : Position) (words : List ℕ) → Agree size p q → AreWords k size p words → AreWords k size q words
AreWords-agree k size p q words same are =
    record { count = are.count; each = λ at on. are.each at on ∙ word_around_agree k size p q at same }

pub Follows-agree : (kept : KeptWords) (p q : Position) → Agree kept.size p q → Follows kept p → Follows kept q
Follows-agree kept p q same follow =
    record {
      squares_follow = AreWords-agree kind.Square kept.size p q kept.squares.items same follow.squares_follow;
      diamonds_follow = λ both. AreWords-agree kind.Diamond kept.size p q kept.diamonds.items same (follow.diamonds_follow both);
    }

-- the cell in the middle of a point's square has the code of its stone
pub middle : (size : Extent) (position : Position) (p : Point) → IsOn size p → code_at (word_around kind.Square size position p) 12 ≡ stone_code (position p)
middle size position p on =
    ap (λ w. code_at w 12) (word_around_is kind.Square size position p)
    ∙ code_at-word_of kind.Square (codes_round size position p (offsets_of kind.Square)) 12 (AreCodes-codes_round size position p (offsets_of kind.Square) refl) (omega arith)
    ∙ get_or-codes_round size position p (offsets_of kind.Square) 12 (offset_of (0, 0)) (omega arith)
    ∙ code_around_on size position p p (3, 3) on (refl, refl)

-- so the kept words say what is on a point
pub middle_code : (kept : KeptWords) (position : Position) (p : Point) → IsOn kept.size p → Follows kept position → code_at (slice_index kept.squares.items (index_of kept.size p)) 12 ≡ stone_code (position p)
middle_code kept position p on follow = ap (λ w. code_at w 12) (follow.squares_follow.each p on) ∙ middle kept.size position p on

pub found_code : (kept : KeptWords) (position : Position) (p : Point) (index word code : ℕ) → IsOn kept.size p → Follows kept position →
    index ≡ index_of kept.size p → word ≡ slice_index kept.squares.items index → code ≡ code_at word 12 → code ≡ stone_code (position p)
found_code kept position p index word code on follow at read is =
    is ∙ ap (λ w. code_at w 12) (read ∙ ap (slice_index kept.squares.items) at) ∙ middle_code kept position p on follow

-- stones with the same code are the same
pub same_stones : (a b : Stone) → stone_code a ≡ stone_code b → a ≡ b
same_stones stone.Empty stone.Empty e = refl
same_stones stone.Black stone.Black e = refl
same_stones stone.White stone.White e = refl
same_stones stone.Empty stone.Black e = absurd (omega arith)
same_stones stone.Empty stone.White e = absurd (omega arith)
same_stones stone.Black stone.Empty e = absurd (omega arith)
same_stones stone.Black stone.White e = absurd (omega arith)
same_stones stone.White stone.Empty e = absurd (omega arith)
same_stones stone.White stone.Black e = absurd (omega arith)

-- a stone placed where it is already changes nothing
pub placed_again : (size : Extent) (position : Position) (p : Point) (stone : Stone) → position p ≡ stone → Agree size position (placed position p stone)
placed_again size position p stone stands = λ r on.
    ⊎_elim
    (λ (column : r.column ≡ p.column). ⊎_elim
    (λ (row : r.row ≡ p.row). let same = same_point_from r p column row in ap position same ∙ stands ∙ sym (placed_there position p stone) ∙ ap (placed position p stone) (sym same))
    (λ (row : r.row ≡ p.row → ⊥). sym (placed_other position p r stone (λ both. row both.1)))
    (cases_eq r.row p.row))
    (λ (column : r.column ≡ p.column → ⊥). sym (placed_other position p r stone (λ both. column both.0)))
    (cases_eq r.column p.column)

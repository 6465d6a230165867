-- What a test of two stones says.
use Rattle.std.proofs.Common.{◌≡◌, ◌≢◌, ◌∙◌, Bool, true, false, refl, sym}
use denote.Enum.Bare.{sameb}
use Rattle.go_board.specs.contracts.points.Stone.{the_type}
use Rattle.go_board.specs.declared.points.Stone.{Stone}
use Rattle.go_board.specs.declared.points.Stone.TheVariants as stone

same_or_not : (a b : Stone) → (sameb the_type a b ≡ true → a ≡ b) × (sameb the_type a b ≡ false → a ≢ b)
same_or_not stone.Empty stone.Empty = ((λ e. refl), (λ e. absurd (cc)))
same_or_not stone.Empty stone.Black = ((λ e. absurd (cc)), (λ e f. cc))
same_or_not stone.Empty stone.White = ((λ e. absurd (cc)), (λ e f. cc))
same_or_not stone.Black stone.Empty = ((λ e. absurd (cc)), (λ e f. cc))
same_or_not stone.Black stone.Black = ((λ e. refl), (λ e. absurd (cc)))
same_or_not stone.Black stone.White = ((λ e. absurd (cc)), (λ e f. cc))
same_or_not stone.White stone.Empty = ((λ e. absurd (cc)), (λ e f. cc))
same_or_not stone.White stone.Black = ((λ e. absurd (cc)), (λ e f. cc))
same_or_not stone.White stone.White = ((λ e. refl), (λ e. absurd (cc)))

pub same_stone : (a b : Stone) (answer : Bool) → answer ≡ sameb the_type a b → answer ≡ true → a ≡ b
same_stone a b answer is holds = (same_or_not a b).0 (sym is ∙ holds)

pub other_stone : (a b : Stone) (answer : Bool) → answer ≡ sameb the_type a b → answer ≡ false → a ≢ b
other_stone a b answer is fails = (same_or_not a b).1 (sym is ∙ fails)

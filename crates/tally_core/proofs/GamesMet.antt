-- The patterns of games: one that is not among them is there no time.
use Rattle.std.proofs.Common.{◌≡◌, ℕ, ◌==◌, ◌||◌, Bool, true, false, cond, List, [], ◌∷◌, refl, ap, sym, ◌∙◌, arith}
use Rattle.std.specs.Prelude.{sum_by}
use Rattle.std.specs.List.{flat_map}
use Rattle.std.proofs.lemmas.Bool.Decides.{nat_tests}
use Rattle.std.proofs.lemmas.List.Folds.{list_any-append}
use Rattle.std.proofs.lemmas.List.Sums.{sum_by-cons}
use Rattle.shape_core.specs.declared.words.Kinds.{Kinds}
use Rattle.tally_core.specs.Beyond.{patterns_in}
use Rattle.tally_core.specs.Counts.{Replayed, kinds_of, patterns_there, there_in}
use Rattle.tally_core.specs.Inner.Times.{times_in}
use Rattle.tally_core.proofs.Once.{has}

-- those of one game
abbrev pub patterns_of_game : Kinds → Replayed → List ℕ
patterns_of_game kinds game = flat_map (patterns_there (kinds_of kinds) game.size) game.occasions

none-of-both : (a b : Bool) → (a || b) ≡ false → (a ≡ false) × (b ≡ false)
none-of-both true b h = absurd (let no : true ≡ false = h in cc)
none-of-both false b h = (refl, h)

flip-test : (a b : ℕ) → (a == b) ≡ false → (b == a) ≡ false
flip-test a b h = Prim.grind (arith, nat_tests)

no-times : (word : ℕ) (words : List ℕ) → has word words ≡ false → times_in words word ≡ 0
no-times word [] none = refl
no-times word (w ∷ words) none =
    let parts = none-of-both (word == w) (has word words) none in
    let f : ℕ → ℕ = λ c. cond (c == word) 1 0 in
    let here : f w ≡ 0 = ap (λ b. cond b 1 0) (flip-test word w parts.0) in
    omega (arith, sum_by-cons f w words, here, no-times word words parts.1)

pub there-none : (kinds : Kinds) (word : ℕ) (games : List Replayed) → has word (patterns_in kinds games) ≡ false → sum_by (λ g. there_in (kinds_of kinds) g word) games ≡ 0
there-none kinds word [] none = refl
there-none kinds word (game ∷ games) none =
    let parts = none-of-both (has word (patterns_of_game kinds game)) (has word (patterns_in kinds games))
    (sym (list_any-append (λ w. word == w) (patterns_of_game kinds game) (patterns_in kinds games)) ∙ none) in
    omega (arith, sum_by-cons (λ g. there_in (kinds_of kinds) g word) game games, no-times word (patterns_of_game kinds game) parts.0, there-none kinds word games parts.1)

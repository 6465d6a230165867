-- What words mean, one word after another, and the files below a folder.
use Rattle.std.proofs.Common.{◌≡◌, ◌≢◌, ◌==◌, ℕ, ◌+◌, true, false, List, [], ◌∷◌, ◌++◌, length, map, slice_index_or, refl, ap, sym, subst, ◌∙◌, arith, append_assoc, String, string_bytes}
use Rattle.std.proofs.lemmas.Bool.{cases_lt}
use Rattle.std.proofs.lemmas.Grind.{common_steps}
use Rattle.std.proofs.lemmas.List.{map-append, append-nil}
use Rattle.std.specs.Global.{Global}
use mathlib.Core.Logic.{⊎_elim}
use Rattle.game_files.specs.declared.flaws.Flaw.{Flaw}
use Rattle.game_files.specs.declared.flaws.Why.{Why}
use Rattle.game_files.specs.declared.words.Source.{Source}
use Rattle.game_files.specs.declared.words.Source.TheVariants as source
use Rattle.game_files.specs.Names.{is_game_name}
use Rattle.game_files.specs.Sources.{AreGames, AreGameFiles, AreMeant, IsBelow, IsFlawOf, IsMeant}
use Rattle.game_files.specs.Inner.Grown.{AreFlaws, Grew}

-- one file more
pub games_push : (files : List (String Global)) (file : String Global) → AreGames files → is_game_name (string_bytes file) ≡ true → AreGames (files ++ file ∷ [])
games_push files file h is name has =
    ⊎_elim
    (λ old. let same : slice_index_or files has.0 has.1 ≡ has.1 = grind (arith, common_steps, has.3) in h name (has.0, has.1, old, same, has.4))
    (λ last. let same : file ≡ has.1 = grind (arith, common_steps, has.2, has.3) in subst (λ n. is_game_name n ≡ true) (ap string_bytes same ∙ has.4) is)
    (cases_lt has.0 (length files))

behind : {A : Type 0} (xs ys : List A) → ys ≢ [] → xs ++ ys ≢ []
behind [] ys some none = some none
behind (x ∷ xs) ys some none = let e : x ∷ (xs ++ ys) ≡ [] = none in cc

-- a list in which something stands
some_in_map : {A B : Type 0} (f : A → B) (xs : List A) → (length xs == 0) ≡ false → map f xs ≢ []
some_in_map f [] some none = cc
some_in_map f (x ∷ xs) some none = let e : f x ∷ map f xs ≡ [] = none in cc

before : {A : Type 0} (xs ys : List A) → xs ≢ [] → xs ++ ys ≢ []
before [] ys some none = some refl
before (x ∷ xs) ys some none = let e : x ∷ (xs ++ ys) ≡ [] = none in cc

pub some_flaws : (flaws : List Flaw) (files : List (String Global)) → (length flaws == 0) ≡ false → map source.Flaw flaws ++ map source.File files ≢ []
some_flaws flaws files some = before (map source.Flaw flaws) (map source.File files) (some_in_map source.Flaw flaws some)

pub some_files : (flaws : List Flaw) (files : List (String Global)) → (length files == 0) ≡ false → map source.Flaw flaws ++ map source.File files ≢ []
some_files flaws files some = behind (map source.Flaw flaws) (map source.File files) (some_in_map source.File files some)

pub none_long : {A : Type 0} (xs : List A) → (length xs == 0) ≡ true → xs ≡ []
none_long [] h = refl
none_long (x ∷ xs) h = absurd (let long : length (x ∷ xs) ≡ length xs + 1 = omega arith in grind (arith, h, long))

-- what is wrong with a folder comes before what was found below it
pub below_after : (old middle new : List Source) → Grew AreFlaws old middle → Grew IsBelow middle new → Grew IsBelow old new
below_after old middle new first rest =
    let flaws = first.1.0 in
    let below = rest.1 in (
      first.0 ++ rest.0,
      record {
        flaws = flaws ++ below.flaws;
        files = below.files;
        are = ap (λ a. a ++ rest.0) first.1.1 ∙ ap (λ b. map source.Flaw flaws ++ b) below.are
            ∙ sym (append_assoc (map source.Flaw flaws) (map source.Flaw below.flaws) (map source.File below.files))
            ∙ ap (λ a. a ++ map source.File below.files) (sym (map-append source.Flaw flaws below.flaws));
        games = below.games;
        some = behind first.0 rest.0 below.some;
      },
      rest.2 ∙ ap (λ m. m ++ rest.0) first.2 ∙ append_assoc old first.0 rest.0,
    )

-- nothing is wrong
pub no_flaws : (old : List Source) → Grew AreFlaws old old
no_flaws old = ([], ([], refl), sym (append-nil old))

-- one thing is
pub one_flaw : (word : List ℕ) (why : Why) (old new : List Source) → Grew (IsFlawOf word why) old new → Grew AreFlaws old new
one_flaw word why old new h = (h.0, (h.1.0 ∷ [], h.1.3), h.2)

-- a folder of which nothing but one thing is known
pub flaw_alone : (word : List ℕ) (why : Why) (files : List (String Global)) (old new : List Source) → AreGameFiles files → files ≡ [] → Grew (IsFlawOf word why) old new → Grew IsBelow old new
flaw_alone word why files old new games none h = (
  h.0,
  record {
    flaws = h.1.0 ∷ [];
    files = files;
    are = h.1.3 ∙ ap (λ f. source.Flaw h.1.0 ∷ map source.File f) (sym none);
    games = games;
    some = λ e. let is : source.Flaw h.1.0 ∷ [] ≡ [] = sym h.1.3 ∙ e in cc;
  },
  h.2,
)

-- what was found below a folder
pub below_found : (flaws : List Flaw) (files : List (String Global)) (old new : List Source) → AreGameFiles files → map source.Flaw flaws ++ map source.File files ≢ [] →
    new ≡ old ++ map source.Flaw flaws ++ map source.File files → Grew IsBelow old new
below_found flaws files old new games some is = (
  map source.Flaw flaws ++ map source.File files,
  record { flaws = flaws; files = files; are = refl; games = games; some = some },
  is ∙ append_assoc old (map source.Flaw flaws) (map source.File files),
)

-- one word more
pub meant_push : (words : List (List ℕ)) (word : List ℕ) (all more : List Source) → AreMeant words all → IsMeant word more → AreMeant (words ++ word ∷ []) (all ++ more)
meant_push [] word all more h is = (more, [], is, refl, ap (λ a. a ++ more) h ∙ sym (append-nil more))
meant_push (first ∷ words) word all more h is =
    (h.0, h.1 ++ more, h.2, meant_push words word h.1 more h.3 is, ap (λ a. a ++ more) h.4 ∙ append_assoc h.0 h.1 more)

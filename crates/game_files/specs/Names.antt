-- Which names are those of files of games, and which names are in a list.
use Rattle.std.specs.Prelude.{◌≡◌, ℕ, ◌-◌, Bool, List, String, length, drop, codes, string_bytes}
use Rattle.std.specs.List.{Any}
use Rattle.std.specs.Str.{str_eq_ignore_ascii_case}

-- the last four bytes of a name, or all where it has fewer
abbrev pub ending : List ℕ → List ℕ
ending name = drop (length name - 4) name

-- the name ends in `.sgf`, in letters of any case
abbrev pub is_game_name : List ℕ → Bool
is_game_name name = str_eq_ignore_ascii_case (ending name) (codes ".sgf")

-- one of the names has these bytes
abbrev pub HasName : {A : Type 0} → List (String A) → List ℕ → Type 0
HasName names bytes = Any (λ name. string_bytes name ≡ bytes) names

-- What an input without a tree may be, by its first bytes.
use Rattle.std.specs.Prelude.{ℕ, Bool, ◌||◌, List, [], ◌∷◌, Option, Some, None, codes, if◌then◌else◌}
use Rattle.std.specs.Bool.{nat_eq}
use Rattle.std.specs.List.{starts_with}
use Rattle.game_files.specs.declared.causes.Cause.{Cause}
use Rattle.game_files.specs.declared.causes.Cause.TheVariants as cause

abbrev pub begins_with : List ℕ → List ℕ → Bool
begins_with front bytes = starts_with nat_eq front bytes

-- the marks of programs that pack
abbrev pub packed_cause : List ℕ → Option Cause
packed_cause front =
    if begins_with front (31 ∷ 139 ∷ []) then Some cause.Gzip
    else (if begins_with front (80 ∷ 75 ∷ 3 ∷ 4 ∷ []) then Some cause.Zip
    else (if begins_with front (codes "BZh") then Some cause.Bzip2
    else (if begins_with front (253 ∷ 55 ∷ 122 ∷ 88 ∷ 90 ∷ 0 ∷ []) then Some cause.Xz
    else (if begins_with front (40 ∷ 181 ∷ 47 ∷ 253 ∷ []) then Some cause.Zstd else None))))

-- the mark of the order of bytes, or a parenthesis in two bytes
abbrev pub is_wide : List ℕ → Bool
is_wide front =
    begins_with front (255 ∷ 254 ∷ []) || begins_with front (254 ∷ 255 ∷ []) || begins_with front (40 ∷ 0 ∷ [])
    || begins_with front (0 ∷ 40 ∷ [])

abbrev pub plain_cause : List ℕ → Cause
plain_cause front =
    if is_wide front then cause.Utf16 else (if begins_with front (codes "shapes ") then cause.Dictionary else cause.NoSgf)

abbrev pub or_plain : List ℕ → Option Cause → Cause
or_plain front None = plain_cause front
or_plain front (Some found) = found

abbrev pub cause_of : List ℕ → Cause
cause_of [] = cause.Empty
cause_of (byte ∷ bytes) = or_plain (byte ∷ bytes) (packed_cause (byte ∷ bytes))

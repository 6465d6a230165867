-- What an error of `clap` answers.
use Rattle.std.specs.Prelude.{◌≡◌, ◌⊎◌}
use Rattle.clap.specs.declared.error.kind.ErrorKind.{ErrorKind}
use Rattle.clap.specs.declared.error.kind.ErrorKind.TheVariants as refusal

-- it is the answer to who asked for help or a version
abbrev pub IsHelpKind : ErrorKind → Type 0
IsHelpKind found = (found ≡ refusal.DisplayHelp) ⊎ (found ≡ refusal.DisplayVersion)

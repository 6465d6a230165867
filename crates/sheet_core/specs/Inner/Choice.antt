-- Definitions that private contracts alone use, beside those of `Choice`.
use Rattle.std.specs.Prelude.{ℕ, nat_le, ◌&&◌, Bool}
use Rattle.shape_core.specs.declared.words.Kind.{Kind}
use Rattle.shape_dict.specs.Contents.{is_of}
use Rattle.shape_dict.specs.declared.entries.Entry.{Entry}

-- whether it is of the kind and was there at least this often
abbrev pub qualifies : Kind → ℕ → Entry → Bool
qualifies kind least entry = is_of kind entry && nat_le least entry.there

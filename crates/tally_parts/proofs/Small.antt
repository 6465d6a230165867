-- A dictionary whose numbers were all looked at has numbers below 2 ^ 64.
use Rattle.std.proofs.Common.{ℕ, ◌^◌, ◌<◌, length, get_or, Option, Some, None, IfSome, arith}
use Rattle.std.specs.List.{All}
use Rattle.std.proofs.lemmas.List.Sums.{count_by-le-length, length-filter}
use Rattle.shape_core.specs.declared.words.Kind.TheVariants as kind
use Rattle.shape_dict.specs.declared.entries.Entry.{Entry}
use Rattle.shape_dict.specs.Contents.{Contents, IsDictionary, is_of}
use Rattle.shape_dict.specs.Text.{IsSmall}

abbrev pub IsSmallUse : Entry → Type 0
IsSmallUse entry = entry.there < 2 ^ 64

small_first : (first : Option ℕ) (games : ℕ) → games < 2 ^ 64 → IfSome first (λ game. game < games) → IfSome first (λ game. game < 2 ^ 64)
small_first None games few h = tt
small_first (Some first) games few h = omega arith

pub small_contents : (contents : Contents) → contents.games < 2 ^ 64 → contents.moves < 2 ^ 64 → length contents.entries < 2 ^ 64 → IsDictionary contents → All IsSmallUse contents.entries → IsSmall contents
small_contents contents games moves entries is small = record {
  games = games;
  moves = moves;
  squares = omega (arith, length-filter (is_of kind.Square) contents.entries, count_by-le-length (is_of kind.Square) contents.entries);
  diamonds = omega (arith, length-filter (is_of kind.Diamond) contents.entries, count_by-le-length (is_of kind.Diamond) contents.entries);
  each = λ n d lt.
      let entry = is.each n d lt in
      (small n d lt, omega (arith, small n d lt, entry.played), small_first (get_or contents.entries n d).first contents.games games entry.first);
}

use Rattle.std.proofs.Common.{◌≡◌, ◌<◌, ◌^◌, take, Bool, Some, None}
use Rattle.std.specs.List.{AllByRecursion, sum_by}
use Rattle.shape_dict.specs.Reading.{counts_of}
use Rattle.merge_core.proofs.surveying.totals_of.Given as goal

abbrev pub invariant-loop-header : goal.invariant-loop-header
invariant-loop-header l = record {
  games : l.games ≡ sum_by (λ header. header.games) (take l.header-index l.headers);
  moves : l.moves ≡ sum_by (λ header. header.moves) (take l.header-index l.headers);
  none : l.counts_diamonds ≡ None → l.header-index ≡ 0;
  some : (kind : Bool) → l.counts_diamonds ≡ Some kind → 0 < l.header-index;
  few_games : l.games < 2 ^ 64;
  few_moves : l.moves < 2 ^ 64;
  kinds : (kind : Bool) → l.counts_diamonds ≡ Some kind → AllByRecursion (λ header. counts_of header ≡ kind) (take l.header-index l.headers);
}

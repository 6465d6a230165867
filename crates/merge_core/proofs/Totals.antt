-- How often all patterns of a join were there.
use Rattle.std.proofs.Common.{◌≡◌, ℕ, ◌+◌, ◌≤◌, ◌<◌, ◌^◌, inl, inr, List, [], ◌∷◌, ◌++◌, map, ap, refl, ◌∙◌, arith}
use Rattle.std.specs.List.{AllByRecursion}
use Rattle.shape_dict.specs.declared.entries.Entry.{Entry}
use Rattle.shape_dict.specs.Merging.{moved_entry}
use Rattle.shape_dict.specs.Inner.Merging.{placed, merged}
use Rattle.shape_dict.proofs.Merging.{placed_left, placed_right, placed_both, three_ways}
use Rattle.merge_core.specs.Entries.{IsSmallUse}
use Rattle.merge_core.specs.Inner.Folds.{there_in}

there_moved : (games : ℕ) (r : List Entry) → there_in (map (moved_entry games) r) ≡ there_in r
there_moved games [] = refl
there_moved games (f ∷ r) = let more = there_moved games r in omega arith

there_placed : (games : ℕ) (e : Entry) (l : List Entry) (rest : List Entry → List Entry) (above : (s : List Entry) → there_in (rest s) ≡ there_in l + there_in s) (r : List Entry) → there_in (placed games e rest r) ≡ there_in (e ∷ l) + there_in r
there_placed games e l rest above [] = let more = above [] in omega arith
there_placed games e l rest above (f ∷ r) = elim (three_ways e.shape f.shape) [
  | inl below ↦ ap there_in (placed_left games e f rest r below) ∙ (let more = above (f ∷ r) in omega arith)
  | inr (inl after) ↦ ap there_in (placed_right games e f rest r after) ∙ (let more = there_placed games e l rest above r in omega arith)
  | inr (inr both) ↦ ap there_in (placed_both games e f rest r both) ∙ (let more = above r in omega arith)
]

pub there_merged : (games : ℕ) (l r : List Entry) → there_in (merged games l r) ≡ there_in l + there_in r
there_merged games [] r = let more = there_moved games r in omega arith
there_merged games (e ∷ l) r = there_placed games e l (merged games l) (there_merged games l) r

pub small_by_total : (es : List Entry) → AllByRecursion (λ (e : Entry). e.played ≤ e.there) es → there_in es < 2 ^ 64 → AllByRecursion IsSmallUse es
small_by_total [] h few = tt
small_by_total (e ∷ es) h few = (let a = h.0 in ((omega arith, omega arith), small_by_total es h.1 (omega arith)))

pub there_more : (es : List Entry) (e : Entry) → there_in (es ++ e ∷ []) ≡ there_in es + e.there
there_more [] e = omega arith
there_more (d ∷ es) e = let more = there_more es e in omega arith

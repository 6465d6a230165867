-- The join of two dictionaries is a dictionary, by what is known of the join of their entries.
use Rattle.std.proofs.Common.{◌≡◌, ℕ, ◌+◌, ◌<◌, ◌≤◌, ◌^◌, ◌⊎◌, inl, inr, List, [], ◌∷◌, ◌++◌, length, map, filter, get_or, drop, sym, refl, ap, ◌∙◌, arith, Option, Some, None, IfSome, Bool, cond, eqb, true, false, ltb, not, All}
use Rattle.std.specs.List.{AllByRecursion}
use Rattle.std.specs.Option.{option_map}
use Rattle.std.proofs.lemmas.List.Elements.{All-from_recursion, recursion_from_All}
use Rattle.std.proofs.lemmas.List.Sums.{sum_by-cons}
use Rattle.std.proofs.lemmas.List.{drop_more, drop_all, append-nil}
use Rattle.shape_dict.specs.declared.entries.Entry.{Entry}
use Rattle.shape_dict.specs.Contents.{Contents, entry_of, diamonds_of, played_in, IsEntry, IsDictionary, HasTotals}
use Rattle.shape_dict.specs.Join.{joined_entry, IsJoin, IsOverflow}
use Rattle.shape_dict.specs.Merging.{moved_entry, summed_entry}
use Rattle.shape_dict.specs.Inner.Merging.{placed, merged}
use Rattle.shape_dict.proofs.Climbing.{climbs_from_rises, rises_from_climbs}
use Rattle.shape_dict.proofs.Merging.{placed_left, placed_right, placed_both, three_ways, merged_nil, climbs_merged, each_merged, found_merged}

-- one step of the join
opened : (es : List Entry) (i : ℕ) (e : Entry) → i < length es → e ≡ get_or es i e → drop i es ≡ e ∷ drop (i + 1) es
opened es i e small is = drop_more es i e small ∙ ap (λ x. x ∷ drop (i + 1) es) (sym is)

pub join_both : (games : ℕ) (l r : List Entry) (i j : ℕ) (e f : Entry) → i < length l → j < length r → e ≡ get_or l i e → f ≡ get_or r j f → e.shape ≡ f.shape → merged games (drop i l) (drop j r) ≡ summed_entry e f ∷ merged games (drop (i + 1) l) (drop (j + 1) r)
join_both games l r i j e f low high at_i at_j h =
    ap (λ x. merged games x (drop j r)) (opened l i e low at_i) ∙ (ap (merged games (e ∷ drop (i + 1) l)) (opened r j f high at_j)
    ∙ placed_both games e f (merged games (drop (i + 1) l)) (drop (j + 1) r) h)

-- where one list is at its end
pub join_end : (games : ℕ) (l r : List Entry) (i j : ℕ) → (length l ≤ i) ⊎ (length r ≤ j) → merged games (drop i l) (drop j r) ≡ drop i l ++ map (moved_entry games) (drop j r)
join_end games l r i j (inl h) = rw (drop_all i l h) refl
join_end games l r i j (inr h) = rw (drop_all j r h) (merged_nil games (drop i l) ∙ sym (append-nil (drop i l)))

-- the plays of the entries whose shapes pass
total : (ℕ → Bool) → List Entry → ℕ
total q es = played_in (filter (λ e. q e.shape) es)

share : (ℕ → Bool) → Entry → ℕ
share q e = cond (q e.shape) e.played 0

total_by : (b : Bool) (e : Entry) (es : List Entry) → played_in (cond b (e ∷ es) es) ≡ cond b e.played 0 + played_in es
total_by true e es = sum_by-cons (λ (x : Entry). x.played) e es
total_by false e es = omega arith

total-cons : (q : ℕ → Bool) (e : Entry) (es : List Entry) → total q (e ∷ es) ≡ share q e + total q es
unfolding total share
total-cons q e es = total_by (q e.shape) e (filter (λ x. q x.shape) es)

share_by : (a b : Bool) (m n : ℕ) → a ≡ b → cond a (m + n) 0 ≡ cond a m 0 + cond b n 0
share_by a true m n h = rw h refl
share_by a false m n h = rw h (omega arith)

share_moved : (q : ℕ → Bool) (games : ℕ) (f : Entry) → share q (moved_entry games f) ≡ share q f
unfolding share
share_moved q games f = refl

refl_total : (q : ℕ → Bool) → total q [] ≡ 0
unfolding total
refl_total q = refl

share_summed : (q : ℕ → Bool) (e f : Entry) → e.shape ≡ f.shape → share q (summed_entry e f) ≡ share q e + share q f
unfolding share
share_summed q e f same = share_by (q e.shape) (q f.shape) e.played f.played (ap q same)

total_moved : (q : ℕ → Bool) (games : ℕ) (r : List Entry) → total q (map (moved_entry games) r) ≡ total q r
total_moved q games [] = refl
total_moved q games (f ∷ r) =
    let here = total-cons q (moved_entry games f) (map (moved_entry games) r) in
    let there = total-cons q f r in
    let more = total_moved q games r in
    let same = share_moved q games f in
    omega arith

total_placed : (q : ℕ → Bool) (games : ℕ) (e : Entry) (l : List Entry) (rest : List Entry → List Entry) (above : (s : List Entry) → total q (rest s) ≡ total q l + total q s) (r : List Entry) → total q (placed games e rest r) ≡ total q (e ∷ l) + total q r
total_placed q games e l rest above [] =
    let here = total-cons q e (rest []) in let there = total-cons q e l in let more = above [] in omega arith
total_placed q games e l rest above (f ∷ r) = elim (three_ways e.shape f.shape) [
  | inl below ↦ ap (total q) (placed_left games e f rest r below) ∙
      (let here = total-cons q e (rest (f ∷ r)) in let there = total-cons q e l in let more = above (f ∷ r) in omega arith)
  | inr (inl after) ↦ ap (total q) (placed_right games e f rest r after) ∙
      (let here = total-cons q (moved_entry games f) (placed games e rest r) in let there = total-cons q f r in let more = total_placed q games e l rest above r in let same = share_moved q games f in omega arith)
  | inr (inr both) ↦ ap (total q) (placed_both games e f rest r both) ∙
      (let here = total-cons q (summed_entry e f) (rest r) in let there = total-cons q e l in let also = total-cons q f r in let more = above r in let sum = share_summed q e f both in omega arith)
]

total_merged : (q : ℕ → Bool) (games : ℕ) (l r : List Entry) → total q (merged games l r) ≡ total q l + total q r
total_merged q games [] r = let none = refl_total q in let more = total_moved q games r in omega arith
total_merged q games (e ∷ l) r = total_placed q games e l (merged games l) (total_merged q games l) r

-- no entry passes
cons_not_nil : (e : Entry) (es : List Entry) → e ∷ es ≡ [] → ⊥
cons_not_nil e es h = cc

none_from_filter : (q : ℕ → Bool) (es : List Entry) → filter (λ e. q e.shape) es ≡ [] → AllByRecursion (λ e. q e.shape ≡ false) es
none_from_filter q [] h = tt
none_from_filter q (e ∷ es) h = elim (q e.shape) as (λ b. q e.shape ≡ b → (q e.shape ≡ false) × AllByRecursion (λ x. q x.shape ≡ false) es) [ true ↦ (λ is. absurd (cons_not_nil e (filter (λ x. q x.shape) es) (sym (ap (λ b. cond b (e ∷ filter (λ x. q x.shape) es) (filter (λ x. q x.shape) es)) is) ∙ h))) | false ↦ (λ is. (is, none_from_filter q es (sym (ap (λ b. cond b (e ∷ filter (λ x. q x.shape) es) (filter (λ x. q x.shape) es)) is) ∙ h))) ] refl

filter_from_none : (q : ℕ → Bool) (es : List Entry) → AllByRecursion (λ e. q e.shape ≡ false) es → filter (λ e. q e.shape) es ≡ []
filter_from_none q [] h = refl
filter_from_none q (e ∷ es) h = ap (λ b. cond b (e ∷ filter (λ x. q x.shape) es) (filter (λ x. q x.shape) es)) h.0 ∙ filter_from_none q es h.1

-- entries of the join
first_kept : (games more : ℕ) (first : Option ℕ) → IfSome first (λ game. game < games) → IfSome first (λ game. game < games + more)
first_kept games more None h = tt
first_kept games more (Some game) h = omega arith

first_moved : (games more : ℕ) (first : Option ℕ) → IfSome first (λ game. game < more) → IfSome (option_map (λ game. game + games) first) (λ game. game < games + more)
first_moved games more None h = tt
first_moved games more (Some game) h = omega arith

entry_kept : (games more : ℕ) (e : Entry) → IsEntry games e → IsEntry (games + more) e
entry_kept games more e h = record { word = h.word; canonical = h.canonical; there = h.there; played = h.played; first = first_kept games more e.first h.first }

entry_moved : (games more : ℕ) (f : Entry) → IsEntry more f → IsEntry (games + more) (moved_entry games f)
entry_moved games more f h = record { word = h.word; canonical = h.canonical; there = h.there; played = h.played; first = first_moved games more f.first h.first }

entry_summed : (games more : ℕ) (e f : Entry) → IsEntry games e → IsEntry more f → IsEntry (games + more) (summed_entry e f)
entry_summed games more e f h k = record { word = h.word; canonical = h.canonical; there = (let a = h.there in omega arith); played = (let a = h.played in let b = k.played in omega arith); first = first_kept games more e.first h.first }

pub each_of : (left right : Contents) → IsDictionary left → IsDictionary right → All (IsEntry (left.games + right.games)) (merged left.games left.entries right.entries)
each_of left right h k =
    All-from_recursion (IsEntry (left.games + right.games)) (merged left.games left.entries right.entries)
    (each_merged left.games (IsEntry left.games) (IsEntry right.games) (IsEntry (left.games + right.games)) (entry_kept left.games right.games) (entry_moved left.games right.games) (entry_summed left.games right.games) left.entries right.entries (recursion_from_All (IsEntry left.games) left.entries h.each) (recursion_from_All (IsEntry right.games) right.entries k.each))

pub totals_of : (left right : Contents) → IsDictionary left → IsDictionary right → left.counts_diamonds ≡ right.counts_diamonds → HasTotals (left.games + right.games) (left.moves + right.moves) (merged left.games left.entries right.entries) left.counts_diamonds
unfolding total
totals_of left right h k kinds = record {
  squares = total_merged (λ s. ltb s (2 ^ 50)) left.games left.entries right.entries ∙ (let a = h.totals.squares in let b = k.totals.squares in omega arith);
  diamonds = λ counted. total_merged (λ s. not (ltb s (2 ^ 50))) left.games left.entries right.entries ∙ (let a = h.totals.diamonds counted in let b = k.totals.diamonds (sym kinds ∙ counted) in omega arith);
  no_games = λ none. let a = h.totals.no_games (omega arith) in let b = k.totals.no_games (omega arith) in omega arith;
}

pub uncounted_of : (left right : Contents) → IsDictionary left → IsDictionary right → left.counts_diamonds ≡ right.counts_diamonds → left.counts_diamonds ≡ false → diamonds_of (merged left.games left.entries right.entries) ≡ []
uncounted_of left right h k kinds uncounted =
    let q : ℕ → Bool = λ s. not (ltb s (2 ^ 50)) in
    filter_from_none q (merged left.games left.entries right.entries)
    (each_merged left.games (λ e. q e.shape ≡ false) (λ e. q e.shape ≡ false) (λ e. q e.shape ≡ false) (λ e p. p) (λ f p. p) (λ e f p s. p) left.entries right.entries (none_from_filter q left.entries (h.uncounted uncounted)) (none_from_filter q right.entries (k.uncounted (sym kinds ∙ uncounted))))

pub dictionary_of : (left right : Contents) → IsDictionary left → IsDictionary right → left.counts_diamonds ≡ right.counts_diamonds → IsDictionary (record { games = left.games + right.games; moves = left.moves + right.moves; entries = merged left.games left.entries right.entries; counts_diamonds = left.counts_diamonds })
dictionary_of left right h k kinds = record {
  rises = rises_from_climbs 0 (merged left.games left.entries right.entries) (climbs_merged 0 left.games left.entries right.entries (climbs_from_rises left.entries h.rises) (climbs_from_rises right.entries k.rises));
  each = each_of left right h k;
  totals = totals_of left right h k kinds;
  uncounted = uncounted_of left right h k kinds;
}

pub join_of : (left right : Contents) → IsDictionary left → IsDictionary right → left.counts_diamonds ≡ right.counts_diamonds → IsJoin left right (record { games = left.games + right.games; moves = left.moves + right.moves; entries = merged left.games left.entries right.entries; counts_diamonds = left.counts_diamonds })
join_of left right h k kinds = record {
  dictionary = dictionary_of left right h k kinds;
  same_kinds = kinds;
  games = refl;
  moves = refl;
  kinds = refl;
  entries = λ shape. found_merged shape 0 0 left.games left.entries right.entries (climbs_from_rises left.entries h.rises) (climbs_from_rises right.entries k.rises);
}

-- an entry of a list whose counts are small has a small count
small_found : (shape : ℕ) (es : List Entry) (e : Entry) → AllByRecursion (λ e. e.there < 2 ^ 64) es → entry_of shape es ≡ Some e → e.there < 2 ^ 64
small_found shape [] e h is = absurd cc
small_found shape (f ∷ es) e h is = elim (eqb f.shape shape) as (λ b. cond b (Some f) (entry_of shape es) ≡ Some e → e.there < 2 ^ 64)
    [ true ↦ (λ same. let one : f ≡ e = cc in rw (sym one) h.0) | false ↦ (λ same. small_found shape es e h.1 same) ] is

pub fits_of : (left right : Contents) → IsDictionary left → IsDictionary right → left.games + right.games < 2 ^ 64 → left.moves + right.moves < 2 ^ 64 → All (λ e. e.there < 2 ^ 64) (merged left.games left.entries right.entries) → IsOverflow left right → ⊥
fits_of left right h k games moves small (inl large) = omega arith
fits_of left right h k games moves small (inr (inl large)) = omega arith
fits_of left right h k games moves small (inr (inr large)) =
    let found = found_merged large.shape 0 0 left.games left.entries right.entries (climbs_from_rises left.entries h.rises) (climbs_from_rises right.entries k.rises) in
    let sum : joined_entry left.games (entry_of large.shape left.entries) (entry_of large.shape right.entries) ≡ Some (summed_entry large.of_left large.of_right) = rw (large.in_left, large.in_right) refl in
    let fits : large.of_left.there + large.of_right.there < 2 ^ 64 = small_found large.shape (merged left.games left.entries right.entries) (summed_entry large.of_left large.of_right) (recursion_from_All (λ e. e.there < 2 ^ 64) (merged left.games left.entries right.entries) small) (found ∙ sum) in
    let over = large.large in
    omega arith

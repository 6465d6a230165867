-- What stays of entries, and of a dictionary, which is one again.
use Rattle.std.proofs.Common.{◌≡◌, ℕ, suc, ◌≤◌, List, [], ◌∷◌, ◌++◌, Bool, true, false, not, ◌&&◌, cond, Option, Some, None, ap, refl, ◌∙◌, arith}
use Rattle.std.specs.Prelude.{nat_le}
use Rattle.std.proofs.lemmas.List.Elements.{filter-append, All-filter}
use Rattle.std.proofs.lemmas.List.Sums.{sum_by-cons}
use Rattle.shape_dict.specs.declared.entries.Entry.{Entry}
use Rattle.shape_dict.specs.Contents.{Contents, IsDictionary, IsEntry, is_square, squares_of, diamonds_of, played_in}
use Rattle.shape_dict.specs.Inner.Merging.{Climbs}
use Rattle.shape_dict.proofs.Climbing.{climbs_from_rises, climbs_lower, rises_from_climbs}
use Rattle.shape_dict.proofs.Read.{all_squares}
use Rattle.merge_core.specs.Least.{is_kept, kept, kept_of}

pub kept_append : (least : Option ℕ) (xs ys : List Entry) → kept least (xs ++ ys) ≡ kept least xs ++ kept least ys
kept_append least xs ys = filter-append (is_kept least) xs ys

pub all_kept : (es : List Entry) → kept None es ≡ es
all_kept [] = refl
all_kept (e ∷ es) = ap (λ (xs : List Entry). e ∷ xs) (all_kept es)

pub kept_one : (least : Option ℕ) (e : Entry) → is_kept least e ≡ true → kept least (e ∷ []) ≡ e ∷ []
kept_one least e is = ap (λ (b : Bool). cond b (e ∷ []) []) is

pub kept_no_one : (least : Option ℕ) (e : Entry) → is_kept least e ≡ false → kept least (e ∷ []) ≡ []
kept_no_one least e is = ap (λ (b : Bool). cond b (e ∷ []) []) is

-- they are squares
squares_by : (a b : Bool) (e : Entry) (es : List Entry) → is_square e ≡ a → diamonds_of es ≡ [] → diamonds_of (cond (a && b) (e ∷ es) es) ≡ []
squares_by true true e es is h = ap (λ (x : Bool). cond (not x) (e ∷ diamonds_of es) (diamonds_of es)) is ∙ h
squares_by true false e es is h = h
squares_by false b e es is h = h

pub no_diamonds : (least : ℕ) (es : List Entry) → diamonds_of (kept (Some least) es) ≡ []
no_diamonds least [] = refl
no_diamonds least (e ∷ es) = squares_by (is_square e) (nat_le least e.there) e (kept (Some least) es) refl (no_diamonds least es)

pub only_squares : (least : ℕ) (es : List Entry) → squares_of (kept (Some least) es) ≡ kept (Some least) es
only_squares least es = all_squares (kept (Some least) es) (no_diamonds least es)

-- their words rise
climbs_by : (b : Bool) (low : ℕ) (e : Entry) (es : List Entry) → low ≤ e.shape → Climbs (suc e.shape) es → Climbs low (cond b (e ∷ es) es)
climbs_by true low e es above h = (above, h)
climbs_by false low e es above h = climbs_lower low (suc e.shape) es (omega (arith, above)) h

kept_climbs : (least : Option ℕ) (low : ℕ) (es : List Entry) → Climbs low es → Climbs low (kept least es)
kept_climbs least low [] h = tt
kept_climbs least low (e ∷ es) h = climbs_by (is_kept least e) low e (kept least es) h.0 (kept_climbs least (suc e.shape) es h.1)

-- they were played no oftener than all squares
plays_by : (a b : Bool) (e : Entry) (es fs : List Entry) → played_in es ≤ played_in fs → played_in (cond (a && b) (e ∷ es) es) ≤ played_in (cond a (e ∷ fs) fs)
plays_by true true e es fs h = omega (arith, h, sum_by-cons (λ (x : Entry). x.played) e es, sum_by-cons (λ (x : Entry). x.played) e fs)
plays_by true false e es fs h = omega (arith, h, sum_by-cons (λ (x : Entry). x.played) e fs)
plays_by false b e es fs h = h

kept_plays : (least : ℕ) (es : List Entry) → played_in (kept (Some least) es) ≤ played_in (squares_of es)
kept_plays least [] = omega arith
kept_plays least (e ∷ es) = plays_by (is_square e) (nat_le least e.there) e (kept (Some least) es) (squares_of es) (kept_plays least es)

not_both : {A : Type 0} → false ≡ true → A
not_both {A} h = absurd (cc)

pub kept_dictionary : (least : Option ℕ) (d : Contents) → IsDictionary d → IsDictionary (kept_of least d)
kept_dictionary None d is = is
kept_dictionary (Some least) d is = record {
  rises = rises_from_climbs 0 (kept (Some least) d.entries) (kept_climbs (Some least) 0 d.entries (climbs_from_rises d.entries is.rises));
  each = All-filter (is_kept (Some least)) (IsEntry d.games) d.entries is.each;
  totals = record {
    squares = ap played_in (only_squares least d.entries);
    diamonds = λ counted. not_both counted;
    no_games = λ none. omega (arith, kept_plays least d.entries, is.totals.squares, is.totals.no_games none);
  };
  uncounted = λ counted. no_diamonds least d.entries;
}

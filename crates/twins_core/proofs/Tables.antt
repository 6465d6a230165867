-- What a table finds after an entry more.
use Rattle.std.proofs.Common.{◌≡◌, ◌≢◌, ℕ, Bool, true, false, cond, map, Option, Some, None, option_map, Vec, List, [], ◌∷◌, ◌++◌, refl, ap, sym, subst, ◌∙◌}
use Rattle.std.specs.BTreeMap.{BTreeMap, insert_entry}
use Rattle.std.specs.Cmp.Lexicographic.{slice_cmp}
use Rattle.std.specs.Ordering.{is_eq, nat_cmp, match_ordering}
use Rattle.std.specs.declared.cmp.Ordering.{Ordering}
use Rattle.std.specs.declared.cmp.Ordering.TheVariants as order
use Rattle.std.proofs.lemmas.Map.Text.{is_eq-slice_cmp}
use Rattle.std.proofs.lemmas.Map.Lookups.{exact_bytes}
use Rattle.std.specs.Str.{bytes_eq}
use Rattle.std.specs.Map.{lookup}
use Rattle.std.proofs.lemmas.Bool.{false_from_ne_true, true≢false}
use Rattle.std.proofs.lemmas.List.{append-nil}
use Rattle.std.proofs.lemmas.Slice.Eq.{bytes_eq-Decides}
use Rattle.go_record.specs.Actions.{Actions}
use Rattle.twins_core.specs.declared.seats.Place.{Place}
use Rattle.twins_core.specs.declared.seats.Seat.{Seat}
use Rattle.twins_core.specs.Twins.{Met, Kept, IsFirst, Knows, kept_of, met_there, found_in, line_text}
use Rattle.twins_core.specs.Codes.{record_code}
use Rattle.twins_core.specs.Inner.Finds.{kept_by, kept_in}
use Rattle.twins_core.specs.Inner.Meets.{Meets}
use Rattle.twins_core.specs.Inner.Seats.{met_at, met_in}
use Rattle.twins_core.proofs.SameCodes.{same_record}
use Rattle.twins_core.proofs.Firsts.{first_new, first_known, first_other}

-- whether a key has these bytes
abbrev pub is_key : {A : Type 0} → List ℕ → Vec ℕ A → Bool
is_key bytes key = is_eq (slice_cmp nat_cmp bytes key.items)

-- the game that a table finds of a record
abbrev pub seen_in : {A : Type 0} → BTreeMap (Vec ℕ A) Seat → Actions → Option Met
seen_in table game = option_map (met_in game) (lookup (is_key (record_code game)) table.entries)

entries_find : {A : Type 0} (game : Actions) (entries : List (Vec ℕ A × Seat)) →
    option_map (met_there game) (kept_of (map kept_by entries) (record_code game)) ≡ option_map (met_in game) (lookup (is_key (record_code game)) entries)
entries_find game [] = refl
entries_find game (entry ∷ entries) =
    by_code (bytes_eq (record_code game) entry.0.items) (entries_find game entries)
    ∙ ap (λ b. option_map (met_in game) (cond b (Some entry.1) (lookup (is_key (record_code game)) entries))) (sym (is_eq-slice_cmp (record_code game) entry.0.items))
  where
    rest : Option Kept
    rest = kept_of (map kept_by entries) (record_code game)

    others : Option Seat
    others = lookup (is_key (record_code game)) entries

    by_code : (b : Bool) → option_map (met_there game) rest ≡ option_map (met_in game) others →
        option_map (met_there game) (cond b (Some (kept_by entry)) rest) ≡ option_map (met_in game) (cond b (Some entry.1) others)
    by_code true e = refl
    by_code false e = e

table_finds : {A : Type 0} (table : BTreeMap (Vec ℕ A) Seat) (game : Actions) → found_in (kept_in table) game ≡ seen_in table game
table_finds table game = entries_find game table.entries

-- whether a key has other bytes
other_key : {A : Type 0} (bytes : List ℕ) (key : Vec ℕ A) → key.items ≢ bytes → is_key bytes key ≡ false
other_key bytes key other =
    is_eq-slice_cmp bytes key.items ∙ false_from_ne_true (bytes_eq bytes key.items) (λ same. other (sym ((bytes_eq-Decides bytes key.items).0 same)))

-- the order of keys
abbrev pub key_cmp : {A : Type 0} → Vec ℕ A → Vec ℕ A → Ordering
key_cmp x y = slice_cmp nat_cmp x.items y.items

-- what other bytes find stays
found_apart : {A : Type 0} (entries : List (Vec ℕ A × Seat)) (key : Vec ℕ A) (seat : Seat) (bytes : List ℕ) → key.items ≢ bytes →
    lookup (is_key bytes) (insert_entry key_cmp entries key seat) ≡ lookup (is_key bytes) entries
found_apart [] key seat bytes other = ap (λ b. cond b (Some seat) None) (other_key bytes key other)
found_apart {A} (entry ∷ entries) key seat bytes other = by_order (key_cmp key entry.0) refl (found_apart entries key seat bytes other)
  where
    rest : Option Seat
    rest = lookup (is_key bytes) entries

    by_order : (o : Ordering) → key_cmp key entry.0 ≡ o → lookup (is_key bytes) (insert_entry key_cmp entries key seat) ≡ rest →
        lookup (is_key bytes) (match_ordering o ((key, seat) ∷ entry ∷ entries) ((entry.0, seat) ∷ entries) (entry ∷ insert_entry key_cmp entries key seat))
        ≡ cond (is_key bytes entry.0) (Some entry.1) rest
    by_order order.Less e later = ap (λ b. cond b (Some seat) (cond (is_key bytes entry.0) (Some entry.1) rest)) (other_key bytes key other)
    by_order order.Equal e later =
        let same = exact_bytes key.items entry.0.items e in
        let no = other_key bytes entry.0 (λ s. other (same ∙ s)) in
        ap (λ b. cond b (Some seat) rest) no ∙ sym (ap (λ b. cond b (Some entry.1) rest) no)
    by_order order.Greater e later = ap (λ r. cond (is_key bytes entry.0) (Some entry.1) r) later

apart : (game other : Actions) → bytes_eq (record_code game) (record_code other) ≡ false → record_code game ≢ record_code other
apart game other e same = true≢false (sym ((bytes_eq-Decides (record_code game) (record_code other)).1 same) ∙ e)

-- a game is met whose record none before it has
pub meets_new : {A : Type 0} (table after : BTreeMap (Vec ℕ A) Seat) (key : Vec ℕ A) (seat : Seat) (before : List Met) (game : Actions) (place : Place)
    (name : Option (List ℕ)) (text : List ℕ) → key.items ≡ record_code game → met_in game seat ≡ met_at game place name →
    lookup (is_key (record_code game)) table.entries ≡ None →
    lookup (is_key key.items) after.entries ≡ Some seat → after.entries ≡ insert_entry key_cmp table.entries key seat →
    Knows (kept_in table) before → Meets (kept_in after) before (met_at game place name) text text
meets_new table after key seat before game place name text is_code is_seat none now entries known = record {
  found = None;
  first = first;
  printed = sym (append-nil text);
  known = λ other. subst (IsFirst (before ++ met ∷ []) other) (sym (table_finds after other)) (by_code other (bytes_eq (record_code game) (record_code other)) refl);
}
  where
    met : Met
    met = met_at game place name

    first : IsFirst before game None
    first = subst (IsFirst before game) (table_finds table game ∙ ap (option_map (met_in game)) none) (known game)

    here : lookup (is_key (record_code game)) after.entries ≡ Some seat
    here = subst (λ b. lookup (is_key b) after.entries ≡ Some seat) is_code now

    found : seen_in after game ≡ Some met
    found = ap (option_map (met_in game)) here ∙ ap (λ m. Some m) is_seat

    by_code : (other : Actions) (b : Bool) → bytes_eq (record_code game) (record_code other) ≡ b → IsFirst (before ++ met ∷ []) other (seen_in after other)
    by_code other true e =
        let same = same_record game other ((bytes_eq-Decides (record_code game) (record_code other)).0 e) in
        subst (λ g. IsFirst (before ++ met ∷ []) g (seen_in after g)) same (subst (IsFirst (before ++ met ∷ []) game) (sym found) (first_new before game met first refl))
    by_code other false e =
        let ne = apart game other e in
        let stays = ap (lookup (is_key (record_code other))) entries ∙ found_apart table.entries key seat (record_code other) (λ s. ne (sym is_code ∙ s)) in
        subst (IsFirst (before ++ met ∷ []) other) (sym (ap (option_map (met_in other)) stays))
        (first_other before other met (seen_in table other) (subst (IsFirst before other) (table_finds table other) (known other)) (λ s. ne (ap record_code s)))

-- a game is met whose record one before it has
pub meets_known : {A : Type 0} (table : BTreeMap (Vec ℕ A) Seat) (seat : Seat) (before : List Met) (game : Actions) (place : Place)
    (name : Option (List ℕ)) (text new : List ℕ) → lookup (is_key (record_code game)) table.entries ≡ Some seat →
    Knows (kept_in table) before → new ≡ text ++ line_text (met_at game place name) (met_in game seat) →
    Meets (kept_in table) before (met_at game place name) text new
meets_known table seat before game place name text new here known printed = record {
  found = Some (met_in game seat);
  first = first;
  printed = printed;
  known = λ other. subst (IsFirst (before ++ met ∷ []) other) (sym (table_finds table other)) (by_code other (bytes_eq (record_code game) (record_code other)) refl);
}
  where
    met : Met
    met = met_at game place name

    found : seen_in table game ≡ Some (met_in game seat)
    found = ap (option_map (met_in game)) here

    first : IsFirst before game (Some (met_in game seat))
    first = subst (IsFirst before game) (table_finds table game ∙ found) (known game)

    by_code : (other : Actions) (b : Bool) → bytes_eq (record_code game) (record_code other) ≡ b → IsFirst (before ++ met ∷ []) other (seen_in table other)
    by_code other true e =
        let same = same_record game other ((bytes_eq-Decides (record_code game) (record_code other)).0 e) in
        subst (λ g. IsFirst (before ++ met ∷ []) g (seen_in table g)) same
        (subst (IsFirst (before ++ met ∷ []) game) (sym found) (first_known before game met (met_in game seat) first))
    by_code other false e =
        first_other before other met (seen_in table other) (subst (IsFirst before other) (table_finds table other) (known other)) (λ s. apart game other e (ap record_code s))

-- nothing is known of no game
pub knows_none : {A : Type 0} (table : BTreeMap (Vec ℕ A) Seat) → table.entries ≡ [] → Knows (kept_in table) []
knows_none table none game = ap (λ entries. option_map (met_there game) (kept_of (map kept_by entries) (record_code game))) none

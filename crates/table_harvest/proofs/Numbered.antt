-- Each pattern of the dictionary of shares has a number where their rows stand in a table.
use Rattle.std.proofs.Common.{◌≡◌, ℕ, ◌<◌, ◌≤◌, ◌||◌, nat_lt, eqb, true, false, cond, List, [], ◌∷◌, length, get_or, Some, None, refl, sym, subst, ◌∙◌, arith, Contains}
use Rattle.std.specs.List.{AllByRecursion, AllZip, IsDistinct, list_any}
use Rattle.std.specs.List.Sorted.{IsStrictlyIncreasing}
use Rattle.std.proofs.lemmas.Bool.{eqb-true, ne_eqb}
use Rattle.std.proofs.lemmas.Bool.Decides.{nat_tests}
use Rattle.std.proofs.lemmas.List.{length-map}
use Rattle.std.proofs.lemmas.List.Elements.{recursion_from_All, All-weaker, All-contains_itself, length_all_zip, AllZip-get_or}
use Rattle.std.proofs.lemmas.List.Kept.{AllPairs-from_increasing}
use Rattle.std.proofs.lemmas.Map.Keys.{IsDistinct-from_apart}
use Rattle.std.proofs.lemmas.Map.Steps.{length-le_from_distinct_below}
use Rattle.shape_core.specs.declared.words.Kinds.{Kinds}
use Rattle.shape_dict.specs.declared.entries.Entry.{Entry}
use Rattle.shape_dict.specs.Contents.{Contents}
use Rattle.tally_core.specs.Inner.Entries.{shapes_of}
use Rattle.probe_core.specs.Sequential.{Table, IsNumber}
use Rattle.slot_table.specs.declared.entries.Happened.{Happened}
use Rattle.slot_table.specs.History.{content_of}
use Rattle.slot_table.proofs.Contents.{number_below, one_key}
use Rattle.gather_core.specs.declared.rows.Row.{Row}
use Rattle.gather_core.specs.Rows.{there_of, played_of, first_of}
use Rattle.gather_core.specs.Gathering.{all_rows, IsGathered, gathered_entry}
use Rattle.table_shares.specs.Checking.{Stand}
use Rattle.gather_core.specs.Shares.{Held}
use Rattle.table_shares.proofs.Ordered.{there_some}
use Rattle.tally_core.proofs.RisingEntries.{entry_found}

gathered_some : (rows : List Row) (shape : ℕ) (entry : Entry) → gathered_entry rows shape ≡ Some entry → 0 < there_of rows shape
gathered_some rows shape entry is =
    let e : Entry = record { shape = shape; there = there_of rows shape; played = played_of rows shape; first = first_of rows shape } in
    elim (nat_lt 0 (there_of rows shape)) as (λ b. nat_lt 0 (there_of rows shape) ≡ b → cond b (Some e) None ≡ Some entry → 0 < there_of rows shape) [
      | true ↦ λ test found. Prim.grind (arith, nat_tests)
      | false ↦ λ test found. absurd cc
    ] refl is

-- numbers of these patterns
numbers_for : (table : Table) (shapes : List ℕ) → AllByRecursion (λ shape. (p : ℕ) × IsNumber table shape p) shapes → (numbers : List ℕ) × AllZip (IsNumber table) shapes numbers
numbers_for table [] each = ([], tt)
numbers_for table (shape ∷ shapes) each = let rest = numbers_for table shapes each.1 in (each.0.0 ∷ rest.0, (each.0.1, rest.1))

below_any : (xs : List ℕ) (n q : ℕ) → AllByRecursion (λ x. x < n) xs → list_any (eqb q) xs ≡ true → q < n
below_any [] n q below any = absurd cc
below_any (x ∷ xs) n q below any =
    elim (eqb q x) as (λ b. eqb q x ≡ b → (b || list_any (eqb q) xs) ≡ true → q < n) [
      | true ↦ λ test found. subst (λ k. k < n) (sym (eqb-true q x test)) below.0
      | false ↦ λ test found. below_any xs n q below.1 found
    ] refl any

module _ (n : ℕ) (seen : List Happened) where
  numbers_below : (shapes numbers : List ℕ) → AllZip (IsNumber (content_of n seen)) shapes numbers → AllByRecursion (λ p. p < n) numbers
  numbers_below [] [] each = tt
  numbers_below [] (p ∷ numbers) each = absurd each
  numbers_below (shape ∷ shapes) [] each = absurd each
  numbers_below (shape ∷ shapes) (p ∷ numbers) each = (number_below n seen shape p each.0, numbers_below shapes numbers each.1)

  -- patterns that rise have different numbers
  numbers_apart : (shapes numbers : List ℕ) → IsStrictlyIncreasing shapes → AllZip (IsNumber (content_of n seen)) shapes numbers → IsDistinct eqb numbers
  numbers_apart shapes numbers rises each =
      IsDistinct-from_apart eqb numbers (λ i j d before inside.
      let long = length_all_zip (IsNumber (content_of n seen)) shapes numbers each in
      let one = AllZip-get_or (IsNumber (content_of n seen)) shapes numbers i d d each (omega arith) in
      let other = AllZip-get_or (IsNumber (content_of n seen)) shapes numbers j d d each (omega arith) in
      let less : get_or shapes i d < get_or shapes j d = AllPairs-from_increasing shapes rises i j d before (omega arith) in
      ne_eqb (get_or numbers i d) (get_or numbers j d) (λ same.
      let equal = one_key n seen (get_or shapes i d) (get_or shapes j d) (get_or numbers j d) (subst (λ p. IsNumber (content_of n seen) (get_or shapes i d) p) same one) other in
      omega arith))

  few_numbered : (shapes : List ℕ) → IsStrictlyIncreasing shapes → AllByRecursion (λ shape. (p : ℕ) × IsNumber (content_of n seen) shape p) shapes → length shapes ≤ n
  few_numbered shapes rises each =
      let numbers = numbers_for (content_of n seen) shapes each in
      let long = length_all_zip (IsNumber (content_of n seen)) shapes numbers.0 numbers.1 in
      let few = length-le_from_distinct_below numbers.0 n (numbers_apart shapes numbers.0 rises numbers.1)
      (λ q any. below_any numbers.0 n q (numbers_below shapes numbers.0 numbers.1) any) in
      omega arith

  shapes_numbered : (rest : List Entry) → AllByRecursion (λ (entry : Entry). (p : ℕ) × IsNumber (content_of n seen) entry.shape p) rest →
      AllByRecursion (λ shape. (p : ℕ) × IsNumber (content_of n seen) shape p) (shapes_of rest)
  shapes_numbered [] each = tt
  shapes_numbered (entry ∷ rest) each = (each.0, shapes_numbered rest each.1)

-- where each pattern of a dictionary has a number, it has at most n
pub few_patterns : (n : ℕ) (seen : List Happened) (entries : List Entry) → IsStrictlyIncreasing (shapes_of entries) →
    ((entry : Entry) → Contains entries entry → (p : ℕ) × IsNumber (content_of n seen) entry.shape p) → length entries ≤ n
few_patterns n seen entries rises each =
    let long : length (shapes_of entries) ≡ length entries = length-map entries (λ (entry : Entry). entry.shape) in
    let all = All-weaker (Contains entries) (λ (entry : Entry). (p : ℕ) × IsNumber (content_of n seen) entry.shape p) each entries (All-contains_itself entries) in
    let few = few_numbered n seen (shapes_of entries) rises
    (shapes_numbered n seen entries (recursion_from_All (λ (entry : Entry). (p : ℕ) × IsNumber (content_of n seen) entry.shape p) entries all)) in
    omega arith

-- each pattern of that dictionary has a number, and it has at most n patterns
pub numbered : (n : ℕ) (seen : List Happened) (kinds : Kinds) (games : ℕ) (shares : List Held) (contents : Contents) → Stand n seen (all_rows shares) →
    IsGathered kinds games shares contents →
    ((entry : Entry) → Contains contents.entries entry → (p : ℕ) × IsNumber (content_of n seen) entry.shape p) × (length contents.entries ≤ n)
numbered n seen kinds games shares contents stand gathered =
    let entries = contents.entries in
    let rows = all_rows shares in
    let rises = gathered.dictionary.rises in
    let each : (entry : Entry) → Contains entries entry → (p : ℕ) × IsNumber (content_of n seen) entry.shape p = λ entry among.
    let is = entry_found entries rises entry among in
    let row = there_some rows entry.shape (gathered_some rows entry.shape entry (sym (gathered.entries entry.shape) ∙ is)) in
    (row.0.number, subst (λ shape. IsNumber (content_of n seen) shape row.0.number) row.2 (stand row.0 row.1)) in
    (each, few_patterns n seen entries rises each)

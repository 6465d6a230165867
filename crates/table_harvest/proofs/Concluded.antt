-- From shares, refusals and what disagrees among them to a harvest's answer.
use Rattle.std.proofs.Common.{◌≡◌, ℕ, ◌<◌, ◌≤◌, ◌==◌, ◌&&◌, ◌⊎◌, not, nat_lt, Bool, true, false, cond, zero, suc, inr, List, [], ◌∷◌, ◌++◌, Option, Some, None, refl, ap, sym, subst, ◌∙◌, arith, append-nil, eq-eqb, All, Contains, ⊎_elim}
use Rattle.std.specs.Prelude.{Result, Ok, Err, IfErr, MatchResult, find, slice_index_or}
use Rattle.std.specs.List.{AllByRecursion}
use Rattle.std.specs.Option.{option_map}
use Rattle.std.proofs.lemmas.Bool.Decides.{nat_tests}
use Rattle.std.proofs.lemmas.Option.{same_Some}
use Rattle.std.proofs.lemmas.List.Elements.{recursion_from_All, All-weaker, Contains-append_cases, Contains-push_cases}
use Rattle.shape_core.specs.declared.words.Kinds.{Kinds}
use Rattle.tally_core.specs.declared.collections.Counted.{Counted}
use Rattle.game_core.specs.declared.reports.Report.{Report}
use Rattle.probe_core.specs.Sequential.{IsNumber, IsFree, IsAbsent, IsFull}
use Rattle.probe_core.specs.declared.calls.Call.TheVariants as asked
use Rattle.probe_core.specs.declared.calls.Answer.TheVariants as answer
use Rattle.slot_table.specs.declared.entries.Happened.{Happened}
use Rattle.slot_table.specs.declared.entries.Happened.TheVariants as call
use Rattle.slot_table.specs.History.{content_of, least_at, IsAtMost, IsLegal, Keeps}
use Rattle.slot_table.specs.Passes.{Known, IsLater, calls_of}
use Rattle.game_core.specs.Games.{HasReadAll}
use Rattle.gather_core.specs.declared.rows.Row.{Row}
use Rattle.harvest_faults.specs.declared.faults.HarvestFault.{HarvestFault}
use Rattle.harvest_faults.specs.declared.faults.HarvestFault.TheVariants as fault
use Rattle.table_shares.specs.Agreeing.{agreeing_firsts, IsMarksFault}
use Rattle.gather_core.specs.Gathering.{all_rows}
use Rattle.table_shares.specs.Checking.{is_shape, is_stranger, shape_at, IsStranger}
use Rattle.table_shares.specs.Confirming.{first_shape, HasShape, HasShapeAt, IsUnknown, IsUnconfirmed, IsConfirmation}
use Rattle.gather_core.specs.Covering.{all_games, times_of}
use Rattle.table_shares.specs.GatherFaults.{IsGatherFault}
use Rattle.table_shares.specs.Making.{HasRow}
use Rattle.table_shares.specs.Rows.{row_of, first_at}
use Rattle.gather_core.specs.Shares.{Held}
use Rattle.slot_table.proofs.Contents.{one_key}
use Rattle.table_shares.proofs.Confirmed.{more_patterns}
use Rattle.table_harvest.specs.declared.taking.Results.{Results}
use Rattle.table_harvest.specs.InTable.{HasGameBy}
use Rattle.table_harvest.specs.Inner.Parted.{shares_of, refusals_of}
use Rattle.table_harvest.specs.Inner.Reading.{IsOnceEach}
use Rattle.table_harvest.specs.Inner.Harvest.{AreTogether, IsTold}
use Rattle.harvest_core.specs.Working.{IsWorked, IsPatternIn, IsPatternOfGame}
use Rattle.table_harvest.specs.Working.{IsRefusal}
use Rattle.harvest_core.specs.Harvest.{IsRead}
use Rattle.table_harvest.specs.Harvest.{HasMorePatterns, IsHarvestFault}
use Rattle.table_harvest.proofs.InTable.{contains_cons, full_kept, first_row_at, first_by_at, some_by}
use Rattle.table_harvest.proofs.Together.{row_there}
use Rattle.table_harvest.proofs.Limited.{never_refused, never_large}

-- ---- games that are there once
at_most_once : (high : ℕ) (games : List ℕ) (game : ℕ) → times_of games game ≡ cond (nat_lt game high) 1 0 → 2 ≤ times_of games game → ⊥
at_most_once high games game once twice = elim (nat_lt game high) as (λ b. times_of games game ≡ cond b 1 0 → ⊥) [ true ↦ λ is. absurd (omega arith) | false ↦ λ is. absurd (omega arith) ] once

at_least_once : (high : ℕ) (games : List ℕ) (game : ℕ) → game < high → times_of games game ≡ cond (nat_lt game high) 1 0 → times_of games game ≡ 0 → ⊥
at_least_once high games game low once none =
    let test : nat_lt game high ≡ true = Prim.grind (arith, nat_tests) in
    let is : times_of games game ≡ 1 = once ∙ ap (λ b. cond b 1 0) test in
    absurd (omega arith)

-- ---- what a search finds
find_some : {X : Type 0} (p : X → Bool) (xs : List X) (x : X) → find p xs ≡ Some x → Contains xs x × (p x ≡ true)
find_some p [] x is = absurd cc
find_some p (y ∷ xs) x is =
    elim (p y) as (λ b. p y ≡ b → cond b (Some y) (find p xs) ≡ Some x → Contains (y ∷ xs) x × (p x ≡ true)) [
      | true ↦ λ test found. (let same : y ≡ x = same_Some y x found in ((0, omega arith, same), subst (λ z. p z ≡ true) same test))
      | false ↦ λ test found. (let rest = find_some p xs x found in (contains_cons y xs x rest.0, rest.1))
    ] refl is

both_true : (a b : Bool) → (a && b) ≡ true → (a ≡ true) × (b ≡ true)
both_true true b is = (refl, is)
both_true false b is = absurd cc

-- a row of some share is of a pattern of the input
row_known : (bytes : List ℕ) (kinds : Kinds) (shares : List Held) (row : Row) → AllByRecursion (IsWorked bytes kinds) shares → Contains (all_rows shares) row →
    IsPatternIn bytes kinds row.shape
row_known bytes kinds [] row worked among = absurd (omega arith)
row_known bytes kinds (share ∷ shares) row worked among = ⊎_elim
    (λ (here : Contains share.rows row). worked.0.known row here)
    (λ (there : Contains (all_rows shares) row). row_known bytes kinds shares row worked.1 there)
    (Contains-append_cases share.rows (all_rows shares) row among)

shape_known : (bytes : List ℕ) (kinds : Kinds) (shares : List Held) (shape : ℕ) → All (IsWorked bytes kinds) shares → HasShape (all_rows shares) shape →
    IsPatternIn bytes kinds shape
shape_known bytes kinds shares shape worked has =
    subst (IsPatternIn bytes kinds) has.2 (row_known bytes kinds shares has.0 (recursion_from_All (IsWorked bytes kinds) shares worked) has.1)

full_is : (n : ℕ) (seen : List Happened) (bytes : List ℕ) (kinds : Kinds) (shares : List Held) (game word : ℕ) → IsLegal n seen → IsRead bytes →
    All (IsWorked bytes kinds) shares → IsPatternOfGame bytes kinds game word → IsConfirmation n seen (all_rows shares) game word (fault.Full game word) →
    HasMorePatterns n bytes kinds game word
full_is n seen bytes kinds shares game word legal read worked pattern h =
    let more = more_patterns n seen (all_rows shares) game word legal h in
    record {
      read = read;
      of_game = pattern;
      keys = more.0;
      as_many = more.1;
      different = more.2;
      known = All-weaker (HasShape (all_rows shares)) (IsPatternIn bytes kinds) (λ shape has. shape_known bytes kinds shares shape worked has) more.0 more.3;
      another = more.4;
    }

-- ---- a key or a mark that is not from here
not_asked : (number : ℕ) (found : Option ℕ) (p game : ℕ) → call.First number found ≡ call.Marked p game → ⊥
not_asked number found p game is = absurd cc

-- calls that only ask the least games mark nothing
no_marks : (rows : List Row) (count p game : ℕ) → Contains (agreeing_firsts rows count) (call.Marked p game) → ⊥
no_marks rows zero p game among = absurd (let low = among.1 in omega arith)
no_marks rows (suc count) p game among = ⊎_elim
    (λ (before : Contains (agreeing_firsts rows count) (call.Marked p game)). no_marks rows count p game before)
    (λ (last : call.First count (first_at rows count) ≡ call.Marked p game). not_asked count (first_at rows count) p game last)
    (Contains-push_cases (agreeing_firsts rows count) (call.First count (first_at rows count)) (call.Marked p game) among)

module _ {O : Type 0} (n : ℕ) (bytes : List ℕ) (kinds : Kinds) (earlier : List Happened) (before after : Known O) (rows : List Row) (read : IsRead bytes)
    (together : AreTogether n earlier before rows) where
  -- a number whose key is the pattern of no row has no row
  no_row : (number key : ℕ) → Keeps n before.seen after.seen → IsNumber (content_of n after.seen) key number → (HasShape rows key → ⊥) → first_shape rows number ≡ None
  no_row number key keeps is unknown = of_row (row_of rows number) refl
    where
      of_row : (found : Option Row) → row_of rows number ≡ found → option_map (λ (row : Row). row.shape) found ≡ None
      of_row None has = refl
      of_row (Some row) has =
          let at = find_some (λ (r : Row). r.number == number) rows row has in
          let here : row.number ≡ number = (let test = at.1 in Prim.grind (arith, nat_tests)) in
          let stands = subst (λ p. IsNumber (content_of n after.seen) row.shape p) here (keeps.numbers row.shape row.number (together.stands row at.0)) in
          absurd (unknown (row, at.0, one_key n after.seen row.shape key number stands is))

  -- why the shares do not confirm that the table is full of their patterns
  unconfirmed : (shares : List Held) (word number : ℕ) (of_share of_table : Option ℕ) → rows ≡ all_rows shares → All (IsWorked bytes kinds) shares →
      IsAbsent (content_of n before.seen) word → IsFull (content_of n before.seen) → IsLater n before [] after →
      IsUnconfirmed n after.seen rows word number of_share of_table → IsHarvestFault n bytes kinds earlier after (fault.Stranger number of_share of_table)
  unconfirmed shares word number of_share of_table same worked absent full later h = ⊎_elim
      (λ (free : IsFree (content_of n after.seen) number). absurd (full_kept n before.seen after.seen later.keeps full number free))
      (λ (other : IsUnknown n after.seen rows number ⊎ HasShapeAt rows number word). ⊎_elim
      (λ (unknown : IsUnknown n after.seen rows number).
      let key = unknown.0 in
      subst (λ (s : Option ℕ). IsHarvestFault n bytes kinds earlier after (fault.Stranger number s of_table)) (sym (h.share ∙ no_row number key later.keeps unknown.1 unknown.2))
      (subst (λ (t : Option ℕ). IsHarvestFault n bytes kinds earlier after (fault.Stranger number None t)) (sym (h.table ∙ unknown.1.stands)) (
        read,
        record {
          full = full_kept n before.seen after.seen later.keeps full;
          number_is = unknown.1;
          others = λ mine. ⊎_elim
              (λ (old : Contains earlier (call.Asked (asked.Enter key) (answer.Number number))). old)
              (λ (rowed : HasRow rows number key). absurd (let row = row_there rows number key rowed in unknown.2 (row.0, row.1, row.3)))
              (together.calls (call.Asked (asked.Enter key) (answer.Number number))
              (subst (λ (calls : List Happened). Contains calls (call.Asked (asked.Enter key) (answer.Number number))) (later.calls ∙ append-nil (calls_of before)) mine));
          least = λ lesser low inside.
              let known = h.known lesser low inside in
              (known.0, known.1, shape_known bytes kinds shares known.0 worked (subst (λ (rs : List Row). HasShape rs known.0) same known.2));
        },
      )))
      (λ (row : HasShapeAt rows number word).
      absurd (absent row.0.number (subst (λ s. IsNumber (content_of n before.seen) s row.0.number) row.3 (together.stands row.0 row.1))))
      other)
      h.why

  -- what was confirmed, or was not
  pub explained : (shares : List Held) (game word : ℕ) (found : HarvestFault) → rows ≡ all_rows shares → IsLegal n after.seen → All (IsWorked bytes kinds) shares → IsPatternOfGame bytes kinds game word →
      IsAbsent (content_of n before.seen) word → IsFull (content_of n before.seen) → IsLater n before [] after →
      IsConfirmation n after.seen (all_rows shares) game word found → IsHarvestFault n bytes kinds earlier after found
  explained shares game word (fault.Full at other) same legal worked pattern absent full later h =
      subst (λ g. IsHarvestFault n bytes kinds earlier after (fault.Full g other)) (sym h.0)
      (subst (λ w. IsHarvestFault n bytes kinds earlier after (fault.Full game w)) (sym h.1)
      (full_is n after.seen bytes kinds shares game word legal read worked pattern (refl, refl, h.2, h.3)))
  explained shares game word (fault.Stranger number of_share of_table) same legal worked pattern absent full later h =
      unconfirmed shares word number of_share of_table same worked absent full later (subst (λ (rs : List Row). IsUnconfirmed n after.seen rs word number of_share of_table) (sym same) h)
  explained shares game word (fault.Missing other) same legal worked pattern absent full later h = absurd h
  explained shares game word (fault.Twice other) same legal worked pattern absent full later h = absurd h
  explained shares game word fault.BadSettings same legal worked pattern absent full later h = absurd h
  explained shares game word fault.Memory same legal worked pattern absent full later h = absurd h
  explained shares game word (fault.Sgf other) same legal worked pattern absent full later h = absurd h
  explained shares game word fault.Overflow same legal worked pattern absent full later h = absurd h
  explained shares game word (fault.Marks number of_shares of_table) same legal worked pattern absent full later h = absurd h

  -- a mark that differs from the rows is not from here
  marked : (number : ℕ) (of_shares of_table : Option ℕ) → IsMarksFault n rows before after (fault.Marks number of_shares of_table) →
      IsHarvestFault n bytes kinds earlier after (fault.Marks number of_shares of_table)
  marked number of_shares None h = absurd (no_less of_shares h.1 h.2)
    where
      no_less : (share : Option ℕ) → share ≡ first_at rows number → (share ≡ None → ⊥) → ⊥
      no_less None is differs = differs refl
      no_less (Some game) is differs =
          let row = first_row_at rows number game (sym is) in
          h.4 game (subst (λ p. IsAtMost (least_at p before.seen) game) row.2 (together.marked row.0 row.1 game row.3))
  marked number of_shares (Some game) h = (
    read,
    h.2,
    record {
      marked = h.5;
      others = λ mine. ⊎_elim
          (λ (had : Contains (calls_of before) (call.Marked number game)). ⊎_elim
          (λ (old : Contains earlier (call.Marked number game)). old)
          (λ (rowed : HasGameBy rows number game).
          let least : IsAtMost (first_at rows number) game = subst (λ p. IsAtMost (first_at rows p) game) rowed.number_is
          (first_by_at rows rowed.among.0 rowed.row game rowed.among.1 rowed.among.2 rowed.by) in
          let by = some_by (first_at rows number) game least in
          let row = first_row_at rows number by.0 by.1 in
          let up : game ≤ by.0 = h.4 by.0 (subst (λ p. IsAtMost (least_at p before.seen) by.0) row.2 (together.marked row.0 row.1 by.0 row.3)) in
          let low = by.2 in
          let same : by.0 ≡ game = omega arith in
          absurd (h.2 (h.1 ∙ by.1 ∙ ap (λ g. Some g) same)))
          (together.calls (call.Marked number game) had))
          (λ (asked : Contains (agreeing_firsts rows number ++ call.First number (Some game) ∷ []) (call.Marked number game)). absurd (⊎_elim
          (λ (firsts : Contains (agreeing_firsts rows number) (call.Marked number game)). no_marks rows number number game firsts)
          (λ (last : call.First number (Some game) ≡ call.Marked number game). not_asked number (Some game) number game last)
          (Contains-push_cases (agreeing_firsts rows number) (call.First number (Some game)) (call.Marked number game) asked)))
          (Contains-append_cases (calls_of before) (agreeing_firsts rows number ++ call.First number (Some game) ∷ []) (call.Marked number game)
          (subst (λ (calls : List Happened). Contains calls (call.Marked number game)) h.3.calls mine));
    },
  )

  -- rows that stand in the table have no stranger
  no_stranger : (number : ℕ) (of_share of_table : Option ℕ) → Keeps n before.seen after.seen → IsStranger n after.seen rows number of_share of_table → ⊥
  no_stranger number of_share of_table keeps h =
      strange (find (is_stranger number of_table) rows) refl (sym (sym h.some.1 ∙ h.first))
    where
      not_strange : (row : Row) (table : Option ℕ) → table ≡ shape_at n after.seen number → IsNumber (content_of n after.seen) row.shape row.number → is_stranger number table row ≡ true → ⊥
      not_strange row table is stands test =
          let parts = both_true (row.number == number) (not (is_shape table row.shape)) test in
          let here : row.number ≡ number = Prim.grind (arith, nat_tests) in
          let shape : table ≡ Some row.shape = is ∙ subst (λ p. slice_index_or (content_of n after.seen) p None ≡ Some row.shape) here stands.stands in
          let same : is_shape table row.shape ≡ true = ap (λ (t : Option ℕ). is_shape t row.shape) shape ∙ eq-eqb row.shape row.shape refl in
          let clash : not true ≡ true = ap not (sym same) ∙ parts.1 in
          absurd cc

      strange : (found : Option Row) → find (is_stranger number of_table) rows ≡ found → option_map (λ (row : Row). row.shape) found ≡ Some h.some.0 → ⊥
      strange None is named = absurd cc
      strange (Some row) is named =
          let at = find_some (is_stranger number of_table) rows row is in
          let number_is = keeps.numbers row.shape row.number (together.stands row at.0) in
          not_strange row of_table h.table number_is at.1

  -- shares that do not go together
  pub ungathered : (report : Report) (shares : List Held) (found : HarvestFault) → rows ≡ all_rows shares → HasReadAll bytes report → All (IsWorked bytes kinds) shares →
      IsOnceEach report.games (all_games shares) → Keeps n before.seen after.seen → IsGatherFault n report.games shares before after found → IsHarvestFault n bytes kinds earlier after found
  ungathered report shares fault.Memory same all worked once keeps h = tt
  ungathered report shares (fault.Twice game) same all worked once keeps h = absurd (at_most_once report.games (all_games shares) game (once game) h.0)
  ungathered report shares (fault.Missing game) same all worked once keeps h = absurd (at_least_once report.games (all_games shares) game h.within (once game) h.none)
  ungathered report shares (fault.Stranger number of_share of_table) same all worked once keeps h =
      absurd (no_stranger number of_share of_table keeps (subst (λ (rs : List Row). IsStranger n after.seen rs number of_share of_table) (sym same) h.1))
  ungathered report shares (fault.Marks number of_shares of_table) same all worked once keeps h =
      marked number of_shares of_table (subst (λ (rs : List Row). IsMarksFault n rs before after (fault.Marks number of_shares of_table)) (sym same) h.2)
  ungathered report shares fault.Overflow same all worked once keeps h = never_large bytes kinds shares report worked all h.0 h.3
  ungathered report shares (fault.Full game word) same all worked once keeps h = absurd h
  ungathered report shares fault.BadSettings same all worked once keeps h = absurd h
  ungathered report shares (fault.Sgf found) same all worked once keeps h = absurd h

-- a game was refused, and not for want of a number
pub refused_for : {O : Type 0} (n : ℕ) (bytes : List ℕ) (kinds : Kinds) (earlier : List Happened) (after : Known O) (found : HarvestFault) →
    ((game word : ℕ) → found ≡ fault.Full game word → ⊥) → IsRead bytes → IsRefusal bytes kinds found → IsHarvestFault n bytes kinds earlier after found
refused_for n bytes kinds earlier after fault.Memory other read h = tt
refused_for n bytes kinds earlier after (fault.Full game word) other read h = absurd (other game word refl)
refused_for n bytes kinds earlier after fault.Overflow other read h = never_refused bytes kinds read h
refused_for n bytes kinds earlier after (fault.Stranger number of_share of_table) other read h = absurd h
refused_for n bytes kinds earlier after (fault.Missing game) other read h = absurd h
refused_for n bytes kinds earlier after (fault.Twice game) other read h = absurd h
refused_for n bytes kinds earlier after fault.BadSettings other read h = absurd h
refused_for n bytes kinds earlier after (fault.Sgf found) other read h = absurd h
refused_for n bytes kinds earlier after (fault.Marks number of_shares of_table) other read h = absurd h

-- no game was refused, and this is what the shares give
pub told_none : {O : Type 0} (n : ℕ) (results : Results O) (before after : Known O) (result : Result Counted HarvestFault) → refusals_of results.worked.items ≡ [] →
    IfErr result (IsGatherFault n results.report.games (shares_of results.worked.items) before after) →
    MatchResult result (λ (_ : Counted). refusals_of results.worked.items ≡ []) (IsTold n results after)
told_none n results before after (Ok counted) none h = none
told_none n results before after (Err found) none h = (before, inr (inr (none, h)))

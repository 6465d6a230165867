-- A tree more that was read and counted.
use Rattle.std.proofs.Common.{◌≡◌, ℕ, ◌+◌, ◌≤◌, List, [], ◌∷◌, ◌++◌, length, map, Option, Some, None, Result, Ok, Err, refl, ap, sym, subst, ◌∙◌, inl, inr, arith, length-append}
use Rattle.std.proofs.lemmas.List.{map-append}
use Rattle.sgf_core.specs.Tree.{GameTree, Node}
use Rattle.go_record.specs.Record.{record_of}
use Rattle.go_record.specs.Actions.{Actions}
use Rattle.go_record.specs.declared.records.Kind.{Kind}
use Rattle.go_record.specs.declared.records.Kind.TheVariants as kind
use Rattle.go_record.specs.declared.faults.RecordFault.{RecordFault}
use Rattle.go_record.specs.declared.faults.RecordFault.TheVariants as record_fault
use Rattle.go_record.specs.Adding.{IsRecordOrMemory}
use Rattle.game_core.specs.Collection.{AreTrees, record_of_tree, games_among, others_among, refused_among}
use Rattle.sgf_core.specs.declared.faults.SgfFault.TheVariants as sgf
use Rattle.sgf_core.specs.Next.{IsNextTree}
use Rattle.game_core.specs.Reports.{IsReport}
use Rattle.game_core.specs.Faults.{IsNextFault, IsGamesFault}
use Rattle.game_core.specs.declared.faults.GamesFault.{GamesFault}
use Rattle.game_core.specs.declared.faults.GamesFault.TheVariants as fault
use Rattle.game_core.specs.declared.reports.Report.{Report}
use Rattle.game_core.specs.declared.games.Recorded.{Recorded}
use Rattle.game_core.specs.Games.{HasRead}
use Rattle.game_core.specs.Inner.Reading.{IsNextRecord, Counts}

pub games_push : (records : List (Result Kind RecordFault)) (last : Result Kind RecordFault) → games_among (records ++ last ∷ []) ≡ games_among records ++ games_among (last ∷ [])
games_push [] last = refl
games_push (Ok (kind.Go game) ∷ records) last = ap (λ games. game ∷ games) (games_push records last)
games_push (Ok kind.Other ∷ records) last = games_push records last
games_push (Err found ∷ records) last = games_push records last

others_push : (records : List (Result Kind RecordFault)) (last : Result Kind RecordFault) → others_among (records ++ last ∷ []) ≡ others_among records + others_among (last ∷ [])
others_push [] last = omega arith
others_push (Ok (kind.Go game) ∷ records) last = others_push records last
others_push (Ok kind.Other ∷ records) last = omega (arith, others_push records last)
others_push (Err found ∷ records) last = others_push records last

refused_push : (records : List (Result Kind RecordFault)) (last : Result Kind RecordFault) → refused_among (records ++ last ∷ []) ≡ refused_among records + refused_among (last ∷ [])
refused_push [] last = omega arith
refused_push (Ok found ∷ records) last = refused_push records last
refused_push (Err found ∷ records) last = omega (arith, refused_push records last)

-- one tree more comes after the others
pub trees_push : (bytes : List ℕ) (from middle : ℕ) (trees : List GameTree) (at next : ℕ) (tree : GameTree) →
    AreTrees bytes from trees middle → IsNextTree bytes middle at next tree → AreTrees bytes from (trees ++ tree ∷ []) next
trees_push bytes from middle [] at next tree h is = (at, next, subst (λ f. IsNextTree bytes f at next tree) (sym h) is, refl)
trees_push bytes from middle (first ∷ trees) at next tree (first_at, first_end, first_is, others) is =
    (first_at, first_end, first_is, trees_push bytes first_end middle trees at next tree others is)

-- a report on one tree more
report_push : (trees : List GameTree) (tree : GameTree) (recorded : Result Kind RecordFault) (before after : Report) → recorded ≡ record_of_tree tree → IsReport trees before →
    after.games ≡ before.games + length (games_among (recorded ∷ [])) → after.others ≡ before.others + others_among (recorded ∷ []) →
    after.refused ≡ before.refused + refused_among (recorded ∷ []) → IsReport (trees ++ tree ∷ []) after
report_push trees tree recorded before after is reported games others refused =
    let rs = map record_of_tree trees in
    let all : map record_of_tree (trees ++ tree ∷ []) ≡ rs ++ recorded ∷ [] = map-append record_of_tree trees (tree ∷ []) ∙ ap (λ r. rs ++ r ∷ []) (sym is) in
    record {
      games = games ∙ ap (λ n. n + length (games_among (recorded ∷ []))) reported.games ∙ sym (length-append (games_among rs) (games_among (recorded ∷ [])))
          ∙ ap length (sym (games_push rs recorded)) ∙ ap (λ r. length (games_among r)) (sym all);
      others = others ∙ ap (λ n. n + others_among (recorded ∷ [])) reported.others ∙ sym (others_push rs recorded) ∙ ap others_among (sym all);
      refused = refused ∙ ap (λ n. n + refused_among (recorded ∷ [])) reported.refused ∙ sym (refused_push rs recorded) ∙ ap refused_among (sym all);
    }

-- what was counted of a tree, by its record
record Adds (before : Report) (recorded : Result Kind RecordFault) (after : Report) : Type 0 where
  pub games : after.games ≡ before.games + length (games_among (recorded ∷ []))
  pub others : after.others ≡ before.others + others_among (recorded ∷ [])
  pub refused : after.refused ≡ before.refused + refused_among (recorded ∷ [])
  pub few_games : after.games ≤ before.games + 1
  pub few_others : after.others ≤ before.others + 1
  pub few_refused : after.refused ≤ before.refused + 1

adds : (before : Report) (recorded : Result Kind RecordFault) (after : Report) (found : Option Actions) → Counts before recorded after found → Adds before recorded after
adds before recorded after (Some game) h = subst (λ r. Adds before r after) (sym h.0) (subst (λ a. Adds before (Ok (kind.Go game)) a) (sym h.1)
    (record { games = refl; others = omega arith; refused = omega arith; few_games = omega arith; few_others = omega arith; few_refused = omega arith }))
adds before recorded after None (inl h) = subst (λ r. Adds before r after) (sym h.0) (subst (λ a. Adds before (Ok kind.Other) a) (sym h.1)
    (record { games = omega arith; others = omega arith; refused = omega arith; few_games = omega arith; few_others = omega arith; few_refused = omega arith }))
adds before recorded after None (inr h) = subst (λ r. Adds before r after) (sym h.1) (subst (λ a. Adds before (Err h.0) a) (sym h.2)
    (record { games = omega arith; others = omega arith; refused = omega arith; few_games = omega arith; few_others = omega arith; few_refused = omega arith }))

-- one tree more was read
pub reads_on : (bytes : List ℕ) (from : ℕ) (before after : Report) (read : Recorded) (found : Option Actions) →
    HasRead bytes from before → IsNextRecord bytes from read → Counts before read.recorded after found → HasRead bytes read.end after
reads_on bytes from before after read found h next counts =
    let a = adds before read.recorded after found counts in
    let forward = next.forward in
    record {
      trees = h.trees ++ next.tree ∷ [];
      written = trees_push bytes 0 from h.trees read.at read.end next.tree h.written next.next;
      reported = report_push h.trees next.tree read.recorded before after next.recorded h.reported a.games a.others a.refused;
      small = h.small;
      in_input = next.next.in_input;
      games = omega (arith, h.games, a.few_games);
      others = omega (arith, h.others, a.few_others);
      refused = omega (arith, h.refused, a.few_refused);
    }

-- what a record is, where memory was not wanting
not_memory : (line : List Node) (found : RecordFault) → (found ≡ record_fault.Memory → ⊥) → IsRecordOrMemory line (Err found) → record_of line ≡ Err found
not_memory line record_fault.Memory not h = absurd (not refl)
not_memory line (record_fault.BadSize at) not h = sym h
not_memory line (record_fault.BadPoint at) not h = sym h
not_memory line (record_fault.OffBoard at) not h = sym h

-- what was read of a record is the record, where memory was not wanting
pub known : (line : List Node) (recorded : Result Kind RecordFault) → (recorded ≡ Err record_fault.Memory → ⊥) → IsRecordOrMemory line recorded → recorded ≡ record_of line
known line (Ok kind) not is = is
known line (Err found) not is = sym (not_memory line found (λ same. not (ap Err same)) is)

-- a fact on an input and a place, of the same input and place
pub moved : (P : List ℕ → ℕ → Type 0) (bytes other : List ℕ) (from place : ℕ) → other ≡ bytes → place ≡ from → P other place → P bytes from
moved P bytes other from place same here h = subst (λ b. P b from) same (subst (λ f. P other f) here h)

-- why no next tree comes is why the input is not read
pub stops : (bytes : List ℕ) (from : ℕ) (report : Report) (found : GamesFault) → HasRead bytes from report → IsNextFault bytes from found → IsGamesFault bytes found
stops bytes from report fault.Memory h is = (h.small, record { trees = h.trees; end = from; written = h.written; next = is })
stops bytes from report (fault.Sgf sgf.TooLarge) h is = absurd is
stops bytes from report (fault.Sgf sgf.Memory) h is = absurd is
stops bytes from report (fault.Sgf (sgf.Truncated at)) h is = (h.small, record { trees = h.trees; end = from; written = h.written; fault = is })
stops bytes from report (fault.Sgf (sgf.BadByte at)) h is = (h.small, record { trees = h.trees; end = from; written = h.written; fault = is })
stops bytes from report (fault.Sgf (sgf.NoValue at)) h is = (h.small, record { trees = h.trees; end = from; written = h.written; fault = is })

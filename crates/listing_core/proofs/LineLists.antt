-- The lines of trees, one tree after another, and what is written of them.
use Rattle.std.proofs.Common.{◌≡◌, ℕ, ◌+◌, List, [], ◌∷◌, ◌++◌, length, map, Result, Ok, Err, refl, ap, sym, subst, ◌∙◌, arith, append_assoc}
use Rattle.std.proofs.lemmas.List.{map-append, append-nil}
use Rattle.sgf_core.specs.Tree.{GameTree, main_line_of}
use Rattle.sgf_core.specs.Next.{IsNextTree}
use Rattle.sgf_core.specs.Reading.{Reading}
use Rattle.go_record.specs.declared.records.Kind.{Kind}
use Rattle.go_record.specs.declared.records.Kind.TheVariants as kind
use Rattle.go_record.specs.declared.faults.RecordFault.{RecordFault}
use Rattle.game_core.specs.Collection.{record_of_tree, games_among, others_among, refused_among, AreTrees}
use Rattle.game_core.specs.Reports.{IsReport}
use Rattle.game_core.specs.declared.reports.Report.{Report}
use Rattle.listing_core.specs.declared.asked.Asked.{Asked}
use Rattle.listing_core.specs.declared.lines.Line.{Line}
use Rattle.listing_core.specs.declared.lines.What.{What}
use Rattle.listing_core.specs.declared.lines.What.TheVariants as what
use Rattle.listing_core.specs.Choice.{piece, pieces}
use Rattle.listing_core.specs.Listing.{IsWhat, number_of, AreLines}
use Rattle.listing_core.specs.Inner.Reading.{IsLineOf, ListsNext, ListsUpTo, counted, all_in}
use Rattle.listing_core.specs.Inner.Wants.{NextWants, ReadsUpTo, IsWanted}
use Rattle.listing_core.specs.declared.wants.Want.{Want}

-- how many games there are, the first record apart
pub games_first : (recorded : Result Kind RecordFault) (records : List (Result Kind RecordFault)) →
    length (games_among (recorded ∷ records)) ≡ length (games_among (recorded ∷ [])) + length (games_among records)
games_first (Ok (kind.Go game)) records = omega arith
games_first (Ok kind.Other) records = omega arith
games_first (Err found) records = omega arith

-- and the last one apart
pub games_last : (records : List (Result Kind RecordFault)) (recorded : Result Kind RecordFault) →
    length (games_among (records ++ recorded ∷ [])) ≡ length (games_among records) + length (games_among (recorded ∷ []))
games_last [] recorded = omega arith
games_last (first ∷ records) recorded =
    omega (arith, games_first first (records ++ recorded ∷ []), games_last records recorded, games_first first records)

pub others_last : (records : List (Result Kind RecordFault)) (recorded : Result Kind RecordFault) →
    others_among (records ++ recorded ∷ []) ≡ others_among records + others_among (recorded ∷ [])
others_last [] recorded = omega arith
others_last (Ok (kind.Go game) ∷ records) recorded = others_last records recorded
others_last (Ok kind.Other ∷ records) recorded = omega (arith, others_last records recorded)
others_last (Err found ∷ records) recorded = others_last records recorded

pub refused_last : (records : List (Result Kind RecordFault)) (recorded : Result Kind RecordFault) →
    refused_among (records ++ recorded ∷ []) ≡ refused_among records + refused_among (recorded ∷ [])
refused_last [] recorded = omega arith
refused_last (Ok found ∷ records) recorded = refused_last records recorded
refused_last (Err found ∷ records) recorded = omega (arith, refused_last records recorded)

-- what one tree adds to a report
record Adds (recorded : Result Kind RecordFault) (report : Report) (found : What) : Type 0 where
  pub games : (counted report found).games ≡ report.games + length (games_among (recorded ∷ []))
  pub others : (counted report found).others ≡ report.others + others_among (recorded ∷ [])
  pub refused : (counted report found).refused ≡ report.refused + refused_among (recorded ∷ [])

adds : (recorded : Result Kind RecordFault) (report : Report) (found : What) → IsWhat recorded found → Adds recorded report found
adds (Ok (kind.Go game)) report (what.Game size moves occasions) h = record { games = omega arith; others = omega arith; refused = omega arith }
adds (Ok (kind.Go game)) report what.Other h = absurd h
adds (Ok (kind.Go game)) report (what.Refused fault) h = absurd h
adds (Ok kind.Other) report found h = subst (Adds (Ok kind.Other) report) (sym h) (record { games = omega arith; others = omega arith; refused = omega arith })
adds (Err fault) report found h = subst (Adds (Err fault) report) (sym h) (record { games = omega arith; others = omega arith; refused = omega arith })

-- a report on a tree more
report_push : (trees : List GameTree) (report : Report) (tree : GameTree) (found : What) → IsReport trees report → IsWhat (record_of_tree tree) found →
    IsReport (trees ++ tree ∷ []) (counted report found)
report_push trees report tree found h is =
    let recorded = record_of_tree tree in
    let records = map record_of_tree trees in
    let all : map record_of_tree (trees ++ tree ∷ []) ≡ records ++ recorded ∷ [] = map-append record_of_tree trees (tree ∷ []) in
    let more = adds recorded report found is in
    record {
      games = omega (arith, more.games, h.games, games_last records recorded, ap (λ r. length (games_among r)) all);
      others = omega (arith, more.others, h.others, others_last records recorded, ap others_among all);
      refused = omega (arith, more.refused, h.refused, refused_last records recorded, ap refused_among all);
    }

pub one_more : (report : Report) (found : What) → all_in (counted report found) ≡ all_in report + 1
one_more report (what.Game size moves occasions) = omega arith
one_more report what.Other = omega arith
one_more report (what.Refused fault) = omega arith

-- a line more
lines_push : (bytes : List ℕ) (number place middle : ℕ) (trees : List GameTree) (lines : List Line) (tree : GameTree) (line : Line) →
    AreLines bytes number place trees middle lines → IsNextTree bytes middle line.from line.to tree →
    IsLineOf (record_of_tree tree) (number + length (games_among (map record_of_tree trees))) line → AreLines bytes number place (trees ++ tree ∷ []) line.to (lines ++ line ∷ [])
lines_push bytes number place middle [] [] tree line h next is =
    let same : number + 0 ≡ number = omega arith in
    (subst (λ p. IsNextTree bytes p line.from line.to tree) (sym h.0) next, is.what, is.numbered ∙ ap (number_of (record_of_tree tree)) same, (refl, refl))
lines_push bytes number place middle [] (other ∷ lines) tree line h next is = absurd (let none = h.1 in cc)
lines_push bytes number place middle (first ∷ trees) [] tree line h next is = absurd h
lines_push bytes number place middle (first ∷ trees) (other ∷ lines) tree line h next is =
    let now = number + length (games_among (record_of_tree first ∷ [])) in
    let rest = length (games_among (map record_of_tree trees)) in
    let same : number + length (games_among (map record_of_tree (first ∷ trees))) ≡ now + rest = omega (arith, games_first (record_of_tree first) (map record_of_tree trees)) in
    (h.0, h.1, h.2, lines_push bytes now other.to middle trees lines tree line h.3 next (subst (λ n. IsLineOf (record_of_tree tree) n line) same is))

-- what is written of a tree more
pieces_push : (asked : Asked) (bytes : List ℕ) (number place middle : ℕ) (trees : List GameTree) (lines : List Line) (tree : GameTree) (line : Line) →
    AreLines bytes number place trees middle lines → pieces asked bytes (trees ++ tree ∷ []) (lines ++ line ∷ []) ≡ pieces asked bytes trees lines ++ piece asked bytes (main_line_of tree) line
pieces_push asked bytes number place middle [] [] tree line h = append-nil (piece asked bytes (main_line_of tree) line)
pieces_push asked bytes number place middle [] (other ∷ lines) tree line h = absurd (let none = h.1 in cc)
pieces_push asked bytes number place middle (first ∷ trees) [] tree line h = absurd h
pieces_push asked bytes number place middle (first ∷ trees) (other ∷ lines) tree line h =
    let now = number + length (games_among (record_of_tree first ∷ [])) in
    let front = piece asked bytes (main_line_of first) other in
    ap (λ rest. front ++ rest) (pieces_push asked bytes now other.to middle trees lines tree line h.3)
    ∙ sym (append_assoc front (pieces asked bytes trees lines) (piece asked bytes (main_line_of tree) line))

-- nothing is listed yet
pub lists_begin : (asked : Asked) (bytes : List ℕ) → ListsUpTo asked bytes 0 (record { games = 0; others = 0; refused = 0 }) []
lists_begin asked bytes = record {
  trees = [];
  lines = [];
  are = (refl, refl);
  reported = record { games = refl; others = refl; refused = refl };
  few = omega arith;
  printed = refl;
}

-- a tree more is listed
pub lists_on : (asked : Asked) (bytes : List ℕ) (place : ℕ) (report : Report) (before after : Reading) (number : ℕ) (text new : List ℕ) (line : Line) →
    before.bytes ≡ bytes → place ≡ before.from → number ≡ asked.first + report.games →
    ListsUpTo asked bytes place report text → ListsNext asked before after number text new line → ListsUpTo asked bytes line.to (counted report line.what) new
lists_on asked bytes place report before after number text new line same here is_number h step =
    let tree = step.tree in
    let recorded = record_of_tree tree in
    let next = subst (λ b. IsNextTree b place line.from line.to tree) same (subst (λ p. IsNextTree before.bytes p line.from line.to tree) (sym here) step.is_next) in
    let numbered : number ≡ asked.first + length (games_among (map record_of_tree h.trees)) = omega (arith, is_number, h.reported.games) in
    let added = subst (λ b. new ≡ text ++ piece asked b (main_line_of tree) line) same step.printed in
    record {
      trees = h.trees ++ tree ∷ [];
      lines = h.lines ++ line ∷ [];
      are = lines_push bytes asked.first 0 place h.trees h.lines tree line h.are next (subst (λ n. IsLineOf recorded n line) numbered step.is_line);
      reported = report_push h.trees report tree line.what h.reported step.is_line.what;
      few = let forward = step.forward in omega (arith, h.few, one_more report line.what, forward, here);
      printed = added ∙ ap (λ t. t ++ piece asked bytes (main_line_of tree) line) h.printed
          ∙ sym (pieces_push asked bytes asked.first 0 place h.trees h.lines tree line h.are);
    }

-- the trees that have lines are those that stand one after another
pub lines_are_of_trees : (bytes : List ℕ) (number place end : ℕ) (trees : List GameTree) (lines : List Line) → AreLines bytes number place trees end lines → AreTrees bytes place trees end
lines_are_of_trees bytes number place end [] lines h = h.0
lines_are_of_trees bytes number place end (tree ∷ trees) [] h = absurd h
lines_are_of_trees bytes number place end (tree ∷ trees) (line ∷ lines) h =
    (line.from, line.to, h.0, lines_are_of_trees bytes (number + length (games_among (record_of_tree tree ∷ []))) line.to end trees lines h.3)

-- what the tree after those up to a place asks for
pub is_wanted : (bytes : List ℕ) (place : ℕ) (before : Reading) (found : Want) → before.bytes ≡ bytes → place ≡ before.from → ReadsUpTo bytes place →
    NextWants before.bytes before.from found → IsWanted bytes found
is_wanted bytes place before found same here h is = record {
  before = h.0;
  from = place;
  written = h.1;
  at = is.0;
  end = is.1;
  tree = is.2;
  next = subst (λ b. IsNextTree b place is.0 is.1 is.2) same (subst (λ p. IsNextTree before.bytes p is.0 is.1 is.2) (sym here) is.3);
  holds = is.4;
}

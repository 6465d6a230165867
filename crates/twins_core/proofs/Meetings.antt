-- Games that are met, one tree after another.
use Rattle.std.proofs.Common.{◌≡◌, ℕ, ◌+◌, Option, List, [], ◌∷◌, ◌++◌, length, map, Result, Ok, Err, refl, ap, sym, subst, ◌∙◌, arith, append_assoc}
use Rattle.std.proofs.lemmas.List.{map-append, append-nil}
use Rattle.sgf_core.specs.Tree.{GameTree}
use Rattle.sgf_core.specs.Next.{IsNextTree}
use Rattle.sgf_core.specs.Reading.{Reading}
use Rattle.go_record.specs.declared.records.Kind.{Kind}
use Rattle.go_record.specs.declared.records.Kind.TheVariants as kind
use Rattle.go_record.specs.declared.faults.RecordFault.{RecordFault}
use Rattle.game_core.specs.Collection.{AreTrees, record_of_tree, games_among, others_among, refused_among}
use Rattle.game_core.specs.Reports.{IsReport}
use Rattle.game_core.specs.declared.reports.Report.{Report}
use Rattle.listing_core.specs.Inner.Reading.{all_in}
use Rattle.listing_core.specs.Inner.Wants.{ReadsUpTo}
use Rattle.listing_core.proofs.LineLists.{games_first, games_last, others_last, refused_last}
use Rattle.twins_core.specs.declared.reading.Sort.{Sort}
use Rattle.twins_core.specs.declared.reading.Sort.TheVariants as sort
use Rattle.twins_core.specs.Twins.{Met, AreTwins, Kept, Knows, piece}
use Rattle.twins_core.specs.Runs.{met_of, AreMet}
use Rattle.twins_core.specs.Inner.Meets.{Meets}
use Rattle.twins_core.specs.Inner.Reading.{sort_of, counted, MeetsAll, MeetsNext, MeetsUpTo, ReadsNext}
use Rattle.twins_core.proofs.Firsts.{twins_append}

-- one game
pub meets_one : (kept : List Kept) (before : List Met) (met : Met) (text new : List ℕ) → Meets kept before met text new → MeetsAll kept before (met ∷ []) text new
meets_one kept before met text new h = record {
  added = piece met h.found;
  twins = (h.found, [], h.first, sym (append-nil (piece met h.found)), refl);
  printed = h.printed;
  known = h.known;
}

-- none
pub meets_none : (kept : List Kept) (before : List Met) (text : List ℕ) → Knows kept before → MeetsAll kept before [] text text
meets_none kept before text h = record {
  added = [];
  twins = refl;
  printed = sym (append-nil text);
  known = subst (Knows kept) (sym (append-nil before)) h;
}

-- what one tree adds to a report
record Adds (recorded : Result Kind RecordFault) (report : Report) : Type 0 where
  pub games : (counted report (sort_of recorded)).games ≡ report.games + length (games_among (recorded ∷ []))
  pub others : (counted report (sort_of recorded)).others ≡ report.others + others_among (recorded ∷ [])
  pub refused : (counted report (sort_of recorded)).refused ≡ report.refused + refused_among (recorded ∷ [])
  pub all : all_in (counted report (sort_of recorded)) ≡ all_in report + 1

adds : (recorded : Result Kind RecordFault) (report : Report) → Adds recorded report
adds (Ok (kind.Go game)) report = record { games = omega arith; others = omega arith; refused = omega arith; all = omega arith }
adds (Ok kind.Other) report = record { games = omega arith; others = omega arith; refused = omega arith; all = omega arith }
adds (Err fault) report = record { games = omega arith; others = omega arith; refused = omega arith; all = omega arith }

report_push : (trees : List GameTree) (report : Report) (tree : GameTree) → IsReport trees report →
    IsReport (trees ++ tree ∷ []) (counted report (sort_of (record_of_tree tree)))
report_push trees report tree h =
    let recorded = record_of_tree tree in
    let records = map record_of_tree trees in
    let all : map record_of_tree (trees ++ tree ∷ []) ≡ records ++ recorded ∷ [] = map-append record_of_tree trees (tree ∷ []) in
    let more = adds recorded report in
    record {
      games = omega (arith, more.games, h.games, games_last records recorded, ap (λ r. length (games_among r)) all);
      others = omega (arith, more.others, h.others, others_last records recorded, ap others_among all);
      refused = omega (arith, more.refused, h.refused, refused_last records recorded, ap refused_among all);
    }

-- a tree more
met_push : (name : Option (List ℕ)) (bytes : List ℕ) (number place middle : ℕ) (trees : List GameTree) (mets : List Met) (tree : GameTree) (from to next : ℕ) →
    AreMet name bytes number place trees middle mets → IsNextTree bytes middle from to tree → next ≡ number + length (games_among (map record_of_tree trees)) →
    AreMet name bytes number place (trees ++ tree ∷ []) to (mets ++ met_of name (record_of_tree tree) next from to)
met_push name bytes number place middle [] mets tree from to next h is_next same =
    let now : next ≡ number = omega (arith, same) in (
      from,
      to,
      [],
      subst (λ p. IsNextTree bytes p from to tree) (sym h.0) is_next,
      (refl, refl),
      ap (λ m. m ++ met_of name (record_of_tree tree) next from to) h.1 ∙ ap (λ n. met_of name (record_of_tree tree) n from to) now
          ∙ sym (append-nil (met_of name (record_of_tree tree) number from to)),
    )
met_push name bytes number place middle (first ∷ trees) mets tree from to next h is_next same =
    let now = number + length (games_among (record_of_tree first ∷ [])) in
    let count : next ≡ now + length (games_among (map record_of_tree trees)) = omega (arith, same, games_first (record_of_tree first) (map record_of_tree trees)) in
    let one = met_of name (record_of_tree tree) next from to in (
      h.0,
      h.1,
      h.2 ++ one,
      h.3,
      met_push name bytes now h.1 middle trees h.2 tree from to next h.4 is_next count,
      ap (λ m. m ++ one) h.5 ∙ append_assoc (met_of name (record_of_tree first) number h.0 h.1) h.2 one,
    )

-- nothing is met yet
pub meets_begin : (number : ℕ) (name : Option (List ℕ)) (before : List Met) (kept : List Kept) (bytes : List ℕ) → Knows kept before →
    MeetsUpTo number name before kept bytes 0 (record { games = 0; others = 0; refused = 0 }) []
meets_begin number name before kept bytes known = record {
  trees = [];
  mets = [];
  are = (refl, refl);
  reported = record { games = refl; others = refl; refused = refl };
  few = omega arith;
  twins = refl;
  known = subst (Knows kept) (sym (append-nil before)) known;
}

-- a tree more is met
pub meets_on : (number : ℕ) (name : Option (List ℕ)) (before mets : List Met) (old kept : List Kept) (bytes : List ℕ) (place : ℕ) (report : Report)
    (reading after : Reading) (next : ℕ) (text new : List ℕ) (found : Sort) (end : ℕ) → reading.bytes ≡ bytes → place ≡ reading.from → next ≡ number + report.games →
    (h : MeetsUpTo number name before old bytes place report text) → mets ≡ before ++ h.mets →
    MeetsNext name kept reading after next mets text new found end → MeetsUpTo number name before kept bytes end (counted report found) new
meets_on number name before mets old kept bytes place report reading after next text new found end same here is_number h all step =
    let tree = step.tree in
    let recorded = record_of_tree tree in
    let one = met_of name recorded next step.from end in
    let is_next = subst (λ b. IsNextTree b place step.from end tree) same (subst (λ p. IsNextTree reading.bytes p step.from end tree) (sym here) step.is_next) in
    let numbered : next ≡ number + length (games_among (map record_of_tree h.trees)) = omega (arith, is_number, h.reported.games) in
    let meets = subst (λ b. MeetsAll kept b one text new) all step.meets in
    record {
      trees = h.trees ++ tree ∷ [];
      mets = h.mets ++ one;
      are = met_push name bytes number 0 place h.trees h.mets tree step.from end next h.are is_next numbered;
      reported = subst (λ s. IsReport (h.trees ++ tree ∷ []) (counted report s)) (sym step.is_sort) (report_push h.trees report tree h.reported);
      few =
          let more = subst (λ s. all_in (counted report s) ≡ all_in report + 1) (sym step.is_sort) (adds recorded report).all in
          let forward = step.forward in
          omega (arith, h.few, more, forward, here);
      twins = subst (AreTwins before (h.mets ++ one)) (sym meets.printed) (twins_append before h.mets one text meets.added h.twins meets.twins);
      known = subst (Knows kept) (append_assoc before h.mets one) meets.known;
    }

-- nothing is read yet
pub reads_begin : (bytes : List ℕ) → ReadsUpTo bytes 0
reads_begin bytes = ([], refl)

trees_push : (bytes : List ℕ) (place middle from end : ℕ) (trees : List GameTree) (tree : GameTree) → AreTrees bytes place trees middle → IsNextTree bytes middle from end tree →
    AreTrees bytes place (trees ++ tree ∷ []) end
trees_push bytes place middle from end [] tree h next = (from, end, subst (λ p. IsNextTree bytes p from end tree) (sym h) next, refl)
trees_push bytes place middle from end (first ∷ trees) tree h next = (h.0, h.1, h.2, trees_push bytes h.1 middle from end trees tree h.3 next)

-- a tree more is read
pub reads_on : (bytes : List ℕ) (place : ℕ) (reading after : Reading) (end : ℕ) → reading.bytes ≡ bytes → place ≡ reading.from → ReadsUpTo bytes place →
    ReadsNext reading after end → ReadsUpTo bytes end
reads_on bytes place reading after end same here h step =
    let next = subst (λ b. IsNextTree b place step.from end step.tree) same (subst (λ p. IsNextTree reading.bytes p step.from end step.tree) (sym here) step.is_next) in
    (h.0 ++ step.tree ∷ [], trees_push bytes 0 place step.from end h.0 step.tree h.1 next)

pub one_more : (report : Report) (found : Sort) → all_in (counted report found) ≡ all_in report + 1
one_more report sort.Game = omega arith
one_more report sort.Other = omega arith
one_more report sort.Refused = omega arith

-- where no tree more is met, all is as it was
pub meets_stay : (number : ℕ) (name : Option (List ℕ)) (before : List Met) (old kept : List Kept) (bytes : List ℕ) (place : ℕ) (report : Report) (text new : List ℕ) →
    (h : MeetsUpTo number name before old bytes place report text) → new ≡ text → Knows kept (before ++ h.mets) → MeetsUpTo number name before kept bytes place report new
meets_stay number name before old kept bytes place report text new h same known = record {
  trees = h.trees;
  mets = h.mets;
  are = h.are;
  reported = h.reported;
  few = h.few;
  twins = subst (AreTwins before h.mets) (sym same) h.twins;
  known = known;
}

-- A listing and a count of one input.
use Rattle.std.proofs.Common.{◌≡◌, ℕ, ◌+◌, cond, List, [], ◌∷◌, length, map, count_by, sum_by, Result, Ok, Err, refl, ap, sym, subst, ◌∙◌, arith}
use Rattle.std.proofs.lemmas.List.Sums.{sum_by-cons}
use Rattle.sgf_core.specs.Tree.{GameTree, main_line_of}
use Rattle.sgf_core.specs.Next.{IsNextTree, HasNoTree}
use Rattle.sgf_core.proofs.OneAnswer.{same_next}
use Rattle.go_record.specs.declared.records.Kind.{Kind}
use Rattle.go_record.specs.declared.records.Kind.TheVariants as kind
use Rattle.go_record.specs.declared.faults.RecordFault.{RecordFault}
use Rattle.shape_core.specs.declared.words.Kinds.{Kinds}
use Rattle.game_core.specs.Collection.{AreTrees, record_of_tree, games_among, others_among, refused_among}
use Rattle.tally_core.specs.Collection.{AreReplayed}
use Rattle.go_record.specs.Actions.{Actions, AreOnBoard}
use Rattle.tally_core.specs.Counts.{Replayed}
use Rattle.game_core.specs.Reports.{IsReport}
use Rattle.tally_core.specs.Counted.{IsCounted}
use Rattle.tally_core.specs.declared.collections.Counted.{Counted}
use Rattle.listing_core.specs.declared.lines.Line.{Line}
use Rattle.listing_core.specs.declared.lines.What.{What}
use Rattle.listing_core.specs.declared.lines.What.TheVariants as what
use Rattle.listing_core.specs.Listing.{IsWhat, AreLines}
use Rattle.listing_core.specs.Agreement.{Agrees, is_game, is_other, is_refused, occasions_in}
use Rattle.listing_core.proofs.LineLists.{lines_are_of_trees}
use Rattle.go_record.proofs.OnBoard.{is_on_board}
use Rattle.listing_core.proofs.OneNumber.{HaveOneResult, one_number}

not_next : (bytes : List ℕ) (from at stop : ℕ) (tree : GameTree) → IsNextTree bytes from at stop tree → HasNoTree bytes from → ⊥
not_next bytes from at stop tree next none = none at next.first.after next.first.begins

-- the trees of an input are the same however they are come by
same_trees : (bytes : List ℕ) (from : ℕ) (trees others : List GameTree) (end other_end : ℕ) → AreTrees bytes from trees end → AreTrees bytes from others other_end →
    HasNoTree bytes end → HasNoTree bytes other_end → trees ≡ others
same_trees bytes from [] [] end other_end h k none other_none = refl
same_trees bytes from [] (other ∷ others) end other_end h k none other_none =
    absurd (not_next bytes from k.0 k.1 other k.2 (subst (HasNoTree bytes) (sym h) none))
same_trees bytes from (tree ∷ trees) [] end other_end h k none other_none =
    absurd (not_next bytes from h.0 h.1 tree h.2 (subst (HasNoTree bytes) (sym k) other_none))
same_trees bytes from (tree ∷ trees) (other ∷ others) end other_end h k none other_none =
    let same = same_next bytes from h.0 h.1 tree k.0 k.1 other h.2 k.2 in
    let rest = same_trees bytes h.1 trees others end other_end h.3 (subst (λ f. AreTrees bytes f others other_end) (sym same.1) k.3) none other_none in
    cc (same.2, rest)

-- what one line says
record IsOne (recorded : Result Kind RecordFault) (found : What) : Type 0 where
  pub games : (records : List (Result Kind RecordFault)) → length (games_among (recorded ∷ records)) ≡ cond (is_game found) 1 0 + length (games_among records)
  pub others : (records : List (Result Kind RecordFault)) → others_among (recorded ∷ records) ≡ cond (is_other found) 1 0 + others_among records
  pub refused : (records : List (Result Kind RecordFault)) → refused_among (recorded ∷ records) ≡ cond (is_refused found) 1 0 + refused_among records

one : (recorded : Result Kind RecordFault) (found : What) → IsWhat recorded found → IsOne recorded found
one (Ok (kind.Go game)) (what.Game size moves occasions) h =
    record { games = λ records. omega arith; others = λ records. omega arith; refused = λ records. omega arith }
one (Ok (kind.Go game)) what.Other h = absurd h
one (Ok (kind.Go game)) (what.Refused fault) h = absurd h
one (Ok kind.Other) found h = subst (IsOne (Ok kind.Other)) (sym h)
    (record { games = λ records. omega arith; others = λ records. omega arith; refused = λ records. omega arith })
one (Err fault) found h = subst (IsOne (Err fault)) (sym h)
    (record { games = λ records. omega arith; others = λ records. omega arith; refused = λ records. omega arith })

-- what the lines of trees say
record AreCounts (trees : List GameTree) (lines : List Line) : Type 0 where
  pub games : length (games_among (map record_of_tree trees)) ≡ count_by (λ line. is_game line.what) lines
  pub others : others_among (map record_of_tree trees) ≡ count_by (λ line. is_other line.what) lines
  pub refused : refused_among (map record_of_tree trees) ≡ count_by (λ line. is_refused line.what) lines

counts : (bytes : List ℕ) (number place : ℕ) (trees : List GameTree) (end : ℕ) (lines : List Line) → AreLines bytes number place trees end lines → AreCounts trees lines
counts bytes number place [] end [] h = record { games = refl; others = refl; refused = refl }
counts bytes number place [] end (line ∷ lines) h = absurd (let e = h.1 in cc)
counts bytes number place (tree ∷ trees) end [] h = absurd h
counts bytes number place (tree ∷ trees) end (line ∷ lines) h =
    let is = one (record_of_tree tree) line.what h.1 in
    let rest = counts bytes (number + length (games_among (record_of_tree tree ∷ []))) line.to trees end lines h.3 in
    let records = map record_of_tree trees in
    record {
      games = is.games records ∙ ap (λ n. cond (is_game line.what) 1 0 + n) rest.games
          ∙ sym (sum_by-cons (λ (l : Line). cond (is_game l.what) 1 0) line lines);
      others = is.others records ∙ ap (λ n. cond (is_other line.what) 1 0 + n) rest.others
          ∙ sym (sum_by-cons (λ (l : Line). cond (is_other l.what) 1 0) line lines);
      refused = is.refused records ∙ ap (λ n. cond (is_refused line.what) 1 0 + n) rest.refused
          ∙ sym (sum_by-cons (λ (l : Line). cond (is_refused l.what) 1 0) line lines);
    }

pub agrees : (kinds : Kinds) (input : List ℕ) (first end : ℕ) (trees : List GameTree) (lines : List Line) (counted : Counted) → AreLines input first 0 trees end lines →
    HasNoTree input end → IsCounted kinds input counted → Agrees lines counted.report
agrees kinds input first end trees lines counted h none is =
    let same = same_trees input 0 trees is.trees end is.end (lines_are_of_trees input first 0 end trees lines h) is.written none is.no_more in
    let reported = subst (λ ts. IsReport ts counted.report) (sym same) is.reported in
    let all = counts input first 0 trees end lines h in
    record {
      games = sym all.games ∙ sym reported.games;
      others = sym all.others ∙ sym reported.others;
      refused = sym all.refused ∙ sym reported.refused;
    }

module _ (one_result : HaveOneResult) where
  -- a line more, and what was counted of its tree
  sums_first : (recorded : Result Kind RecordFault) (records : List (Result Kind RecordFault)) (found : What) (rest : ℕ) (games : List Replayed) →
      ((game : Actions) → recorded ≡ Ok (kind.Go game) → AreOnBoard game) → IsWhat recorded found → AreReplayed (games_among (recorded ∷ records)) games →
      ((others : List Replayed) → AreReplayed (games_among records) others → rest ≡ sum_by (λ game. length game.occasions) others) →
      occasions_in found + rest ≡ sum_by (λ game. length game.occasions) games
  sums_first (Ok (kind.Go game)) records (what.Game size moves occasions) rest [] on is h more = absurd h
  sums_first (Ok (kind.Go game)) records (what.Game size moves occasions) rest (one ∷ others) on is h more =
      let number = is.2 in
      omega (
        arith,
        number.counted,
        one_number one_result game number.occasions one.occasions (on game refl) number.replayed h.1,
        more others h.2,
        sum_by-cons (λ (replayed : Replayed). length replayed.occasions) one others,
      )
  sums_first (Ok (kind.Go game)) records what.Other rest games on is h more = absurd is
  sums_first (Ok (kind.Go game)) records (what.Refused fault) rest games on is h more = absurd is
  sums_first (Ok kind.Other) records found rest games on is h more =
      subst (λ w. occasions_in w + rest ≡ sum_by (λ game. length game.occasions) games) (sym is) (omega (arith, more games h))
  sums_first (Err fault) records found rest games on is h more =
      subst (λ w. occasions_in w + rest ≡ sum_by (λ game. length game.occasions) games) (sym is) (omega (arith, more games h))

  sums : (bytes : List ℕ) (number place : ℕ) (trees : List GameTree) (end : ℕ) (lines : List Line) (games : List Replayed) → AreLines bytes number place trees end lines →
      AreReplayed (games_among (map record_of_tree trees)) games → sum_by (λ line. occasions_in line.what) lines ≡ sum_by (λ game. length game.occasions) games
  sums bytes number place [] end [] [] h k = refl
  sums bytes number place [] end [] (one ∷ games) h k = absurd k
  sums bytes number place [] end (line ∷ lines) games h k = absurd (let e = h.1 in cc)
  sums bytes number place (tree ∷ trees) end [] games h k = absurd h
  sums bytes number place (tree ∷ trees) end (line ∷ lines) games h k =
      let next = number + length (games_among (record_of_tree tree ∷ [])) in
      sum_by-cons (λ (l : Line). occasions_in l.what) line lines
      ∙ sums_first (record_of_tree tree) (map record_of_tree trees) line.what (sum_by (λ line. occasions_in line.what) lines) games
      (is_on_board (main_line_of tree)) h.1 k (λ others more. sums bytes next line.to trees end lines others h.3 more)

  pub adds_up : (kinds : Kinds) (input : List ℕ) (first end : ℕ) (trees : List GameTree) (lines : List Line) (counted : Counted) → AreLines input first 0 trees end lines →
      HasNoTree input end → IsCounted kinds input counted → sum_by (λ line. occasions_in line.what) lines ≡ counted.dictionary.moves
  adds_up kinds input first end trees lines counted h none is =
      let same = same_trees input 0 trees is.trees end is.end (lines_are_of_trees input first 0 end trees lines h) is.written none is.no_more in
      let replayed = subst (λ ts. AreReplayed (games_among (map record_of_tree ts)) is.games) (sym same) is.replayed in
      sums input first 0 trees end lines is.games h replayed ∙ sym is.dictionary.moves

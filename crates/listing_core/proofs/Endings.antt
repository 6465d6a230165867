-- How a listing ends.
use Rattle.std.proofs.Common.{◌≡◌, ◌≢◌, ℕ, ◌+◌, ◌≤◌, Bool, true, false, cond, List, [], ◌∷◌, ◌++◌, length, map, Option, Some, None, MatchOption, Result, Ok, Err, refl, ap, sym, ◌∙◌, arith}
use Rattle.std.proofs.lemmas.List.{append-nil}
use Rattle.sgf_core.specs.Limit.{most_bytes}
use Rattle.sgf_core.specs.Tree.{GameTree}
use Rattle.sgf_core.specs.Next.{HasNoTree}
use Rattle.sgf_core.specs.Reading.{IsFaultAt}
use Rattle.sgf_core.specs.declared.faults.SgfFault.{SgfFault}
use Rattle.go_record.specs.declared.records.Kind.{Kind}
use Rattle.go_record.specs.declared.records.Kind.TheVariants as kind
use Rattle.go_record.specs.declared.faults.RecordFault.{RecordFault}
use Rattle.game_core.specs.Collection.{record_of_tree, games_among, others_among, refused_among}
use Rattle.game_core.specs.Reports.{IsReport}
use Rattle.game_core.specs.declared.reports.Report.{Report}
use Rattle.listing_core.specs.declared.asked.Asked.{Asked}
use Rattle.listing_core.specs.declared.listings.Ending.{Ending}
use Rattle.listing_core.specs.declared.listings.Listed.TheVariants as listed
use Rattle.listing_core.specs.Choice.{fault_piece}
use Rattle.listing_core.specs.Listing.{IsListing, Stops, is_none, listed_of, last_piece}
use Rattle.listing_core.specs.Inner.Reading.{IsEnding, all_in}

-- a report on a tree is none on no tree
counts_one : (recorded : Result Kind RecordFault) (records : List (Result Kind RecordFault)) →
    length (games_among (recorded ∷ records)) + others_among (recorded ∷ records) + refused_among (recorded ∷ records) ≢ 0
counts_one (Ok (kind.Go game)) records e = omega (arith, e)
counts_one (Ok kind.Other) records e = omega (arith, e)
counts_one (Err fault) records e = omega (arith, e)

no_trees : (trees : List GameTree) (report : Report) → IsReport trees report → is_none report ≡ true → trees ≡ []
no_trees [] report h none = refl
no_trees (tree ∷ trees) report h none =
    let zero : all_in report ≡ 0 = grind arith in
    absurd (counts_one (record_of_tree tree) (map record_of_tree trees) (omega (arith, zero, h.games, h.others, h.refused)))

some_trees : (trees : List GameTree) (report : Report) → IsReport trees report → is_none report ≡ false → trees ≢ []
some_trees [] report h some e =
    let games : report.games ≡ 0 = h.games in
    let others : report.others ≡ 0 = h.others in
    let refused : report.refused ≡ 0 = h.refused in
    grind (arith, some)
some_trees (tree ∷ trees) report h some e = absurd (cc)

-- why no further tree is listed
pub stops : (bytes : List ℕ) (fault : Option SgfFault) (trees : List GameTree) (report : Report) (end : ℕ) → IsReport trees report →
    MatchOption fault (HasNoTree bytes end) (IsFaultAt bytes end) → Stops (listed_of fault report) bytes trees end
stops bytes (Some fault) trees report end h s = s
stops bytes None trees report end h s = by_test (is_none report) refl
  where
    by_test : (b : Bool) → is_none report ≡ b → Stops (cond b listed.NoTree listed.Done) bytes trees end
    by_test true e = (s, no_trees trees report h e)
    by_test false e = (s, some_trees trees report h e)

-- what follows, where no fault was met
nothing_last : (asked : Asked) (report : Report) (end size : ℕ) → last_piece asked (listed_of None report) end size ≡ []
nothing_last asked report end size = by_test (is_none report)
  where
    by_test : (b : Bool) → last_piece asked (cond b listed.NoTree listed.Done) end size ≡ []
    by_test true = refl
    by_test false = refl

-- the listing of an input whose trees were listed, and what follows them
pub is_listing : (asked : Asked) (input text new : List ℕ) (ending : Ending) → length input ≤ most_bytes → IsEnding asked input text ending →
    new ≡ text ++ last_piece asked (listed_of ending.fault ending.report) ending.end (length input) →
    IsListing asked (record { listed = listed_of ending.fault ending.report; report = ending.report }) input new
is_listing asked input text new ending few h printed =
    let lists = h.lists in
    record {
      trees = lists.trees;
      end = ending.end;
      lines = lists.lines;
      few = few;
      of_trees = lists.are;
      stops = stops input ending.fault lists.trees ending.report ending.end lists.reported h.stops;
      reported = lists.reported;
      printed = printed ∙ ap (λ t. t ++ last_piece asked (listed_of ending.fault ending.report) ending.end (length input)) lists.printed;
    }

-- where no fault was met, nothing follows
pub last_none : (asked : Asked) (text : List ℕ) (fault : Option SgfFault) (report : Report) (end size : ℕ) → fault ≡ None →
    text ≡ text ++ last_piece asked (listed_of fault report) end size
last_none asked text fault report end size none =
    sym (ap (λ f. text ++ last_piece asked (listed_of f report) end size) none ∙ ap (λ t. text ++ t) (nothing_last asked report end size) ∙ append-nil text)

-- and where one was, its own
pub last_fault : (asked : Asked) (text new : List ℕ) (fault : Option SgfFault) (found : SgfFault) (report : Report) (end size : ℕ) → fault ≡ Some found →
    new ≡ text ++ fault_piece asked end size found → new ≡ text ++ last_piece asked (listed_of fault report) end size
last_fault asked text new fault found report end size some printed =
    printed ∙ ap (λ f. text ++ last_piece asked (listed_of f report) end size) (sym some)

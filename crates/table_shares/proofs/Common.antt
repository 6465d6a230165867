-- The names that the proofs of this crate cite most, passed on from one place. Declares nothing.
pub use Rattle.gather_core.proofs.Added.{earlier_assoc, earlier_none}
pub use Rattle.gather_core.proofs.Calls.{calls_seen, calls_through}
pub use Rattle.gather_core.specs.Adding.{IsAdded}
pub use Rattle.gather_core.specs.Covering.{Covers, all_games, times_of}
pub use Rattle.gather_core.specs.Entering.{CallsOnly, EntersOnly, IsCall, IsMarkAt, MarksOnly}
pub use Rattle.gather_core.specs.Gathering.{AreWithin, IsGathered, all_moves, all_rows, gathered_entry}
pub use Rattle.gather_core.specs.Rows.{earlier, first_of, played_of, there_of}
pub use Rattle.gather_core.specs.Shares.{Added, Held, IsPatternOf, IsShare, IsShareOf, game_of}
pub use Rattle.gather_core.specs.declared.rows.Row.{Row}
pub use Rattle.go_record.specs.Actions.{Actions}
pub use Rattle.harvest_faults.specs.declared.faults.HarvestFault.{HarvestFault}
pub use Rattle.probe_core.specs.Sequential.{IsAbsent, IsFree, IsFull, IsNumber}
pub use Rattle.probe_core.specs.declared.calls.Answer.{Answer}
pub use Rattle.range_core.specs.Entries.{IsShape}
pub use Rattle.shape_core.specs.declared.words.Kinds.{Kinds}
pub use Rattle.shape_dict.specs.Contents.{entry_of}
pub use Rattle.shape_dict.specs.declared.entries.Entry.{Entry}
pub use Rattle.slot_table.proofs.Contents.{full_keys, key_is_numbered, keys_differ, number_below, one_key, one_number}
pub use Rattle.slot_table.proofs.Histories.{length-content}
pub use Rattle.slot_table.proofs.Later.{later_through}
pub use Rattle.slot_table.specs.Batches.{AreEnteredUntil, AreMade, AreTold, IsFullBefore, IsTold, answer_at, entered}
pub use Rattle.slot_table.specs.History.{IsAtMost, IsLegal, Keeps, TellsAt, content_of, keys_of, least_at}
pub use Rattle.slot_table.specs.Passes.{IsLater, IsPassOf, Known, calls_of}
pub use Rattle.slot_table.specs.declared.entries.Happened.{Happened}
pub use Rattle.std.proofs.lemmas.Bool.{OnTrue_from, cases_eq, cases_lt}
pub use Rattle.std.proofs.lemmas.Bool.Decides.{nat_tests}
pub use Rattle.std.proofs.lemmas.List.{drop_more, get_or-map, get_or-set_other, get_or-set_same, get_or-take, get_or_default, get_or_push, length-map, length-set, map-append, map-set, set-get_or, take-append-drop, take_all, take_more}
pub use Rattle.std.proofs.lemmas.List.Elements.{All-contains, All-contains_itself, All-from_get_or, All-from_recursion, All-get_or, All-head, All-more, All-push, All-tail, All-weaker, Contains-append_cases, Contains-append_left, Contains-append_right, Contains-get_or, Contains-push, Contains-push_cases, recursion_from_All}
pub use Rattle.std.proofs.lemmas.List.Folds.{find-append}
pub use Rattle.std.proofs.lemmas.List.Sums.{sum_by-append, sum_by-cons, sum_by-set, sum_by_more, sum_by_push}
pub use Rattle.std.proofs.lemmas.Option.{IfSome_then}
pub use Rattle.std.proofs.lemmas.Result.{IfErr-weaker, IfOk-weaker, err_from_is_err_and}
pub use Rattle.std.specs.List.{All, AllByRecursion, filter, find, flat_map}
pub use Rattle.std.specs.List.Sorted.{IsNonDecreasingBy, IsPermutation, IsStrictlyIncreasing}
pub use Rattle.std.specs.Option.{is_some, option_or}
pub use Rattle.std.specs.Prelude.{count_by, sum_by}
pub use Rattle.table_shares.specs.Adding.{HasGrown, HasItsRow, IsAddFault, IsEntryOf, IsKept, IsMarkOf, IsMarked, IsPrepareFault, IsRowed, IsRowedAfter}
pub use Rattle.table_shares.specs.Asking.{AsksOnly}
pub use Rattle.table_shares.specs.Checking.{IsStranger, Stand, StandBelow, is_shape, is_stranger, shape_at, stranger_in}
pub use Rattle.table_shares.specs.Confirming.{HasShape, HasShapeAt, IsConfirmation, IsKnown, IsUnconfirmed, IsUnknown, first_shape}
pub use Rattle.table_shares.specs.Covering.{IsLeastDouble}
pub use Rattle.table_shares.specs.GatherFaults.{IsGatherFault}
pub use Rattle.table_shares.specs.Inner.Adding.{HasFresh, IsPrepared}
pub use Rattle.table_shares.specs.Inner.Checking.{IsBeyondFault, IsStandFault, unlike_of}
pub use Rattle.table_shares.specs.Inner.Covering.{AreNoted}
pub use Rattle.table_shares.specs.Inner.Entering.{AreMarked, AreNumbers, IsFirstRefusal, IsMarkAmong}
pub use Rattle.table_shares.specs.Inner.Gathering.{AreOneEach}
pub use Rattle.table_shares.specs.Inner.Leasts.{IsLeastSought, IsSought}
pub use Rattle.table_shares.specs.Inner.Making.{Gained, HaveRows, IsBelow, IsBlankOf, IsMakingFault, IsRowFault}
pub use Rattle.table_shares.specs.Inner.Numbers.{AreSums}
pub use Rattle.table_shares.specs.Inner.Raising.{AreRaised, AreRowed, IsOf, IsRaised, game_met, meeting_at, raised}
pub use Rattle.table_shares.specs.Inner.Rows.{ArePlaces, HasNoRow}
pub use Rattle.table_shares.specs.Inner.Totals.{AreAlike, AreEntriesOf, AreListed, IsLargeAt, IsListFault, IsListed, IsSumFault, IsTotal, IsTotalAt, IsUnlike, played_at, there_at, with_row}
pub use Rattle.table_shares.specs.Inner.Visiting.{AgreeBelow, AreVisited}
pub use Rattle.table_shares.specs.Raising.{Numbered, numbered_of, weight_among, weight_of}
pub use Rattle.table_shares.specs.Rows.{AreOfNumbers, blank, first_at, row_at, row_of}
pub use Rattle.table_shares.specs.declared.agreeing.Differs.{Differs}
pub use Rattle.tally_core.specs.Counts.{kinds_of, there_in}
pub use Rattle.tally_core.specs.Games.{counts_diamonds}
pub use Rattle.tally_core.specs.Walk.{IsWalk, shapes_of, there_among}
pub use Rattle.tally_core.specs.declared.meetings.Meeting.{Meeting}

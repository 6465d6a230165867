-- The names that the proofs of this crate cite most, passed on from one place. Declares nothing.
pub use Rattle.gather_core.specs.Adding.{IsAdded}
pub use Rattle.gather_core.specs.Covering.{Covers, all_games, times_of}
pub use Rattle.gather_core.specs.Entering.{CallsOnly, EntersOnly, IsCall, IsMarkAt, MarksOnly}
pub use Rattle.gather_core.specs.Gathering.{AreWithin, HaveGames, IsGathered, all_added, all_moves, all_rows, gathered_entry, replayed_at, replayed_games}
pub use Rattle.gather_core.specs.Rows.{ArePlayedThere, earlier, first_of, played_of, there_of}
pub use Rattle.gather_core.specs.Shares.{Added, Held, IsShare, IsShareOf, first_in, game_of, replayed_of}
pub use Rattle.gather_core.specs.declared.rows.Row.{Row}
pub use Rattle.go_record.specs.Actions.{Actions}
pub use Rattle.harvest_faults.specs.declared.faults.HarvestFault.{HarvestFault}
pub use Rattle.probe_core.specs.Sequential.{IsAbsent, IsFull, IsNumber}
pub use Rattle.probe_core.specs.declared.calls.Answer.{Answer}
pub use Rattle.range_core.specs.Entries.{IsShape}
pub use Rattle.shape_core.specs.Word.{count_from}
pub use Rattle.shape_core.specs.declared.words.Kinds.{Kinds}
pub use Rattle.shape_dict.specs.Contents.{Contents, IsDictionary, entry_of}
pub use Rattle.shape_dict.specs.declared.entries.Entry.{Entry}
pub use Rattle.slot_table.specs.History.{IsAtMost, IsLegal, Keeps, content_of, least_at}
pub use Rattle.slot_table.specs.Passes.{IsLater, IsPassOf, Known}
pub use Rattle.slot_table.specs.declared.entries.Happened.{Happened}
pub use Rattle.std.proofs.lemmas.Bool.Decides.{nat_tests}
pub use Rattle.std.proofs.lemmas.List.{append-nil, length-map, map-append, take-append-drop, take_all, take_more}
pub use Rattle.std.proofs.lemmas.List.Elements.{All-append, All-contains, All-from_recursion, All-head, All-nil, All-tail, All-weaker, Contains-append_left, Contains-append_right, Contains-get_or, recursion_from_All}
pub use Rattle.std.proofs.lemmas.List.Sums.{position_or_len_is, sum_by-append, sum_by-cons, sum_by_more, sum_by_push}
pub use Rattle.std.proofs.lemmas.Option.{get_or_from_slice_get, slice_get-map}
pub use Rattle.std.proofs.lemmas.Result.{err_from_is_err_and}
pub use Rattle.std.specs.List.{AllByRecursion, AllZip, flat_map}
pub use Rattle.std.specs.List.Sorted.{IsStrictlyIncreasing}
pub use Rattle.std.specs.Option.{option_map}
pub use Rattle.std.specs.Prelude.{slice_get, sum_by}
pub use Rattle.tally_core.specs.Counts.{Replayed, kinds_of, played_in, there_in}
pub use Rattle.tally_core.specs.Games.{IsDictionaryOf, counted_entry, counts_diamonds, first_game, played_sum, there_sum}
pub use Rattle.tally_core.specs.Walk.{IsWalk, there_among}
pub use Rattle.tally_core.specs.declared.meetings.Meeting.{Meeting}

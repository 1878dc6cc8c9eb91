-- What the crates above cite of this one, in one place. Declares nothing.
pub use Rattle.model.proofs.AllLaws.{all_keep, commits_fit, composes, edits, finds, fits_newest, keeps, leaves}
pub use Rattle.model.proofs.AllLaws.{ordered, rebases}
pub use Rattle.model.proofs.CompositionLemmas.{cells_ascend, effect_at-composed_effects}
pub use Rattle.model.proofs.CompositionLemmas.{row_at-table_with, sorted-composed_effects}
pub use Rattle.model.proofs.EntriesLemmas.{ordered-canonical_entries}
pub use Rattle.model.proofs.FirstClashLemmas.{first_clash-least}
pub use Rattle.model.proofs.FittingLemmas.{sets_no_key-fits}
pub use Rattle.model.proofs.HistoryLemmas.{AreCommits-drop, table_with_all-drop, left_true, right_true}
pub use Rattle.model.proofs.HistoryLemmas.{IsSnapshot-any, IsSnapshot-table_after, due_reply-cut, length-table_after}
pub use Rattle.model.proofs.LimitLemmas.{length-effects_after}
pub use Rattle.model.proofs.MapsLemmas.{below_less, below_tied, both, changed_by, each_at, find-alter, find-alter_all}
pub use Rattle.model.proofs.MapsLemmas.{find_below, find_first, find_past, first, holds_at, less, same_map, second}
pub use Rattle.model.proofs.MapsLemmas.{sorted-alter, sorted-alter_all, turn_greater, turn_less, without_below}
pub use Rattle.model.proofs.MergingLemmas.{all_after, changes_at_after, changes_at_here, changes_at_other, lt_of}
pub use Rattle.model.proofs.MergingLemmas.{merged_rows-canonical_entries, merged_rows_from_delete}
pub use Rattle.model.proofs.MergingLemmas.{merged_rows_from_insert, merged_rows_from_none, merged_rows_from_nothing}
pub use Rattle.model.proofs.MergingLemmas.{merged_rows_from_past, of_lt, rank_below}
pub use Rattle.model.proofs.PositionsLemmas.{single_delete, first_place}
pub use Rattle.model.proofs.RankLemmas.{deletes_of, fits_other, inserts_of, is_below, one_if, rank-cons}
pub use Rattle.model.proofs.RankLemmas.{rank-table_with, sum_below}
pub use Rattle.model.proofs.RebasingLemmas.{adds_none, is_placed, moved_one, rank-le, rank-lt, spread}
pub use Rattle.model.proofs.SplitLemmas.{canonical_entries-at_key, canonical_entries-placed, rank-le-length}
pub use Rattle.model.proofs.TableLemmas.{is_keyed_table-table_of, rows_of-table_of, table_of-rows_of}
pub use Rattle.model.proofs.WriteEditsLemmas.{deleted, fit_so_far, fits_here, inserted, modified}
pub use Rattle.model.proofs.WritesLemmas.{done_fits}
pub use Rattle.model.proofs.MapsLemmas.{equal}
pub use Rattle.model.proofs.MapsLemmas.{same_key}
pub use Rattle.model.proofs.MapsLemmas.{left_false}
pub use Rattle.model.proofs.MapsLemmas.{right_false}
pub use Rattle.model.proofs.RankLemmas.{add_up}
pub use Rattle.model.proofs.CompositionLemmas.{set_cells_move}

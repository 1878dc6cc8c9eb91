-- What the crates above cite of this one, in one place. Declares nothing.
pub use Rattle.delta.proofs.AheadLemmas.{next_is}
pub use Rattle.delta.proofs.BySidLemmas.{base_change-effect, past-kept}
pub use Rattle.delta.proofs.ChangesLemmas.{HasInsert, has_insert, nothing, all_take}
pub use Rattle.delta.proofs.CountedLemmas.{next_passes}
pub use Rattle.delta.proofs.CountLemmas.{counts-le, delete_count-append, delete_count-cons, delete_worth}
pub use Rattle.delta.proofs.CountLemmas.{insert_count-append, insert_count-cons, insert_worth}
pub use Rattle.delta.proofs.LawsLemmas.{Known, finds_effect, known, may_call, may_delete, may_insert, may_set}
pub use Rattle.delta.proofs.LengthLemmas.{length-put_del, length-put_ins, length-put_mod}
pub use Rattle.delta.proofs.OrderLemmas.{entry_cmp-trans, ordered_right}
pub use Rattle.delta.proofs.PositionsLemmas.{deletes-before-insert}
pub use Rattle.delta.proofs.PutLemmas.{run-del, run-mod}
pub use Rattle.delta.proofs.SearchLemmas.{is_true, greater}
pub use Rattle.delta.proofs.KeyPlaceLemmas.{fitting_effects, high_all, low_all, keyed_effects, rank_is, sorted_effects, sorted_table, split_is}
pub use Rattle.delta.proofs.RowCountLemmas.{inserts_less_deletes, length-entries_over, insert_count-any, inserts_few, rows_after}
pub use Rattle.delta.proofs.ChangesLemmas.{some_of}
pub use Rattle.delta.proofs.ChangesLemmas.{cell_of}
pub use Rattle.delta.proofs.GapLemmas.{below_passes}
pub use Rattle.delta.proofs.LawsLemmas.{length-fits}

-- What the crates above cite of this one, in one place. Declares nothing.
pub use Rattle.stable.proofs.BelowLemmas.{decided}
pub use Rattle.stable.proofs.ColumnsLemmas.{keys_of}
pub use Rattle.stable.proofs.ExtendLemmas.{stands_at}
pub use Rattle.stable.proofs.FaultLemmas.{no_build_fault, stable_width}
pub use Rattle.stable.proofs.RowsLemmas.{fit_at, length_rows, width_of}
pub use Rattle.stable.proofs.StableLemmas.{all_shaped}
pub use Rattle.stable.proofs.WholeLemmas.{all_even, all_rows, all_stable, all_typed, row_count_is, whole}
pub use Rattle.stable.proofs.RunLemmas.{run_of_block}

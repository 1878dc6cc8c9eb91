-- What the crates above cite of this one, in one place. Declares nothing.
pub use Rattle.merge.proofs.StackLemmas.{layer_rows, merges, over-canonical_entries, merged_rows-nothing}
pub use Rattle.merge.proofs.CursorLemmas.{drop-at}
pub use Rattle.merge.proofs.KeyRowLemmas.{layer_there}

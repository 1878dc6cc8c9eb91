-- What the crates above cite of this one, in one place. Declares nothing.
pub use Rattle.txn.proofs.MarkLemmas.{gone_back_IsMark, made_IsMark, met_GoesOn, refused_GoesOn, written_IsMark}
pub use Rattle.txn.proofs.ReadsLemmas.{is_layer}
pub use Rattle.txn.proofs.TxnLemmas.{image_within, over}
pub use Rattle.txn.proofs.VersionLemmas.{lower_table_is, no_layer, version_of-alone}

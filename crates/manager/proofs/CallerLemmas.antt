-- What the crates above cite of this one, in one place. Declares nothing.
pub use Rattle.manager.proofs.HistoryLemmas.{above_base, commits_from-append, granted_when, newest_whole, newest_within, own_over}
pub use Rattle.manager.proofs.HistoryLemmas.{recorded_is, table_with_all-later, table_with_all-one, take_length}
pub use Rattle.manager.proofs.FoldLemmas.{has_folded}
pub use Rattle.manager.proofs.CutLemmas.{IsOwn-cut_of}
pub use Rattle.manager.proofs.PreparedLemmas.{grant_is, granted, granted_over, newest_few, same_number}
pub use Rattle.manager.proofs.RestackLemmas.{stable_of-folded}

-- What the crates above cite of this one, in one place. Declares nothing.
pub use Rattle.publishing.proofs.Beginnings.{prefix_self, prefix_trans, prefix_length, prefix_get}
pub use Rattle.publishing.proofs.Steps.{admits, begins_self, fold_last_is, forks, grows, merges, sees}
pub use Rattle.publishing.proofs.CommitsLemmas.{all_commits-prefix, all_commits-push}
pub use Rattle.publishing.proofs.ListedLemmas.{begun_here, begun_more, listed_at_opening, own_here, number_is, reply_here, version_is}
pub use Rattle.publishing.proofs.ItemLemmas.{granted_within, listed_commit, listed_cut, listed_over, listed_refused, listed_same}
pub use Rattle.publishing.proofs.ItemLemmas.{of_list, shown_in-push, version_commit, version_cut, version_same}

-- What the crates above cite of this one, beside what crosses threads. Declares nothing.
pub use Rattle.shared.proofs.EndingLemmas.{closed_at_opening}

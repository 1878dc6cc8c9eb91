-- What the crates above cite of this one, in one place. Declares nothing.
pub use Rattle.counted.proofs.Totals.{shift_within, total_within, total-more}

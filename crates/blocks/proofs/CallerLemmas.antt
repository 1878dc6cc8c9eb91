-- What the crates above cite of this one, in one place. Declares nothing.
pub use Rattle.blocks.proofs.BitsLemmas.{length-packed}
pub use Rattle.blocks.proofs.EncodingLemmas.{is_encoded, encoding_reads_back, both_held}
pub use Rattle.blocks.proofs.IntsLemmas.{AreBytes-drop, AreBytes-take}
pub use Rattle.blocks.proofs.LawsLemmas.{is_payload, reads_back}
pub use Rattle.blocks.proofs.RunLemmas.{all_take, all_drop}

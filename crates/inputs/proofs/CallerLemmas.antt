-- What the crates above cite of this one, in one place. Declares nothing.
pub use Rattle.inputs.proofs.ScriptLemmas.{drop-slice_get}
pub use Rattle.inputs.proofs.CellLemmas.{not_utf8}
pub use Rattle.inputs.proofs.ReadLemmas.{field-drop, field-there}

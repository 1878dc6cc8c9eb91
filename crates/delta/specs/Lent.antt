-- The change of an entry, as it is lent.
pub use Rattle.counted.specs.Changes.{change_of}

-- What a delta tree is to its callers: its lawful list of entries.
use Rattle.std.specs.Prelude.{ℕ, List}
use Rattle.model.specs.declared.entry.Entry.{Entry}

-- how many of a row's values are its key, and the entries in order
pub record Tree : Type 0 where
  pub key_cols : ℕ
  pub entries : List Entry

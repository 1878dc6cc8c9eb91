-- What a node is seen as.
use Rattle.std.specs.Prelude.{ℕ, List}
use Rattle.model.specs.declared.entry.Entry.{Entry}

-- its number of levels, how many entries or children it has, and the entries below it in order
pub record View : Type 0 where
  pub depth : ℕ
  pub width : ℕ
  pub items : List Entry

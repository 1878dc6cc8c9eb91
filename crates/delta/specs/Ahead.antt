-- The entries of a list from an index on.
use Rattle.std.specs.Prelude.{◌≡◌, ◌+◌, ◌≤◌, List, length, drop, slice_get}
use Rattle.std.specs.Option.{option_copied}
use Rattle.model.specs.declared.entry.Entry.{Entry}
use Rattle.delta.specs.declared.sorted.Ahead.{Ahead}

-- those from its index on, with the first of them at hand, are ahead
pub record IsAhead (entries : List Entry) (ahead : Ahead) : Type 0 where
  pub within : ahead.index ≤ length entries
  pub next_is : option_copied ahead.next ≡ slice_get entries ahead.index
  pub rest_is : ahead.rest ≡ drop (ahead.index + 1) entries

-- What is kept of the first entry of a child.
use Rattle.std.specs.Prelude.{ℕ, Option, List, slice_get}
use Rattle.std.specs.Option.{option_map}
use Rattle.model.specs.declared.entry.Entry.{Entry}
use Rattle.counted.specs.declared.entry.Lead.{Lead}
use Rattle.counted.specs.Sums.{weight_of}

abbrev pub lead_of : Entry → Lead
lead_of e = record { sid = e.sid; weight = weight_of e.change }

-- the same of the entry at an index, if there is one
abbrev pub lead_at : List Entry → ℕ → Option Lead
lead_at entries n = option_map lead_of (slice_get entries n)

-- The rows that a reply shows, by where they are kept.
use Rattle.std.specs.Prelude.{⊤, Option, Some, None, List, [], Box}
use Rattle.std.specs.declared.alloc.Global.{Global}
use Rattle.values.specs.declared.row.Row.{Row}
use Rattle.stable.specs.Stable.{Stable, IsStable}

abbrev pub kept_rows : Option (Box Stable Global) → List Row
kept_rows None = []
kept_rows (Some table) = table.value.rows

-- rows that are kept are a stable table's
abbrev pub AreKept : Option (Box Stable Global) → Type 0
AreKept None = ⊤
AreKept (Some table) = IsStable table.value

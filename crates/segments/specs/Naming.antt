-- Which table of a database is meant.
use Rattle.std.specs.Prelude.{ℕ, ◌+◌, if◌then◌else◌, Option, Some, None, Result, Ok, Err, List, [], ◌∷◌}
use Rattle.std.specs.Str.{bytes_eq}
use Rattle.manifest.specs.Manifest.{Table}
use Rattle.segments.specs.declared.fault.NameFault.{NameFault}
use Rattle.segments.specs.declared.fault.NameFault.TheVariants.{NoTable, NotNamed}

-- where the first table of a name stands, counted from `at`
unfoldable pub place_from : ℕ → List ℕ → List Table → Result ℕ NameFault
place_from at name [] = Err NoTable
place_from at name (t ∷ ts) = if bytes_eq t.line.name name then Ok at else place_from (at + 1) name ts

-- the table that is meant: the first of the name; or the one table, where none is named
abbrev pub place_of : Option (List ℕ) → List Table → Result ℕ NameFault
place_of (Some name) ts = place_from 0 name ts
place_of None (t ∷ []) = Ok 0
place_of None [] = Err NotNamed
place_of None (t ∷ u ∷ ts) = Err NotNamed

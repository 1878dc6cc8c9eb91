-- What the newest generation of columns is, for all columns that can be read.
use Rattle.std.specs.Prelude.{◌≡◌, ℕ, ◌<◌, ◌≤◌, true, Option, Some, None, List, length, Ok}
use Rattle.std.specs.List.{AllByRecursion, list_all}
use Rattle.values.specs.declared.value.ColumnType.{ColumnType}
use Rattle.blocks.specs.Payload.{AreBytes}
use Rattle.frames.specs.declared.frame.Part.{Part}
use Rattle.devices.specs.Stored.{all_parts, is_whole, newest_whole}

-- a generation whole in each of the columns
abbrev pub IsWholeInAll : List (List Part) → ℕ → Type 0
IsWholeInAll columns g = list_all (is_whole g) columns ≡ true

-- the greatest number of this kind, or none where there is none
abbrev pub IsGreatest : (ℕ → Type 0) → Option ℕ → Type 0
IsGreatest Is None = (g : ℕ) → Is g → ⊥
IsGreatest Is (Some g) = Is g × ((other : ℕ) → Is other → other ≤ g)

-- of columns that can be read, the newest generation is the greatest that is whole in each of them
abbrev pub NewestIsTheGreatest : Type 0
NewestIsTheGreatest = (types : List ColumnType) (columns : List (List ℕ)) (parts : List (List Part))
    → 0 < length columns → length columns ≡ length types → AllByRecursion AreBytes columns → all_parts 0 types columns ≡ Ok parts
    → IsGreatest (IsWholeInAll parts) (newest_whole parts)

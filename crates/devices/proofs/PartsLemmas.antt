-- Columns read one after the other, as a loop does.
use Rattle.std.proofs.Common.{◌≡◌, ℕ, ◌+◌, ◌<◌, Some, List, [], ◌∷◌, ◌++◌, length, drop, get_or, Result, Ok, arith}
use Rattle.values.specs.declared.value.ColumnType.{ColumnType}
use Rattle.frames.specs.declared.fault.ReadFault.{ReadFault}
use Rattle.frames.specs.declared.frame.Part.{Part}
use Rattle.frames.specs.Reading.{◌>>=◌, frames_of, parts_after, Fails}
use Rattle.devices.specs.Stored.{all_parts}
use Rattle.std.proofs.lemmas.Grind.{common_steps}

-- columns that were read before, and those that are read now
abbrev pub columns_after : List (List Part) → Result (List (List Part)) ReadFault → Result (List (List Part)) ReadFault
columns_after front reading = reading >>= λ columns. Ok (front ++ columns)

module _ (types : List ColumnType) (columns : List (List ℕ)) (col : ℕ) (d : ColumnType) (e : List ℕ) (front : List (List Part))
    (total : Result (List (List Part)) ReadFault)
    (few : col < length types) (even : length columns ≡ length types)
    (so_far : columns_after front (all_parts col (drop col types) (drop col columns)) ≡ total) where
  -- a column more
  pub columns_on : (parts : List Part)
      → parts_after [] (frames_of col (Some (get_or types col d)) (get_or columns col e)) ≡ Ok parts
      → columns_after (front ++ parts ∷ []) (all_parts (col + 1) (drop (col + 1) types) (drop (col + 1) columns)) ≡ total
  columns_on parts read = grind (arith, common_steps)

  -- a fault
  pub columns_fault : (fault : ReadFault)
      → Fails fault (parts_after [] (frames_of col (Some (get_or types col d)) (get_or columns col e))) → Fails fault total
  columns_fault fault failed = grind (arith, common_steps)

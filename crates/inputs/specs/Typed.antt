-- What every script keeps: each call is of a client that it has, and its values are of their columns' types.
use Rattle.std.specs.Prelude.{ℕ, ◌<◌, Bool, true, false, ◌&&◌, IsTrue, Option, Some, None, List, [], ◌∷◌, length, slice_get}
use Rattle.std.specs.List.{All}
use Rattle.values.specs.Shape.{Columns, has_type}
use Rattle.values.specs.declared.value.ColumnType.{ColumnType}
use Rattle.values.specs.declared.value.Value.{Value}
use Rattle.model.specs.declared.write.Write.{Write as Written}
use Rattle.model.specs.declared.write.Write.TheVariants.{Insert, Delete, Set}
use Rattle.inputs.specs.Calls.{key_types}
use Rattle.inputs.specs.declared.call.Call.{Call}
use Rattle.inputs.specs.declared.call.Call.TheVariants.{Begin, Write, Read, Commit, Abort, Fold, Checkpoint, Cut}
use Rattle.inputs.specs.declared.call.ClientCall.{ClientCall}
use Rattle.inputs.specs.declared.call.Read.{Read as Reading}
use Rattle.inputs.specs.declared.call.Read.TheVariants.{Get, At, Rank, Len, Scan}

-- whether the values are of these types, one of each; a text may have any length
abbrev pub are_of_types : List ColumnType → List Value → Bool
are_of_types [] [] = true
are_of_types [] (value ∷ values) = false
are_of_types (type ∷ types) [] = false
are_of_types (type ∷ types) (value ∷ values) = has_type type value && are_of_types types values

-- whether there is such a column, and the value is of its type
abbrev pub is_of_column : Option ColumnType → Value → Bool
is_of_column None value = false
is_of_column (Some type) value = has_type type value

-- whether the row, the key and the cell are of their columns' types; a text may have any length, and the cell be of the key
abbrev pub is_typed_write : Columns → Written → Bool
is_typed_write schema (Insert row) = are_of_types schema.types row
is_typed_write schema (Delete key) = are_of_types (key_types schema) key
is_typed_write schema (Set key col value) = are_of_types (key_types schema) key && is_of_column (slice_get schema.types col) value

-- whether the key that is read is so
abbrev pub is_typed_read : Columns → Reading → Bool
is_typed_read schema (Get key) = are_of_types (key_types schema) key
is_typed_read schema (At rid) = true
is_typed_read schema (Rank key) = are_of_types (key_types schema) key
is_typed_read schema Len = true
is_typed_read schema (Scan from to) = true

-- whether what a call writes or reads is so
abbrev pub is_typed_call : Columns → Call → Bool
is_typed_call schema Begin = true
is_typed_call schema (Write write) = is_typed_write schema write
is_typed_call schema (Read read) = is_typed_read schema read
is_typed_call schema Commit = true
is_typed_call schema Abort = true
is_typed_call schema Fold = true
is_typed_call schema Checkpoint = true
is_typed_call schema Cut = true

-- a script: the schema that it was read under, its clients' names and its calls
pub record Typed : Type 0 where
  pub schema : Columns
  pub clients : List (List ℕ)
  pub calls : List ClientCall

pub record IsTyped (script : Typed) : Type 0 where
  pub numbered : All (λ call. call.client < length script.clients) script.calls
  pub typed : All (λ call. IsTrue (is_typed_call script.schema call.call)) script.calls

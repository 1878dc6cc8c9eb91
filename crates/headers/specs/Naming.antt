-- A schema of columns that are named one by one.
use Rattle.std.specs.Prelude.{◌≡◌, ◌≢◌, ◌<◌, ◌⊎◌, ℕ, true, false, Some, List, [], length, get_or}
use Rattle.values.specs.Shape.{Columns, schema_fault}
use Rattle.values.specs.declared.value.ColumnType.{ColumnType}
use Rattle.inputs.specs.declared.fault.TableFault.{TableFault}
use Rattle.inputs.specs.declared.fault.TableFault.TheVariants.{NoHeader, BadHeader, Schema, BadCount, BadText, BadCell, TextTooLong, RepeatedKey, TooManyRows, NoMemory}
use Rattle.headers.specs.Spelling.{is_name}

abbrev pub columns_of : List (List ℕ) → List ColumnType → ℕ → Columns
columns_of names types key_cols = record { names = names; types = types; key_cols = key_cols }

-- a schema has these names and types, and so many columns of a key, and a header says each name
pub record IsNamed (names : List (List ℕ)) (types : List ColumnType) (key_cols : ℕ) (schema : Columns) : Type 0 where
  pub schema_is : schema ≡ columns_of names types key_cols
  pub names_are : (col : ℕ) → col < length names → is_name (get_or names col []) ≡ true

-- columns are no schema, and this is why: there are not as many types as names, a name is one that no header says, or no schema has them
abbrev pub IsUnnamed : List (List ℕ) → List ColumnType → ℕ → TableFault → Type 0
IsUnnamed names types key_cols (BadHeader col) =
    (length names ≢ length types) ⊎ ((col < length names) × (is_name (get_or names col []) ≡ false))
IsUnnamed names types key_cols (Schema fault) = schema_fault (columns_of names types key_cols) ≡ Some fault
IsUnnamed names types key_cols NoMemory = Unit {0}
IsUnnamed names types key_cols NoHeader = ⊥
IsUnnamed names types key_cols (BadCount number) = ⊥
IsUnnamed names types key_cols (BadText number col) = ⊥
IsUnnamed names types key_cols (BadCell number col) = ⊥
IsUnnamed names types key_cols (TextTooLong number col) = ⊥
IsUnnamed names types key_cols (RepeatedKey number) = ⊥
IsUnnamed names types key_cols TooManyRows = ⊥

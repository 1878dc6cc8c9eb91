-- What comes of opening a manager over columns that C gives.
use Rattle.std.specs.Prelude.{◌≡◌, ◌≢◌, ◌<◌, ◌⊎◌, ℕ, Bool, Option, IsSome, IfSome, Some, List, get_or, length, map}
use Rattle.values.specs.Shape.{Columns}
use Rattle.values.specs.declared.value.ColumnType.{ColumnType}
use Rattle.values.specs.declared.value.ColumnType.TheVariants as column
use Rattle.stable.specs.Stable.{Stable}
use Rattle.stable.specs.declared.fault.BuildFault.TheVariants.{NotAscending}
use Rattle.headers.specs.Naming.{IsNamed}
use Rattle.manager.specs.Managed.{Managed}
use Rattle.pdt_c.specs.Filling.{given_at, AllGiven, IsNoTable, IsTableGiven, IsUnfilled}
use Rattle.pdt_c.specs.Told.{code_of_type}
use Rattle.pdt_c.specs.Opening.{opened_counting, rule_of}
use Rattle.pdt_c.specs.declared.codes.TheConstants.{DONE, NOT_ASCENDING, SHAPE}
use Rattle.pdt_c.specs.declared.calls.opening_columns.Place.{Place}

-- a manager that was opened on the table of these columns
pub record IsOpenedOnGiven (schema : Columns) (all : AllGiven) (rows row_limit recent : ℕ) (by_row : Bool) (m : Managed) : Type 0 where
  pub table : Stable
  pub given : IsTableGiven schema all rows table
  pub opened_is : m ≡ opened_counting table row_limit recent (rule_of by_row)

-- under a schema: the manager, or the place of the first fault, and nothing is opened
pub record OpensGiven (schema : Columns) (all : AllGiven) (rows row_limit recent : ℕ) (by_row : Bool) (code : ℕ) (place : Place)
    (old new : Option Managed) : Type 0 where
  pub done : code ≡ DONE → IfSome new (IsOpenedOnGiven schema all rows row_limit recent by_row)
  pub held : code ≡ DONE → IsSome new
  pub refused : code ≢ DONE → new ≡ old
  pub there : code ≡ SHAPE → place.column < length schema.types
  pub value : code ≡ SHAPE → IsUnfilled (get_or schema.types place.column column.Int) (given_at all place.column) rows place.row
  pub order : code ≡ NOT_ASCENDING → IsNoTable schema all rows (NotAscending place.row)

-- the types have these numbers
abbrev pub HaveTypes : List ℕ → List ColumnType → Type 0
HaveTypes numbers types = map (λ type. code_of_type (Some type)) types ≡ numbers

-- under the schema of columns with these names and types, the first of which are the key
pub record OpensUnder (names : List (List ℕ)) (types : List ℕ) (key_cols : ℕ) (all : AllGiven) (rows row_limit recent : ℕ) (by_row : Bool) (code : ℕ) (place : Place)
    (old new : Option Managed) : Type 0 where
  pub schema : Columns
  pub schema_is : IsNamed names schema.types key_cols schema
  pub types_are : HaveTypes types schema.types
  pub opens : OpensGiven schema all rows row_limit recent by_row code place old new

-- whatever C names: a manager and a place are told under the schema of these columns, and other faults leave all as it was
pub record OpensColumns (names : List (List ℕ)) (types : List ℕ) (key_cols : ℕ) (all : AllGiven) (rows row_limit recent : ℕ) (by_row : Bool) (code : ℕ) (place : Place)
    (old new : Option Managed) : Type 0 where
  pub told : (code ≡ DONE) ⊎ ((code ≡ SHAPE) ⊎ (code ≡ NOT_ASCENDING))
      → OpensUnder names types key_cols all rows row_limit recent by_row code place old new
  pub refused : code ≢ DONE → new ≡ old

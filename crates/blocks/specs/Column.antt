-- What a block holds: values of one type.
use Rattle.std.specs.Prelude.{◌≤◌, List, length}
use Rattle.std.specs.List.{AllByRecursion}
use Rattle.std.specs.Int.{w64}
use Rattle.std.specs.Int.RustNames.{FitsSigned}
use Rattle.values.specs.declared.value.ColumnType.{ColumnType}
use Rattle.values.specs.declared.value.ColumnType.TheVariants as column
use Rattle.values.specs.declared.value.Value.{Value}
use Rattle.values.specs.declared.value.Value.TheVariants.{Int, Text, Bool as Truth}
use Rattle.values.specs.declared.limits.TheConstants.{MAX_BLOCK_VALUES}
use Rattle.blocks.specs.Cuts.{IsText}

-- the type of a block and its values, in order
pub record Column : Type 0 where
  pub ty : ColumnType
  pub values : List Value

-- whether a value may stand in a column of the type: a number of 64 bits, a text of at most 4,096 bytes of UTF-8, a truth
abbrev pub Fits : ColumnType → Value → Type 0
Fits column.Int (Int x) = FitsSigned w64 x
Fits column.Text (Text t) = IsText t
Fits column.Bool (Truth b) = Unit {0}
Fits ty value = ⊥

-- whether all of the values may
abbrev pub AllFit : ColumnType → List Value → Type 0
AllFit ty values = AllByRecursion (Fits ty) values

-- what each block keeps
pub record IsBlock (c : Column) : Type 0 where
  pub few : length c.values ≤ MAX_BLOCK_VALUES
  pub fit : AllFit c.ty c.values

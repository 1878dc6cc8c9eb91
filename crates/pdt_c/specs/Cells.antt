-- Cells as C gives them and is handed them: a number for each, and the bytes of the texts, one after the other.
use Rattle.std.specs.Prelude.{◌≡◌, ℕ, ℤ, pos, true, false, List, [], map, length}
use Rattle.std.specs.List.{flat_map}
use Rattle.values.specs.declared.value.ColumnType.{ColumnType}
use Rattle.values.specs.declared.value.ColumnType.TheVariants as column
use Rattle.values.specs.declared.value.Value.{Value}
use Rattle.values.specs.declared.value.Value.TheVariants.{Int, Text, Bool as Truth}

-- a cell's type
abbrev pub type_of : Value → ColumnType
type_of (Int n) = column.Int
type_of (Text t) = column.Text
type_of (Truth b) = column.Bool

-- a cell's number: its own, how many bytes its text has, or 1 for true
abbrev pub number_of : Value → ℤ
number_of (Int n) = n
number_of (Text t) = pos (length t)
number_of (Truth true) = pos 1
number_of (Truth false) = pos 0

-- a cell's bytes: those of a text, and none else
abbrev pub bytes_of : Value → List ℕ
bytes_of (Int n) = []
bytes_of (Text t) = t
bytes_of (Truth b) = []

-- the numbers of cells, and the bytes of their texts
abbrev pub numbers_of : List Value → List ℤ
numbers_of cells = map number_of cells

abbrev pub texts_of : List Value → List ℕ
texts_of cells = flat_map bytes_of cells

-- C gives these cells: of these types, by these numbers and bytes, of which none is left over
pub record AreGiven (types : List ColumnType) (numbers : List ℤ) (texts : List ℕ) (cells : List Value) : Type 0 where
  pub typed : map type_of cells ≡ types
  pub numbers_are : numbers_of cells ≡ numbers
  pub texts_are : texts_of cells ≡ texts

-- C gives this cell
pub record IsGiven (type : ColumnType) (number : ℤ) (text : List ℕ) (cell : Value) : Type 0 where
  pub typed : type_of cell ≡ type
  pub number_is : number_of cell ≡ number
  pub text_is : bytes_of cell ≡ text

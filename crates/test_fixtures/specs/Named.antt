-- Rows, keys and writes of the base table's columns, as a test names them.
use Rattle.std.specs.Prelude.{ℕ, ℤ, pos, List, [], ◌∷◌, codes}
use Rattle.values.specs.declared.row.Row.{Row}
use Rattle.values.specs.declared.row.Key.{Key}
use Rattle.values.specs.declared.value.Value.TheVariants as value
use Rattle.values.specs.declared.value.ColumnType.TheVariants as column
use Rattle.values.specs.Shape.{Columns}
use Rattle.model.specs.declared.write.Write.{Write}
use Rattle.model.specs.declared.write.Write.TheVariants as write
use Rattle.test_fixtures.specs.declared.named.ItemWrite.{ItemWrite}
use Rattle.test_fixtures.specs.declared.named.ItemWrite.TheVariants as named

-- the row of a number, a name and a quantity
abbrev pub item_cells : ℤ → List ℕ → ℤ → Row
item_cells id name quantity = value.Int id ∷ value.Text name ∷ value.Int quantity ∷ []

-- the key of a number
abbrev pub number_key : ℤ → Key
number_key id = value.Int id ∷ []

-- the write that is named
abbrev pub named_write : ItemWrite → Write
named_write (named.Insert id name quantity) = write.Insert (item_cells id name.now quantity)
named_write (named.Delete id) = write.Delete (number_key id)
named_write (named.Name id name) = write.Set (number_key id) 1 (value.Text name.now)
named_write (named.Set id quantity) = write.Set (number_key id) 2 (value.Int quantity)

-- the columns of the base table
abbrev pub base_columns : Columns
base_columns = record {
  names = codes "id" ∷ codes "name" ∷ codes "qty" ∷ [];
  types = column.Int ∷ column.Text ∷ column.Int ∷ [];
  key_cols = 1;
}

-- its rows
abbrev pub base_rows : List Row
base_rows =
    item_cells (pos 10) (codes "Ann") (pos 1) ∷ item_cells (pos 20) (codes "Bob") (pos 2)
    ∷ item_cells (pos 30) (codes "Cid") (pos 3) ∷ []

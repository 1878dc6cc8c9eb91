-- What is wrong with a cell, and where it is.
use Rattle.std.specs.Prelude.{ℕ, ◌+◌, ◌++◌, ◌==◌, cond, Option, None, Some, List, length, codes}
use Rattle.std.specs.Fmt.{decimal}
use Rattle.csv.specs.Records.{field_at}
use Rattle.values.specs.declared.value.ColumnType.{ColumnType}
use Rattle.values.specs.declared.value.ColumnType.TheVariants as column
use Rattle.inputs.specs.Reading.{Fields}
use Rattle.sentences.specs.Quoting.{quoted}
use Rattle.sentences.specs.Headings.{name_in, type_of}
use Rattle.sentences.specs.declared.quoting.TheConstants.{ROOM}
use Rattle.sentences.specs.declared.cells.CellFault.{CellFault}
use Rattle.sentences.specs.declared.cells.CellFault.TheVariants.{NotTyped, NotText, TooLong}

-- where a record begins: its line, and its number where that is another one
abbrev pub place_of : ℕ → ℕ → List ℕ
place_of line number =
    cond (line == number) (codes "line " ++ decimal line)
    (codes "line " ++ (decimal line ++ (codes " (record " ++ (decimal number ++ codes ")"))))

-- where a text has no such record
abbrev pub missing_record : ℕ → List ℕ
missing_record number = codes "record " ++ (decimal number ++ codes ": the text has no such record")

-- where a record has no such cell; cells count from 1 here
abbrev pub missing_cell : List ℕ → ℕ → List ℕ
missing_cell place at = place ++ (codes ", column " ++ (decimal (at + 1) ++ codes ": there is no such cell"))

-- how a column is named behind a place
abbrev pub in_column : List ℕ → List ℕ → List ℕ
in_column place name = place ++ (codes ", column " ++ (quoted ROOM name ++ codes ": "))

-- a cell that is no value of its column's type
abbrev pub not_typed : Option ColumnType → List ℕ → List ℕ
not_typed (Some column.Int) cell = quoted ROOM cell ++ codes " is not an int: a whole number of 64 bits is wanted"
not_typed (Some column.Bool) cell = quoted ROOM cell ++ codes " is not a bool: true or false is wanted"
not_typed (Some column.Text) cell = quoted ROOM cell ++ codes " is not a text"
not_typed None cell = quoted ROOM cell ++ codes " is not of the column's type"

abbrev pub cell_fault : CellFault → Option ColumnType → List ℕ → List ℕ
cell_fault NotTyped type cell = not_typed type cell
cell_fault NotText type cell = codes "the text " ++ (quoted ROOM cell ++ codes " is not UTF-8")
cell_fault TooLong type cell = codes "the text has " ++ (decimal (length cell) ++ codes " bytes, and 4096 are the most")

abbrev pub cell_sentence_of : List ColumnType → List ℕ → Fields → ℕ → CellFault → Option (List ℕ) → Option (List ℕ) → List ℕ
cell_sentence_of types place header col fault None cell = missing_cell place col
cell_sentence_of types place header col fault (Some heading) None = missing_cell place col
cell_sentence_of types place header col fault (Some heading) (Some cell) =
    in_column place (name_in types heading) ++ cell_fault fault (type_of types header col) cell

-- the sentence of a cell of this column: the column by its name in the header, and what the cell of the record has
abbrev pub cell_sentence : List ColumnType → List ℕ → Fields → Fields → ℕ → CellFault → List ℕ
cell_sentence types place header fields col fault =
    cell_sentence_of types place header col fault (field_at header col) (field_at fields col)

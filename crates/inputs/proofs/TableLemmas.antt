-- The table of a text, record by record.
use Rattle.std.proofs.Common.{◌≡◌, ◌∙◌, ℕ, List, [], ◌∷◌, ◌++◌, map, None, Ok, Err, Bor, refl, ap, subst}
use Rattle.std.proofs.lemmas.List.{append-nil}
use Rattle.csv.specs.declared.reader.Reader.{Reader}
use Rattle.values.specs.Shape.{Columns}
use Rattle.values.specs.declared.value.ColumnType.{ColumnType}
use Rattle.inputs.specs.Cells.{prepend}
use Rattle.blocks.specs.Column.{Column}
use Rattle.inputs.specs.Filling.{AreRead, rows_in}
use Rattle.inputs.specs.Header.{schema_of}
use Rattle.inputs.specs.Input.{table_of, under, keyed, numbered_rows, row_of, first_repeat}
use Rattle.inputs.specs.Plain.{after_header}
use Rattle.inputs.specs.Reading.{Fields, AreRecordsOf, IsReading}
use Rattle.inputs.specs.declared.fault.TableFault.{TableFault}
use Rattle.inputs.specs.declared.fault.TableFault.TheVariants.{NoHeader}
use Rattle.inputs.specs.Input.{Numbered}
use Rattle.inputs.proofs.ReadLemmas.{records-start, records-same}
use Rattle.inputs.proofs.RowLemmas.{numbered_rows-fault}

pub table_of-none : (text : List ℕ) (all : List Fields) → AreRecordsOf text [] → AreRecordsOf text all → table_of all ≡ Err NoHeader
table_of-none text all h g = rw (records-same text [] all h g) refl

pub table_of-bad_header : (text : List ℕ) (header : Fields) (all : List Fields) (fault : TableFault) (reader : Reader (Bor (List ℕ)))
    → IsReading text (header ∷ []) reader → schema_of header ≡ Err fault → AreRecordsOf text all → table_of all ≡ Err fault
table_of-bad_header text header all fault reader h e g =
    let rest = records-start text (header ∷ []) all reader h g in
    rw rest.1 (rw e refl)

-- the rows up to where the reader stands, and a record that says none
pub rows-bad_row :
    (text : List ℕ) (header fields : Fields) (read records : List Fields) (types : List ColumnType) (rows : List Numbered) (number : ℕ)
    (fault : TableFault) (reader : Reader (Bor (List ℕ)))
    → IsReading text (header ∷ (read ++ fields ∷ [])) reader
    → ((more : List Fields) → numbered_rows types 2 (read ++ more) ≡ prepend rows (numbered_rows types number more))
    → row_of types number fields ≡ Err fault
    → AreRecordsOf text (header ∷ records) → numbered_rows types 2 records ≡ Err fault
rows-bad_row text header fields read records types rows number fault reader h so bad g =
    let rest = records-start text (header ∷ (read ++ fields ∷ [])) (header ∷ records) reader h g in
    let same : records ≡ (read ++ fields ∷ []) ++ rest.0 = ap after_header rest.1 in
    rw same (numbered_rows-fault types read rest.0 number fields fault rows so bad)

pub all_rows : (types : List ColumnType) (read : List Fields) (rows : List Numbered) (number : ℕ)
    → ((more : List Fields) → numbered_rows types 2 (read ++ more) ≡ prepend rows (numbered_rows types number more))
    → numbered_rows types 2 read ≡ Ok rows
all_rows types read rows number so = rw (append-nil read, append-nil rows) at (so [])

-- whatever the rows are that stand under this header
pub table_of-under : (text : List ℕ) (header : Fields) (all : List Fields) (schema : Columns) (reader : Reader (Bor (List ℕ)))
    → IsReading text (header ∷ []) reader → schema_of header ≡ Ok schema → AreRecordsOf text all
    → (records : List Fields) × AreRecordsOf text (header ∷ records) × (table_of all ≡ keyed schema (numbered_rows schema.types 2 records))
table_of-under text header all schema reader h e g =
    let rest = records-start text (header ∷ []) all reader h g in
    (rest.0, subst (AreRecordsOf text) rest.1 g, ap table_of rest.1 ∙ ap (λ r. under r rest.0) e)

-- where all of them were read
pub table_of-read : (text : List ℕ) (header : Fields) (all : List Fields) (schema : Columns) (columns : List Column) (count : ℕ)
    → AreRead text header schema.types columns count → schema_of header ≡ Ok schema → AreRecordsOf text all
    → table_of all ≡ keyed schema (Ok (rows_in count columns))
table_of-read text header all schema columns count read e g =
    ap table_of (records-same text (header ∷ read.records) all read.are g)
    ∙ ap (λ r. under r read.records) e
    ∙ ap (keyed schema) read.said

pub table_of-ok : (header : Fields) (read : List Fields) (schema : Columns) (rows : List Numbered)
    → schema_of header ≡ Ok schema → numbered_rows schema.types 2 read ≡ Ok rows → first_repeat schema.key_cols rows ≡ None
    → table_of (header ∷ read) ≡ Ok (schema, map (λ row. row.row) rows)
table_of-ok header read schema rows e so none = rw (e, so, none) refl

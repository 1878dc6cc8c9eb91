-- The table of a text whose header names no types.
use Rattle.std.proofs.Common.{◌≡◌, ◌∙◌, ◌≤◌, ◌∷◌, ℕ, List, [], map, None, Ok, Err, Bor, sym, ap, subst, arith}
use Rattle.std.specs.List.{All, range_with_len}
use Rattle.std.specs.List.Sorted.{IsPermutation}
use Rattle.std.proofs.lemmas.List.Elements.{All-nil, All-cons, All-head, All-tail}
use Rattle.std.proofs.lemmas.Simd.{map-map}
use Rattle.csv.specs.declared.reader.Reader.{Reader}
use Rattle.values.specs.Shape.{list_fault}
use Rattle.values.specs.declared.limits.TheConstants.{MAX_ROWS}
use Rattle.values.specs.declared.row.Row.{Row}
use Rattle.values.specs.declared.value.ColumnType.{ColumnType}
use Rattle.blocks.specs.Column.{Column}
use Rattle.stable.specs.Rows.{row_at, rows_of}
use Rattle.stable.specs.Stable.{IsStable}
use Rattle.stable.proofs.CallerLemmas.{length_rows}
use Rattle.inputs.specs.Filling.{AreRead, rows_in, types_in}
use Rattle.inputs.specs.Input.{Numbered, numbered_rows, first_repeat, keyed, unless_repeated, IsAscending}
use Rattle.inputs.specs.Plain.{PlainColumns, AreFound, IsPlainTableOf, arranged, as_plain, moved_rows, plain_table_of, plain_under}
use Rattle.inputs.specs.Reading.{Fields, AreRecordsOf, IsReading}
use Rattle.inputs.specs.declared.fault.TableFault.TheVariants.{NoHeader}
use Rattle.inputs.specs.declared.fault.PlainFault.TheVariants.{Table}
use Rattle.inputs.proofs.ArrangedLemmas.{arranged-map, arranged-row, arranged-rows, list_fault-arranged, map-same, plain_columns-types}
use Rattle.inputs.proofs.FillingLemmas.{rows_in-alone}
use Rattle.inputs.proofs.FittingLemmas.{numbered_rows-fit, rows-table}
use Rattle.inputs.proofs.ReadLemmas.{records-same, records-start}

-- ---- faults

pub plain_table_of-none : (text : List ℕ) (key : List (List ℕ)) (sample : ℕ) (all : List Fields)
    → AreRecordsOf text [] → AreRecordsOf text all
    → plain_table_of key sample all ≡ Err (Table NoHeader)
plain_table_of-none text key sample all h g = ap (plain_table_of key sample) (records-same text [] all h g)

-- whatever the rows are that stand under the header
pub plain_table_of-under : (text : List ℕ) (key : List (List ℕ)) (sample : ℕ) (header : Fields) (all : List Fields) (found : PlainColumns)
    (reader : Reader (Bor (List ℕ)))
    → IsReading text (header ∷ []) reader → AreFound text key sample found → AreRecordsOf text all
    → (records : List Fields) × AreRecordsOf text (header ∷ records)
    × (plain_table_of key sample all ≡ as_plain (keyed found.schema (moved_rows found.moved (numbered_rows found.types 2 records))))
plain_table_of-under text key sample header all found reader h are g =
    let rest = records-start text (header ∷ []) all reader h g in
    let mine = subst (AreRecordsOf text) rest.1 g in
    (rest.0, mine, ap (plain_table_of key sample) rest.1 ∙ ap (λ r. plain_under r rest.0) (are (header ∷ rest.0) mine))

-- where all of them were read
pub plain_table_of-read : (text : List ℕ) (key : List (List ℕ)) (sample : ℕ) (header : Fields) (all : List Fields) (found : PlainColumns)
    (columns : List Column) (count : ℕ)
    → AreRead text header found.types columns count → AreFound text key sample found → AreRecordsOf text all
    → plain_table_of key sample all ≡ as_plain (keyed found.schema (Ok (rows_in count (arranged found.moved columns))))
plain_table_of-read text key sample header all found columns count read are g =
    ap (plain_table_of key sample) (records-same text (header ∷ read.records) all read.are g)
    ∙ ap (λ r. plain_under r read.records) (are (header ∷ read.records) read.are)
    ∙ ap (λ rows. as_plain (keyed found.schema (moved_rows found.moved rows))) read.said
    ∙ ap (λ (rows : List Numbered). as_plain (keyed found.schema (Ok rows))) (arranged-rows found.moved count columns)

-- ---- types

pub types_in-moved : (text : List ℕ) (key : List (List ℕ)) (sample : ℕ) (header : Fields) (found : PlainColumns) (columns : List Column)
    (records : List Fields)
    → AreRecordsOf text (header ∷ records) → AreFound text key sample found → types_in columns ≡ found.types
    → types_in (arranged found.moved columns) ≡ found.schema.types
types_in-moved text key sample header found columns records g are typed =
    arranged-map (λ (c : Column). c.ty) found.moved columns
    ∙ ap (λ (types : List ColumnType). arranged found.moved types) typed
    ∙ sym (plain_columns-types key sample header records found (are (header ∷ records) g))

-- ---- rows that fit

all-arranged : (moved : List ℕ) (types : List ColumnType) (rows : List Row) → All (λ row. list_fault types row ≡ None) rows
    → All (λ row. list_fault (arranged moved types) row ≡ None) (map (λ (row : Row). arranged moved row) rows)
all-arranged moved types [] h = All-nil (λ (row : Row). list_fault (arranged moved types) row ≡ None)
all-arranged moved types (row ∷ rows) h =
    All-cons (λ (it : Row). list_fault (arranged moved types) it ≡ None) (arranged moved row) (map (λ (it : Row). arranged moved it) rows)
    (list_fault-arranged moved types row (All-head (λ (it : Row). list_fault types it ≡ None) row rows h))
    (all-arranged moved types rows (All-tail (λ (it : Row). list_fault types it ≡ None) row rows h))

rows_of-arranged : (moved : List ℕ) (count : ℕ) (columns : List Column)
    → map (λ (row : Row). arranged moved row) (rows_of count columns) ≡ rows_of count (arranged moved columns)
rows_of-arranged moved count columns =
    map-map (λ (row : Row). arranged moved row) (row_at columns) (range_with_len 0 count)
    ∙ map-same (λ (place : ℕ). arranged moved (row_at columns place)) (λ (place : ℕ). row_at (arranged moved columns) place)
    (range_with_len 0 count) (λ place. sym (arranged-row moved place columns))

-- ---- tables

module _ (text : List ℕ) (key : List (List ℕ)) (sample : ℕ) (header : Fields) (found : PlainColumns)
    (columns sorted : List Column) (count : ℕ)
    (read : AreRead text header found.types columns count) (are : AreFound text key sample found)
    (distinct : first_repeat found.schema.key_cols (rows_in count (arranged found.moved columns)) ≡ None)
    (each_once : IsPermutation (rows_of count (arranged found.moved columns)) (rows_of count sorted))
    (ascending : IsAscending found.schema.key_cols (rows_of count sorted)) where
  told : plain_table_of key sample (header ∷ read.records) ≡ Ok (found.schema, rows_of count (arranged found.moved columns))
  told =
      plain_table_of-read text key sample header (header ∷ read.records) found columns count read are read.are
      ∙ ap (λ repeated. as_plain (unless_repeated found.schema (rows_in count (arranged found.moved columns)) repeated)) distinct
      ∙ ap (λ (rows : List Row). Ok (found.schema, rows)) (rows_in-alone count (arranged found.moved columns))

  pub plain-table : (rows : ℕ) → rows ≡ count → IsPlainTableOf text key sample found.schema (rows_of rows sorted)
  plain-table rows e = subst (λ n. IsPlainTableOf text key sample found.schema (rows_of n sorted)) (sym e) (record {
    records = header ∷ read.records;
    read = rows_of count (arranged found.moved columns);
    are = read.are;
    said = told;
    each_once = each_once;
    ascending = ascending;
  })

  fit : All (λ row. list_fault found.schema.types row ≡ None) (rows_of count (arranged found.moved columns))
  fit =
      let one = numbered_rows-fit found.types 2 read.records (rows_in count columns) read.said in
      let rows = subst (λ (its : List Row). All (λ row. list_fault found.types row ≡ None) its) (rows_in-alone count columns) one in
      let moved = all-arranged found.moved found.types (rows_of count columns) rows in
      let types = plain_columns-types key sample header read.records found (are (header ∷ read.records) read.are) in
      let shown = map (λ (row : Row). arranged found.moved row) (rows_of count columns) in
      subst (λ (its : List Row). All (λ row. list_fault found.schema.types row ≡ None) its) (rows_of-arranged found.moved count columns)
      (subst (λ (types : List ColumnType). All (λ row. list_fault types row ≡ None) shown) (sym types) moved)

  pub plain-stable : (rows : ℕ) → rows ≡ count → count ≤ MAX_ROWS → IsStable (record { schema = found.schema; rows = rows_of rows sorted })
  plain-stable rows e few = subst (λ n. IsStable (record { schema = found.schema; rows = rows_of n sorted })) (sym e) (record {
    table = rows-table found.schema (rows_of count (arranged found.moved columns)) (rows_of count sorted) fit each_once ascending;
    few = let long = length_rows count sorted in omega (arith, long, few);
  })

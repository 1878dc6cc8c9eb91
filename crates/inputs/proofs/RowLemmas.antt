-- The cells of a record, and the rows of records.
use Rattle.std.proofs.Common.{◌≡◌, ◌∙◌, ◌+◌, ℕ, suc, List, [], ◌∷◌, ◌++◌, drop, Ok, Err, refl, append_assoc, add-one}
use Rattle.values.specs.declared.value.ColumnType.{ColumnType}
use Rattle.values.specs.declared.value.Value.{Value}
use Rattle.inputs.specs.Cells.{prepend}
use Rattle.inputs.specs.Input.{cell_of, cells_of, row_of, numbered_rows}
use Rattle.inputs.specs.Reading.{Fields}
use Rattle.inputs.specs.Input.{Numbered}
use Rattle.inputs.specs.declared.fault.TableFault.{TableFault}
use Rattle.inputs.proofs.ReadLemmas.{prepend-then_cons}

pub cells_of-step :
    (number i : ℕ) (types : List ColumnType) (fields : Fields) (type : ColumnType) (field : List ℕ) (value : Value)
    (cells : List Value)
    → drop i types ≡ type ∷ drop (suc i) types → drop i fields ≡ field ∷ drop (suc i) fields → cell_of type number i field ≡ Ok value
    → prepend cells (cells_of number i (drop i types) (drop i fields))
    ≡ prepend (cells ++ value ∷ []) (cells_of number (i + 1) (drop (i + 1) types) (drop (i + 1) fields))
cells_of-step number i types fields type field value cells ht hf hv = rw (ht, hf, hv, add-one) (prepend-then_cons cells value _)

pub cells_of-fault :
    (number i : ℕ) (types : List ColumnType) (fields : Fields) (type : ColumnType) (field : List ℕ) (fault : TableFault)
    (cells : List Value)
    → drop i types ≡ type ∷ drop (suc i) types → drop i fields ≡ field ∷ drop (suc i) fields → cell_of type number i field ≡ Err fault
    → prepend cells (cells_of number i (drop i types) (drop i fields)) ≡ Err fault
cells_of-fault number i types fields type field fault cells ht hf hv = rw (ht, hf, hv) refl

-- one more record's row
pub numbered_rows-step :
    (types : List ColumnType) (read : List Fields) (number : ℕ) (fields : Fields) (row : Numbered) (rows : List Numbered)
    → ((more : List Fields) → numbered_rows types 2 (read ++ more) ≡ prepend rows (numbered_rows types number more))
    → row_of types number fields ≡ Ok row
    → (more : List Fields) → numbered_rows types 2 ((read ++ fields ∷ []) ++ more)
    ≡ prepend (rows ++ row ∷ []) (numbered_rows types (number + 1) more)
numbered_rows-step types read number fields row rows h hr more =
    rw (append_assoc read (fields ∷ []) more) (h (fields ∷ more) ∙ rw (hr, add-one) (prepend-then_cons rows row _))

-- a fault at a record, whatever comes after it
pub numbered_rows-fault :
    (types : List ColumnType) (read rest : List Fields) (number : ℕ) (fields : Fields) (fault : TableFault) (rows : List Numbered)
    → ((more : List Fields) → numbered_rows types 2 (read ++ more) ≡ prepend rows (numbered_rows types number more))
    → row_of types number fields ≡ Err fault
    → numbered_rows types 2 ((read ++ fields ∷ []) ++ rest) ≡ Err fault
numbered_rows-fault types read rest number fields fault rows h hr =
    rw (append_assoc read (fields ∷ []) rest) (h (fields ∷ rest) ∙ rw hr refl)

-- What a call has found of a text's records.
use Rattle.std.proofs.Common.{◌≡◌, ◌≤◌, ◌-◌, ◌∷◌, ℕ, zero, suc, List, [], length, drop, slice_get, Some, Result, Ok, Err, refl, arith}
use Rattle.std.specs.Result.{IfOk}
use Rattle.values.specs.Shape.{Columns}
use Rattle.values.specs.declared.value.ColumnType.{ColumnType}
use Rattle.inputs.specs.Reading.{Fields}
use Rattle.inputs.specs.declared.fault.ScriptFault.{ScriptFault}
use Rattle.inputs.specs.declared.fault.TableFault.{TableFault}
use Rattle.sentences.specs.Cells.{place_of}
use Rattle.sentences.specs.Scripts as scripts
use Rattle.sentences.specs.Tables as tables

-- what a result says, said of it in other words
pub then-ok : {T E : Type 0} (r : Result T E) (P Q : T → Type 0) → ((x : T) → P x → Q x) → IfOk r P → IfOk r Q
then-ok (Ok x) P Q f h = f x h
then-ok (Err e) P Q f h = tt

-- past the last nothing is left
pub drop-all : {A : Type 0} (xs : List A) (n : ℕ) → length xs ≤ n → drop n xs ≡ []
drop-all [] zero h = refl
drop-all [] (suc n) h = refl
drop-all (x ∷ xs) zero h = absurd (omega (arith, h))
drop-all (x ∷ xs) (suc n) h = drop-all xs n (omega (arith, h))

-- the sentence of a table's fault is that of its record
pub table-found : (types : List ColumnType) (line number : ℕ) (records : List Fields) (fault : TableFault) (header fields : Fields)
    → Some number ≡ tables.record_of fault → Some header ≡ slice_get records 0 → Some fields ≡ slice_get records (number - 1)
    → tables.table_sentence types line records fault ≡ tables.record_sentence types (place_of line number) header fields fault
table-found types line number records fault header fields n h f = rw (← n, ← h, ← f) refl

-- the sentence of a script's fault likewise
pub script-found : (schema : Columns) (line number : ℕ) (records : List Fields) (fault : ScriptFault) (fields : Fields)
    → Some number ≡ scripts.record_of fault → Some fields ≡ slice_get records (number - 1)
    → scripts.script_sentence schema line records fault ≡ scripts.record_sentence schema (place_of line number) fields fault
script-found schema line number records fault fields n f = rw (← n, ← f) refl

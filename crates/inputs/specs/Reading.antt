-- The records of a text, and how far a reader has come.
use Rattle.std.specs.Prelude.{◌≡◌, ℕ, Bool, true, false, Option, None, Some, List, ◌++◌, ◌∷◌, []}
use Rattle.std.proofs.Common.{Bor}
use Rattle.csv.specs.Reading.{AreRecords, Reached, Ready, default_config, source_of, strip_bom, reader_trim, reader_config, reader_state, is_flexible}
use Rattle.csv.specs.declared.parser.State.TheVariants as st
use Rattle.csv.specs.declared.reader.Reader.{Reader}
use Rattle.csv.specs.declared.reader.Trim.TheVariants as trim

-- a record: the bytes of its fields
abbrev pub Fields : Type 0
Fields = List (List ℕ)

-- these are the records that the crate `csv` reads of the text
abbrev pub AreRecordsOf : List ℕ → List Fields → Type 0
AreRecordsOf text records = AreRecords default_config st.StartRecord (strip_bom text) records

-- the reader has given these records of the text, and goes on with the next one
pub record IsReading (text : List ℕ) (read : List Fields) (reader : Reader (Bor (List ℕ))) : Type 0 where
  pub plain : reader_trim reader ≡ trim.None
  pub ready : Ready reader
  pub config : reader_config reader ≡ default_config
  -- a record of any length is read
  pub flexible : is_flexible reader ≡ true
  pub left : List ℕ
  pub source : source_of (λ (s : Bor (List ℕ)). Some s.now) reader ≡ Some left
  pub reached : Reached default_config st.StartRecord (strip_bom text) read (reader_state reader) left

-- where a record was found it is one more of the text, and otherwise those that were read are all
abbrev pub ReadsOne : List ℕ → List Fields → Reader (Bor (List ℕ)) → Bool → Fields → Type 0
ReadsOne text read reader true fields = IsReading text (read ++ fields ∷ []) reader
ReadsOne text read reader false fields = AreRecordsOf text read

-- the fields of a record that was found
abbrev pub found_fields : Bool → Fields → Option Fields
found_fields true fields = Some fields
found_fields false fields = None

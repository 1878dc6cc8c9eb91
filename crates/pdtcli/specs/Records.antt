-- The text of records, as the crate `csv` writes them, and how far a writer of them has come.
use Rattle.std.specs.Prelude.{◌≡◌, ◌&&◌, ◌||◌, ◌==◌, ◌^◌, ◌-◌, not, min, length, ℕ, false, true, Option}
use Rattle.std.specs.Prelude.{Some, List, ◌++◌, Vec}
use Rattle.std.specs.Io.KnownBytes.{Appends}
use Rattle.std.specs.declared.alloc.Global.{Global}
use Rattle.csv.specs.Writing.{default_writer, with_flexible, is_blank, row_body, row_text}
use Rattle.csv.specs.Writing.{writer_setup, fields_written, has_written, text_written}
use Rattle.csv.specs.declared.writer.Writer.{Writer}
use Rattle.csv.specs.declared.writer.WriterBuilder.{WriterBuilder}
use Rattle.inputs.specs.Reading.{Fields}

-- records may differ in length; all else is as the crate has it
abbrev pub record_setup : WriterBuilder
record_setup = with_flexible default_writer true

-- the text of a record, ended by a line feed
abbrev pub record_text : Fields → List ℕ
record_text fields = row_text record_setup fields

-- what the writer was given and has written is this text, and it stands at a record's start
pub record IsWritten (writer : Writer (Vec ℕ Global)) (text : List ℕ) : Type 0 where
  pub setup : writer_setup writer ≡ record_setup
  pub fresh : fields_written writer ≡ 0
  pub clean : has_written writer ≡ false
  pub written : text_written (λ v. Some v.items) writer ≡ Some text

-- after this text a record is under way, of which these fields are written; whether it shows a byte so far is known
pub record IsUnderway (writer : Writer (Vec ℕ Global)) (text : List ℕ) (fields : Fields) : Type 0 where
  pub setup : writer_setup writer ≡ record_setup
  pub count : fields_written writer ≡ min (length fields) (2 ^ 64 - 1)
  pub blank : is_blank record_setup fields ≡ (not (has_written writer) && ((length fields == 0) || (length fields == 1)))
  pub written : text_written (λ v. Some v.items) writer ≡ Some (text ++ row_body record_setup fields)

-- the record that was under way has these fields more, whatever it had before
abbrev pub TakesFields : Writer (Vec ℕ Global) → Writer (Vec ℕ Global) → Fields → Type 0
TakesFields old new fields = (text : List ℕ) → (before : Fields) → IsUnderway old text before → IsUnderway new text (before ++ fields)

-- of this text so much was handed on, and the writer has the rest
pub record HasGone (before after : Option (List ℕ)) (writer : Writer (Vec ℕ Global)) (text : List ℕ) : Type 0 where
  pub sent : List ℕ
  pub left : List ℕ
  pub appended : Appends before after sent
  pub written : IsWritten writer left
  pub whole : sent ++ left ≡ text

-- what the writer had before went on, in part or not at all, and this text after it
abbrev pub Goes : Option (List ℕ) → Option (List ℕ) → Writer (Vec ℕ Global) → Writer (Vec ℕ Global) → List ℕ → Type 0
Goes before after old new more = (text : List ℕ) → IsWritten old text → HasGone before after new (text ++ more)

-- What a read of an open transaction may be answered.
use Rattle.std.specs.Prelude.{◌≡◌, ℕ, ◌<◌, ◌⊎◌, Option, Some, None, is_some, List, length, take, drop, slice_get}
use Rattle.values.specs.Shape.{Columns, key_fault}
use Rattle.values.specs.declared.fault.ShapeFault.{ShapeFault}
use Rattle.values.specs.declared.fault.ShapeFault.TheVariants as shape
use Rattle.values.specs.declared.row.Row.{Row}
use Rattle.model.specs.Table.{rows_of, row_at, rank}
use Rattle.txn.specs.Txn.{Transaction, image_of}
use Rattle.inputs.specs.declared.call.Read.{Read}
use Rattle.inputs.specs.declared.call.Read.TheVariants.{Get, At, Rank, Len, Scan}
use Rattle.pdtcli.specs.declared.reply.Reply.{Reply}
use Rattle.pdtcli.specs.declared.reply.Reply.TheVariants as reply

-- the first fault of the key that is read, by its shape
abbrev pub read_fault : Columns → Read → Option ShapeFault
read_fault schema (Get key) = key_fault schema key
read_fault schema (At rid) = None
read_fault schema (Rank key) = key_fault schema key
read_fault schema Len = None
read_fault schema (Scan from to) = None

-- a row that was looked for: it is shown, where memory suffices, or the reply says that there is none
abbrev pub IsFoundRow : Option Row → Reply → Reply → Type 0
IsFoundRow None absent answer = answer ≡ absent
IsFoundRow (Some row) absent answer = (answer ≡ reply.Row row) ⊎ (answer ≡ reply.NoMemory)

-- the rows of the image from one position up to but without another
abbrev pub rows_between : Transaction → ℕ → ℕ → List Row
rows_between txn from to = drop from (take to (rows_of (image_of txn)))

-- a scan shows all of these rows; only where there are some, memory may be refused to it
abbrev pub IsScan : List Row → Reply → Type 0
IsScan all (reply.Scanned rows) = rows ≡ all
IsScan all reply.NoMemory = 0 < length all
IsScan all answer = ⊥

-- a read whose key fits is answered so
abbrev pub ReadGives : Transaction → Read → Reply → Type 0
ReadGives txn (Get key) answer = IsFoundRow (row_at (image_of txn) key) reply.Missing answer
ReadGives txn (At rid) answer = IsFoundRow (slice_get (rows_of (image_of txn)) rid) reply.NoRow answer
ReadGives txn (Rank key) answer = answer ≡ reply.Place (rank key (image_of txn)) (is_some (row_at (image_of txn) key))
ReadGives txn Len answer = answer ≡ reply.Rows (length (rows_of (image_of txn)))
ReadGives txn (Scan from to) answer = IsScan (rows_between txn from to) answer

-- a text of the key that is too long is told before any look at the image
abbrev pub OpenReadStep : Option ShapeFault → Transaction → Read → Reply → Type 0
OpenReadStep None txn read answer = ReadGives txn read answer
OpenReadStep (Some fault) txn read answer = (cell : ℕ) × (fault ≡ shape.TextTooLong cell) × (answer ≡ reply.TextTooLong cell)

abbrev pub ReadStep : Option Transaction → Read → Reply → Type 0
ReadStep None read answer = answer ≡ reply.NotOpen
ReadStep (Some txn) read answer = OpenReadStep (read_fault txn.schema read) txn read answer

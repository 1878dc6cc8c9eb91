-- What C is told, as numbers.
use Rattle.std.specs.Prelude.{◌≡◌, ℕ, ◌≤◌, Option, Some, None, List, length, take}
use Rattle.model.specs.declared.write.CommitReply.{CommitReply}
use Rattle.model.specs.declared.write.CommitReply.TheVariants.{Committed, Conflict, TooOld, Full}
use Rattle.model.specs.declared.write.WriteReply.{WriteReply}
use Rattle.model.specs.declared.write.WriteReply.TheVariants as reply
use Rattle.values.specs.declared.value.ColumnType.{ColumnType}
use Rattle.values.specs.declared.value.ColumnType.TheVariants as column

-- the code of a reply to a commit, and the number of the newest table
abbrev pub told : CommitReply → ℕ × ℕ
told (Committed n) = (0, n)
told (Conflict n) = (2, n)
told (TooOld n) = (3, n)
told (Full n) = (4, n)

-- the code of a reply to a write
abbrev pub code_of_reply : WriteReply → ℕ
code_of_reply reply.Done = 0
code_of_reply reply.Duplicate = 5
code_of_reply reply.Full = 4
code_of_reply reply.Missing = 6

-- the number of a column's type, and 0 where there is no such column
abbrev pub code_of_type : Option ColumnType → ℕ
code_of_type (Some column.Int) = 1
code_of_type (Some column.Text) = 2
code_of_type (Some column.Bool) = 3
code_of_type None = 0

-- so many bytes are these, which stand in C's room if they fit
abbrev pub IsPut : ℕ → List ℕ → List ℕ → Type 0
IsPut count room bytes = (count ≡ length bytes) × (count ≤ length room → take count room ≡ bytes)

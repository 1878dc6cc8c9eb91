-- What is shown of a run: its reply lines, an empty line, and the image with its header.
use Rattle.std.specs.Prelude.{ℕ, suc, Bool, true, false, cond, nat_lt, List, [], ◌∷◌, ◌++◌, flat_map, map}
use Rattle.std.specs.List.{list_any}
use Rattle.values.specs.Shape.{Columns}
use Rattle.values.specs.declared.row.Row.{Row}
use Rattle.values.specs.declared.value.ColumnType.{ColumnType}
use Rattle.model.specs.Table.{rows_of}
use Rattle.manager.specs.Managed.{newest_table}
use Rattle.pdtcli.specs.Outcome.{Left}
use Rattle.inputs.specs.Header.{kind_word}
use Rattle.inputs.specs.Reading.{Fields}
use Rattle.pdtcli.specs.Records.{record_text}
use Rattle.pdtcli.specs.Replies.{line_records}
use Rattle.pdtcli.specs.Shown.{row_fields}
use Rattle.pdtcli.specs.declared.reply.Reply.{Reply}
use Rattle.pdtcli.specs.declared.reply.Reply.TheVariants as reply
use Rattle.pdtcli.specs.declared.reply.ReplyLine.{ReplyLine}

-- ---- the records of an image

-- what stands after a column's name: a colon, its type, and whether it is one of the key
abbrev pub kind_text : ColumnType → Bool → List ℕ
kind_text type is_key = 58 ∷ kind_word type is_key

-- the header cells of the columns from column `at` on, the first `key_cols` of all being the key
abbrev pub header_cells : ℕ → ℕ → List (List ℕ) → List ColumnType → Fields
header_cells key_cols at [] types = []
header_cells key_cols at (name ∷ names) [] = []
header_cells key_cols at (name ∷ names) (type ∷ types) =
    (name ++ kind_text type (nat_lt at key_cols)) ∷ header_cells key_cols (suc at) names types

-- a schema's record
abbrev pub header_fields : Columns → Fields
header_fields schema = header_cells schema.key_cols 0 schema.names schema.types

-- ---- the text

abbrev pub records_text : List Fields → List ℕ
records_text [] = []
records_text (fields ∷ records) = record_text fields ++ records_text records

-- a run's reply lines
abbrev pub lines_text : List (List ℕ) → List ReplyLine → List ℕ
lines_text clients lines = records_text (flat_map (line_records clients) lines)

abbrev pub rows_text : List Row → List ℕ
rows_text rows = records_text (map row_fields rows)

-- the header and the rows
abbrev pub image_text : Columns → List Row → List ℕ
image_text schema rows = records_text (header_fields schema ∷ map row_fields rows)

-- the reply lines, a line feed, and the newest image
abbrev pub shown : Left → List ℕ
shown left =
    lines_text left.clients left.lines ++ (10 ∷ [] ++ image_text left.manager.schema (rows_of (newest_table left.manager)))

-- ---- the exit status

abbrev pub is_refused : ReplyLine → Bool
is_refused line = found line.reply
  where
    found : Reply → Bool
    found reply.NoMemory = true
    found (reply.DeviceFailed device) = true
    found reply.StoreFailed = true
    found reply.GenerationsSpent = true
    found reply.Stranger = true
    found reply.Ended = true
    found reply.TooLong = true
    found reply.Unsure = true
    found reply.JournalFailed = true
    found other = false

-- 1 where some reply tells that memory, the store, the journal or a session was refused
abbrev pub exit_status : List ReplyLine → ℕ
exit_status lines = cond (list_any is_refused lines) 1 0

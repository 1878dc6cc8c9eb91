-- The records of reply lines: the client, the verb, the reply's word and its values where it has some.
use Rattle.std.specs.Prelude.{ℕ, List, [], ◌∷◌, ◌++◌, length, map, slice_get, unwrap_or, codes, decimal}
use Rattle.values.specs.Shown.{truth_text}
use Rattle.values.specs.declared.row.Row.{Row}
use Rattle.model.specs.declared.write.WriteReply.{WriteReply}
use Rattle.model.specs.declared.write.WriteReply.TheVariants as write_reply
use Rattle.model.specs.declared.write.CommitReply.{CommitReply}
use Rattle.model.specs.declared.write.CommitReply.TheVariants as commit_reply
use Rattle.inputs.specs.Reading.{Fields}
use Rattle.pdtcli.specs.Shown.{row_fields}
use Rattle.pdtcli.specs.declared.reply.Reply.{Reply}
use Rattle.pdtcli.specs.declared.reply.Reply.TheVariants as reply
use Rattle.pdtcli.specs.declared.reply.ReplyLine.{ReplyLine}
use Rattle.inputs.specs.Calls.{verb_word}

-- the name of the client of this number
abbrev pub client_name : List (List ℕ) → ℕ → List ℕ
client_name clients client = unwrap_or (slice_get clients client) []

abbrev pub write_fields : WriteReply → Fields
write_fields write_reply.Done = codes "Done" ∷ []
write_fields write_reply.Duplicate = codes "Duplicate" ∷ []
write_fields write_reply.Full = codes "Full" ∷ []
write_fields write_reply.Missing = codes "Missing" ∷ []

-- with the number of commits held afterwards
abbrev pub commit_fields : CommitReply → Fields
commit_fields (commit_reply.Committed held) = codes "Committed" ∷ decimal held ∷ []
commit_fields (commit_reply.Conflict held) = codes "Conflict" ∷ decimal held ∷ []
commit_fields (commit_reply.TooOld held) = codes "TooOld" ∷ decimal held ∷ []
commit_fields (commit_reply.Full held) = codes "Full" ∷ decimal held ∷ []

-- a reply's word, and its values where it has some
abbrev pub reply_fields : Reply → Fields
reply_fields reply.Begun = codes "Begun" ∷ []
reply_fields reply.AlreadyOpen = codes "AlreadyOpen" ∷ []
reply_fields reply.NotOpen = codes "NotOpen" ∷ []
reply_fields (reply.Wrote answer) = write_fields answer
reply_fields reply.KeyColumn = codes "KeyColumn" ∷ []
reply_fields (reply.TextTooLong at) = codes "TextTooLong" ∷ decimal at ∷ []
reply_fields (reply.Row row) = codes "Row" ∷ row_fields row
reply_fields reply.Missing = codes "Missing" ∷ []
reply_fields reply.NoRow = codes "None" ∷ []
reply_fields (reply.Place below there) = codes "Place" ∷ decimal below ∷ truth_text there ∷ []
reply_fields (reply.Rows count) = codes "Rows" ∷ decimal count ∷ []
reply_fields (reply.Scanned rows) = codes "End" ∷ decimal (length rows) ∷ []
reply_fields (reply.Decided answer) = commit_fields answer
reply_fields reply.Aborted = codes "Aborted" ∷ []
reply_fields reply.Folded = codes "Done" ∷ []
reply_fields (reply.Stored generation) = codes "Done" ∷ decimal generation ∷ []
reply_fields (reply.DeviceFailed device) = codes "DeviceFailed" ∷ decimal device ∷ []
reply_fields reply.StoreFailed = codes "StoreFailed" ∷ []
reply_fields reply.GenerationsSpent = codes "GenerationsSpent" ∷ []
reply_fields (reply.Cut count) = codes "Done" ∷ decimal count ∷ []
reply_fields reply.Ended = codes "Ended" ∷ []
reply_fields reply.Stranger = codes "Stranger" ∷ []
reply_fields reply.TooLong = codes "TooLong" ∷ []
reply_fields reply.Unsure = codes "Unsure" ∷ []
reply_fields reply.JournalFailed = codes "JournalFailed" ∷ []
reply_fields reply.NoMemory = codes "NoMemory" ∷ []

-- the fields of a record of the line, where the clients have these names: the client, the verb and these
abbrev pub call_fields : List (List ℕ) → ReplyLine → Fields → Fields
call_fields clients line fields = client_name clients line.client ∷ verb_word line.verb ∷ fields

-- those of its last record
abbrev pub line_fields : List (List ℕ) → ReplyLine → Fields
line_fields clients line = call_fields clients line (reply_fields line.reply)

-- those of the record of a row that it shows
abbrev pub shown_fields : List (List ℕ) → ReplyLine → Row → Fields
shown_fields clients line row = call_fields clients line (codes "Row" ∷ row_fields row)

-- the rows that a reply shows before its own record: those of a scan
abbrev pub shown_rows : Reply → List Row
shown_rows (reply.Scanned rows) = rows
shown_rows other = []

-- the records of a line: one for each row that it shows, and the last one
abbrev pub line_records : List (List ℕ) → ReplyLine → List Fields
line_records clients line = map (shown_fields clients line) (shown_rows line.reply) ++ line_fields clients line ∷ []

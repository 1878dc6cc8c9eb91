-- Files of a database's folder, as C has them: a kind and two numbers.
use Rattle.std.specs.Prelude.{ℕ, ◌-◌, ◌^◌, ◌==◌, nat_lt, if◌then◌else◌, Option, Some, None}
use Rattle.manifest.specs.declared.file_name.FileName.{FileName}
use Rattle.manifest.specs.declared.file_name.FileName.TheVariants.{Journal, Image, Types, Torn, Column, Header}
use Rattle.pdt_c.specs.declared.calls.file_names.FileRecord.{FileRecord}
use Rattle.pdt_c.specs.declared.calls.file_names.TheConstants.{COLUMN, HEADER, IMAGE, JOURNAL, TORN, TYPES}

abbrev pub file_record : FileName → FileRecord
file_record (Journal number) = record { first = number; second = 0; kind = JOURNAL }
file_record (Image table folder) = record { first = table; second = folder; kind = IMAGE }
file_record (Types table) = record { first = table; second = 0; kind = TYPES }
file_record (Torn number) = record { first = number; second = 0; kind = TORN }
file_record (Column column) = record { first = column; second = 0; kind = COLUMN }
file_record Header = record { first = 0; second = 0; kind = HEADER }

-- the file of a kind and numbers; the number of a table or a column is below 2^32
abbrev pub file_of : ℕ → ℕ → ℕ → Option FileName
file_of kind first second =
    if kind == JOURNAL then Some (Journal first)
    else if kind == TORN then Some (Torn first)
    else if nat_lt (2 ^ 32 - 1) first then None
    else if kind == IMAGE then Some (Image first second)
    else if kind == TYPES then Some (Types first)
    else if kind == COLUMN then Some (Column first)
    else if kind == HEADER then Some Header
    else None

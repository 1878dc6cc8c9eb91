-- The names of files in a database's folder: each file has one. A zero ends a name, as in C.
use Rattle.std.specs.Prelude.{ℕ, ◌<◌, ◌-◌, ◌^◌, ◌==◌, if◌then◌else◌, Option, Some, None, List, [], ◌∷◌, ◌++◌, length, codes}
use Rattle.std.specs.Str.{bytes_eq}
use Rattle.manifest.specs.Manifest.{number_text}
use Rattle.manifest.specs.Reading.{Reader, before, behind, both, number_at}
use Rattle.manifest.specs.declared.file_name.FileName.{FileName}
use Rattle.manifest.specs.declared.file_name.FileName.TheVariants.{Journal, Image, Types, Torn, Column, Header}

-- what is behind the point in the name of a column
abbrev pub column_end : List ℕ
column_end = codes "pdt" ++ 0 ∷ []

abbrev pub header_text : List ℕ
header_text = codes "header.csv" ++ 0 ∷ []

abbrev pub name_text : FileName → List ℕ
name_text (Journal number) = codes "journal-" ++ number_text 0 number
name_text (Image table folder) = codes "image-" ++ (number_text 45 table ++ number_text 0 folder)
name_text (Types table) = codes "types-" ++ number_text 0 table
name_text (Torn number) = codes "torn-" ++ number_text 0 number
name_text (Column column) = codes "column-" ++ (number_text 46 column ++ column_end)
name_text Header = header_text

-- its numbers are those of such a file
abbrev pub IsFileName : FileName → Type 0
IsFileName (Journal number) = number < 2 ^ 64
IsFileName (Image table folder) = (table < 2 ^ 32) × (folder < 2 ^ 64)
IsFileName (Types table) = table < 2 ^ 32
IsFileName (Torn number) = number < 2 ^ 64
IsFileName (Column column) = column < 2 ^ 32
IsFileName Header = Unit {0}

-- ---- reading

abbrev pub journal_at : Reader ℕ
journal_at = behind (codes "journal-") (number_at (2 ^ 64 - 1) 0)

abbrev pub image_at : Reader (ℕ × ℕ)
image_at = behind (codes "image-") (both (number_at (2 ^ 32 - 1) 45) (number_at (2 ^ 64 - 1) 0))

abbrev pub types_at : Reader ℕ
types_at = behind (codes "types-") (number_at (2 ^ 32 - 1) 0)

abbrev pub torn_at : Reader ℕ
torn_at = behind (codes "torn-") (number_at (2 ^ 64 - 1) 0)

abbrev pub column_at : Reader ℕ
column_at = behind (codes "column-") (before column_end (number_at (2 ^ 32 - 1) 46))

abbrev pub image_of : ℕ × ℕ → FileName
image_of p = Image p.0 p.1

-- what is read where nothing is left
abbrev pub whole : {A : Type 0} → (A → FileName) → Option (A × List ℕ) → Option FileName
whole f None = None
whole f (Some found) = if length found.1 == 0 then Some (f found.0) else None

-- the first, or else the second
abbrev pub or_else : Option FileName → Option FileName → Option FileName
or_else (Some file) other = Some file
or_else None other = other

unfoldable pub journal_named : List ℕ → Option FileName
journal_named bytes = whole Journal (journal_at bytes)

unfoldable pub image_named : List ℕ → Option FileName
image_named bytes = whole image_of (image_at bytes)

unfoldable pub types_named : List ℕ → Option FileName
types_named bytes = whole Types (types_at bytes)

unfoldable pub torn_named : List ℕ → Option FileName
torn_named bytes = whole Torn (torn_at bytes)

unfoldable pub column_named : List ℕ → Option FileName
column_named bytes = whole Column (column_at bytes)

unfoldable pub header_named : List ℕ → Option FileName
header_named bytes = if bytes_eq bytes header_text then Some Header else None

-- a file in the folder of an image
unfoldable pub image_file_named : List ℕ → Option FileName
image_file_named bytes = or_else (column_named bytes) (header_named bytes)

unfoldable pub other_named : List ℕ → Option FileName
other_named bytes = or_else (types_named bytes) (or_else (torn_named bytes) (image_file_named bytes))

-- the file that a name is of
unfoldable pub file_named : List ℕ → Option FileName
file_named bytes = or_else (journal_named bytes) (or_else (image_named bytes) (other_named bytes))

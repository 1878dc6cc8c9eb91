-- What a manifest says, and the one spelling of it.
use Rattle.std.specs.Prelude.{◌≡◌, ◌≢◌, ◌<◌, ◌≤◌, ℕ, ◌+◌, ◌/◌, ◌%◌, ◌^◌, nat_lt, if◌then◌else◌, Bool, true, false, List, [], ◌∷◌, ◌++◌, length, map, codes}
use Rattle.std.specs.List.{flat_map, AllByRecursion}
use Rattle.std.specs.Fmt.{decimal}
use Rattle.journal.specs.Check.{crc}
use Rattle.journal.specs.Header.{all_ones}
use Rattle.manifest.specs.declared.entries.FileMark.{FileMark}
use Rattle.manifest.specs.declared.entries.Manifest.{Manifest}
use Rattle.manifest.specs.declared.entries.ManifestHead.{ManifestHead}
use Rattle.manifest.specs.declared.entries.TableEntry.{TableEntry}
use Rattle.manifest.specs.declared.entries.TableLine.{TableLine}

-- ---- without where it lies in memory

-- what the line of a table says
pub record Line : Type 0 where
  pub number : ℕ
  pub commit : ℕ
  pub folder : ℕ
  pub recent : ℕ
  pub limit : ℕ
  pub by_row : Bool
  pub width : ℕ
  pub name : List ℕ

-- a table, with the marks of its image's files
pub record Table : Type 0 where
  pub line : Line
  pub header : FileMark
  pub columns : List FileMark

pub record Fields : Type 0 where
  pub head : ManifestHead
  pub tables : List Table

abbrev pub line_now : TableLine → Line
line_now l =
    record {
      number = l.number;
      commit = l.commit;
      folder = l.folder;
      recent = l.recent;
      limit = l.limit;
      by_row = l.by_row;
      width = l.width;
      name = l.name.now;
    }

abbrev pub table_now : TableEntry → Table
table_now t = record { line = line_now t.line; header = t.header; columns = t.columns.items }

abbrev pub manifest_now : Manifest → Fields
manifest_now m = record { head = m.head; tables = map table_now m.tables.items }

-- ---- the spelling

-- a number below 16 as a hexadecimal digit
abbrev pub digit_text : ℕ → List ℕ
digit_text n = if nat_lt n 10 then (48 + n) ∷ [] else (87 + n) ∷ []

-- a number as two halves, the higher one first, each below the base
abbrev pub halves_text : ℕ → (ℕ → List ℕ) → ℕ → List ℕ
halves_text base half n = half (n / base) ++ half (n % base)

-- 8 and 16 hexadecimal digits
unfoldable pub word_text : ℕ → List ℕ
word_text n = halves_text 65536 (halves_text 256 (halves_text 16 digit_text)) n

unfoldable pub long_text : ℕ → List ℕ
long_text n = halves_text (2 ^ 32) word_text n

-- a decimal number and what ends it
abbrev pub number_text : ℕ → ℕ → List ℕ
number_text end n = decimal n ++ end ∷ []

-- whether, and a space
abbrev pub flag_text : Bool → List ℕ
flag_text true = codes "1 "
flag_text false = codes "0 "

-- how long a file is, and its check
abbrev pub mark_text : FileMark → List ℕ
mark_text mark = number_text 32 mark.size ++ (word_text mark.check ++ 10 ∷ [])

abbrev pub line_text : Line → List ℕ
line_text l =
    codes "table "
    ++ (number_text 32 l.number ++ (number_text 32 l.commit ++ (number_text 32 l.folder ++ (number_text 32 l.recent
    ++ (number_text 32 l.limit ++ (flag_text l.by_row ++ (number_text 32 l.width ++ (l.name ++ 10 ∷ []))))))))

-- its line, the mark of its header, and those of its columns
abbrev pub table_text : Table → List ℕ
table_text t = line_text t.line ++ (mark_text t.header ++ flat_map mark_text t.columns)

abbrev pub head_text : ManifestHead → List ℕ
head_text h =
    codes "narthexmace 1\ndatabase "
    ++ ((long_text h.store ++ 32 ∷ []) ++ ((long_text h.salt ++ 10 ∷ [])
    ++ (codes "at " ++ (number_text 32 h.commit ++ (number_text 10 h.first_file
    ++ (codes "next " ++ (number_text 32 h.next_table ++ number_text 10 h.next_folder)))))))

-- all but the last line
abbrev pub body_text : Fields → List ℕ
body_text m = head_text m.head ++ flat_map table_text m.tables

-- the last line, by the check of all before it
abbrev pub end_text : ℕ → List ℕ
end_text check = codes "end " ++ (word_text check ++ 10 ∷ [])

-- bytes, and the last line that is theirs
abbrev pub with_end : List ℕ → List ℕ
with_end body = body ++ end_text (crc all_ones body)

abbrev pub spelling : Fields → List ℕ
spelling m = with_end (body_text m)

-- ---- what has a spelling

-- a name has 1 to 64 bytes, and none of them is a zero or ends a line
pub record IsName (name : List ℕ) : Type 0 where
  pub some : 1 ≤ length name
  pub short : length name ≤ 64
  pub plain : AllByRecursion (λ byte. (byte ≢ 0) × (byte ≢ 10)) name

pub record IsMark (mark : FileMark) : Type 0 where
  pub size : mark.size < 2 ^ 64
  pub check : mark.check < 2 ^ 32

pub record IsLine (l : Line) : Type 0 where
  pub number : l.number < 2 ^ 32
  pub commit : l.commit < 2 ^ 64
  pub folder : l.folder < 2 ^ 64
  pub recent : l.recent < 2 ^ 64
  pub limit : l.limit < 2 ^ 64
  pub width : l.width ≤ 32
  pub name : IsName l.name

-- it has as many columns as its line says
pub record IsTable (t : Table) : Type 0 where
  pub line : IsLine t.line
  pub header : IsMark t.header
  pub width : length t.columns ≡ t.line.width
  pub columns : AllByRecursion IsMark t.columns

pub record IsHead (h : ManifestHead) : Type 0 where
  pub store : h.store < 2 ^ 64
  pub salt : h.salt < 2 ^ 64
  pub commit : h.commit < 2 ^ 64
  pub first_file : h.first_file < 2 ^ 64
  pub next_table : h.next_table < 2 ^ 32
  pub next_folder : h.next_folder < 2 ^ 64

pub record IsManifest (m : Fields) : Type 0 where
  pub head : IsHead m.head
  pub tables : AllByRecursion IsTable m.tables

-- The declared columns of a table: a format of each column, of which one that has no bytes isn't declared. Their text, and its reading.
use Rattle.std.specs.Prelude.{◌≡◌, ◌≢◌, ◌≤◌, ℕ, zero, suc, ◌-◌, ◌^◌, ◌==◌, nat_lt, if◌then◌else◌, Option, Some, None, List, [], ◌∷◌, ◌++◌, length, map}
use Rattle.std.specs.Borrow.{Bor}
use Rattle.std.specs.List.{AllByRecursion}
use Rattle.manifest.specs.Manifest.{number_text, with_end}
use Rattle.manifest.specs.Reading.{◌>>=◌, Reader, checked, name_at, number_at}

-- ---- the spelling

-- a format has at most 63 bytes, and none of them is a zero or ends a line
pub record IsFormat (format : List ℕ) : Type 0 where
  pub short : length format ≤ 63
  pub plain : AllByRecursion (λ byte. (byte ≢ 0) × (byte ≢ 10)) format

-- the line of a column, where it is declared
abbrev pub format_line : ℕ → List ℕ → List ℕ
format_line column [] = []
format_line column (b ∷ format) = number_text 32 column ++ ((b ∷ format) ++ 10 ∷ [])

-- those of columns from a number on
abbrev pub types_lines : ℕ → List (List ℕ) → List ℕ
types_lines column [] = []
types_lines column (format ∷ formats) = format_line column format ++ types_lines (suc column) formats

abbrev pub types_spelling : List (List ℕ) → List ℕ
types_spelling formats = with_end (types_lines 0 formats)

-- formats of so many columns
pub record AreFormats (width : ℕ) (formats : List (List ℕ)) : Type 0 where
  pub count : length formats ≡ width
  pub each : AllByRecursion IsFormat formats

-- ---- reading

-- a format that isn't too long
abbrev pub short_format : List ℕ × List ℕ → Option (List ℕ × List ℕ)
short_format found = if nat_lt (length found.0) 64 then Some found else None

-- a column's format, by the number that stands in front: none where that is another column's
abbrev pub format_by : ℕ → List ℕ → Option (ℕ × List ℕ) → Option (List ℕ × List ℕ)
format_by column bytes None = Some ([], bytes)
format_by column bytes (Some found) = if found.0 == column then (name_at found.1 >>= short_format) else Some ([], bytes)

unfoldable pub format_at : ℕ → Reader (List ℕ)
format_at column bytes = format_by column bytes (number_at (2 ^ 64 - 1) 32 bytes)

-- the formats of so many columns from a number on
unfoldable pub formats_at : ℕ → ℕ → Reader (List (List ℕ))
formats_at zero column bytes = Some ([], bytes)
formats_at (suc count) column bytes =
    format_at column bytes >>= λ f. formats_at count (suc column) f.1 >>= λ fs. Some (f.0 ∷ fs.0, fs.1)

-- those that all of the bytes say
abbrev pub all_formats : List (List ℕ) × List ℕ → Option (List (List ℕ))
all_formats found = if length found.1 == 0 then Some found.0 else None

unfoldable pub types_of : ℕ → List ℕ → Option (List (List ℕ))
types_of width bytes = checked bytes >>= λ body. formats_at width 0 body >>= all_formats

-- ---- what an answer says

abbrev pub formats_now : List (Bor (List ℕ)) → List (List ℕ)
formats_now formats = map (λ f. f.now) formats

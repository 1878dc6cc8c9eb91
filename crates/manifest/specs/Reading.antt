-- Reading a manifest from the left: each reader answers what stands at the front of bytes, and the bytes after it; or nothing.
use Rattle.std.specs.Prelude.{◌≡◌, ℕ, zero, suc, ◌+◌, ◌-◌, ◌*◌, ◌^◌, ◌==◌, nat_lt, nat_le, Bool, ◌&&◌, if◌then◌else◌, Option, Some, None, Result, Ok, Err, List, [], ◌∷◌, length, take, drop, codes}
use Rattle.std.specs.Borrow.{Bor}
use Rattle.std.specs.Char.{is_ascii_digit}
use Rattle.std.specs.Int.{is_in_range}
use Rattle.std.specs.Option.{option_map}
use Rattle.std.specs.Str.{bytes_eq}
use Rattle.journal.specs.Check.{crc}
use Rattle.journal.specs.Header.{all_ones}
use Rattle.manifest.specs.Manifest.{Fields, Line, Table, manifest_now}
use Rattle.manifest.specs.declared.entries.FileMark.{FileMark}
use Rattle.manifest.specs.declared.entries.Manifest.{Manifest}
use Rattle.manifest.specs.declared.entries.ManifestHead.{ManifestHead}
use Rattle.manifest.specs.declared.fault.ManifestFault.{ManifestFault}
use Rattle.manifest.specs.declared.fault.ManifestFault.TheVariants.{Damaged, NoMemory}

infixl 10 ◌>>=◌
abbrev pub ◌>>=◌ : {A B : Type 0} → Option A → (A → Option B) → Option B
(Some x) >>= f = f x
None >>= f = None

abbrev pub Reader : Type 0 → Type 0
Reader A = List ℕ → Option (A × List ℕ)

-- ---- readers of readers

-- the bytes after a word that stands in front
abbrev pub after_word : List ℕ → List ℕ → Option (List ℕ)
after_word word bytes = if bytes_eq (take (length word) bytes) word then Some (drop (length word) bytes) else None

-- one, and then the other
abbrev pub both : {A B : Type 0} → Reader A → Reader B → Reader (A × B)
both a b bytes = a bytes >>= λ x. b x.1 >>= λ y. Some ((x.0, y.0), y.1)

-- what stands behind a word
abbrev pub behind : {A : Type 0} → List ℕ → Reader A → Reader A
behind word a bytes = after_word word bytes >>= λ rest. a rest

-- what stands before a word
abbrev pub before : {A : Type 0} → List ℕ → Reader A → Reader A
before word a bytes = a bytes >>= λ x. after_word word x.1 >>= λ rest. Some (x.0, rest)

-- what is said by what stands there
abbrev pub said : {A B : Type 0} → (A → B) → Reader A → Reader B
said f a bytes = a bytes >>= λ x. Some (f x.0, x.1)

-- ---- numbers and names

-- the number that digits write after those of another one, where it is at most so great; a byte that is no digit follows
unfoldable pub number_from : ℕ → ℕ → Reader ℕ
number_from most n [] = None
number_from most n (b ∷ bytes) =
    if is_ascii_digit b then (if nat_le (n * 10 + (b - 48)) most then number_from most (n * 10 + (b - 48)) bytes else None)
    else Some (n, b ∷ bytes)

-- a number without a zero before it
unfoldable pub digits_at : ℕ → Reader ℕ
digits_at most [] = None
digits_at most (b ∷ bytes) =
    if b == 48 then Some (0, bytes) else if is_ascii_digit b then number_from most 0 (b ∷ bytes) else None

-- and what ends it
unfoldable pub number_at : ℕ → ℕ → Reader ℕ
number_at most end = before (end ∷ []) (digits_at most)

unfoldable pub flag_at : Reader Bool
flag_at = said (λ n. n == 1) (number_at 1 32)

unfoldable pub digit_at : Reader ℕ
digit_at [] = None
digit_at (b ∷ bytes) =
    if is_in_range 48 57 b then Some (b - 48, bytes) else if is_in_range 97 102 b then Some (b - 87, bytes) else None

-- a number of two halves
abbrev pub halves_at : ℕ → Reader ℕ → Reader ℕ
halves_at base half = said (λ p. p.0 * base + p.1) (both half half)

unfoldable pub byte_at : Reader ℕ
byte_at = halves_at 16 digit_at

unfoldable pub short_at : Reader ℕ
short_at = halves_at 256 byte_at

unfoldable pub word_at : Reader ℕ
word_at = halves_at 65536 short_at

unfoldable pub long_at : Reader ℕ
long_at = halves_at (2 ^ 32) word_at

-- how many bytes stand before the end of the line, where no zero is among them
unfoldable pub line_end : List ℕ → Option ℕ
line_end [] = None
line_end (b ∷ bytes) = if b == 10 then Some 0 else if b == 0 then None else option_map suc (line_end bytes)

abbrev pub name_before : List ℕ → ℕ → Option (List ℕ × List ℕ)
name_before bytes n = if nat_le 1 n && nat_le n 64 then Some (take n bytes, drop (n + 1) bytes) else None

unfoldable pub name_at : Reader (List ℕ)
name_at bytes = line_end bytes >>= name_before bytes

-- ---- lines

abbrev pub mark_of : ℕ × ℕ → FileMark
mark_of p = record { size = p.0; check = p.1 }

unfoldable pub mark_at : Reader FileMark
mark_at = said mark_of (both (number_at (2 ^ 64 - 1) 32) (before (10 ∷ []) word_at))

-- so many marks
unfoldable pub marks_at : ℕ → Reader (List FileMark)
marks_at zero bytes = Some ([], bytes)
marks_at (suc n) bytes = said (λ p. p.0 ∷ p.1) (both mark_at (marks_at n)) bytes

abbrev pub line_of : ℕ × (ℕ × (ℕ × (ℕ × (ℕ × (Bool × (ℕ × List ℕ)))))) → Line
line_of (number, (commit, (folder, (recent, (limit, (by_row, (width, name))))))) =
    record {
      number = number;
      commit = commit;
      folder = folder;
      recent = recent;
      limit = limit;
      by_row = by_row;
      width = width;
      name = name;
    }

unfoldable pub line_at : Reader Line
line_at =
    behind (codes "table ")
    (said line_of
    (both (number_at (2 ^ 32 - 1) 32) (both (number_at (2 ^ 64 - 1) 32) (both (number_at (2 ^ 64 - 1) 32) (both (number_at (2 ^ 64 - 1) 32)
    (both (number_at (2 ^ 64 - 1) 32) (both flag_at (both (number_at 32 32) name_at))))))))

-- ---- tables

unfoldable pub table_at : Reader Table
table_at bytes =
    line_at bytes >>= λ l. mark_at l.1 >>= λ h. marks_at l.0.width h.1 >>= λ cs. Some (record { line = l.0; header = h.0; columns = cs.0 }, cs.1)

-- the tables that all of the bytes say, at most so many
unfoldable pub tables_at : ℕ → List ℕ → Option (List Table)
tables_at most [] = Some []
tables_at zero (b ∷ bytes) = None
tables_at (suc most) (b ∷ bytes) = table_at (b ∷ bytes) >>= λ t. tables_at most t.1 >>= λ ts. Some (t.0 ∷ ts)

abbrev pub head_of : ℕ × (ℕ × (ℕ × (ℕ × (ℕ × ℕ)))) → ManifestHead
head_of (store, (salt, (commit, (first_file, (next_table, next_folder))))) =
    record {
      store = store;
      salt = salt;
      commit = commit;
      first_file = first_file;
      next_table = next_table;
      next_folder = next_folder;
    }

unfoldable pub head_at : Reader ManifestHead
head_at =
    behind (codes "narthexmace 1\ndatabase ")
    (said head_of
    (both (before (32 ∷ []) long_at) (both (before (10 ∷ []) long_at)
    (behind (codes "at ") (both (number_at (2 ^ 64 - 1) 32) (both (number_at (2 ^ 64 - 1) 10)
    (behind (codes "next ") (both (number_at (2 ^ 32 - 1) 32) (number_at (2 ^ 64 - 1) 10)))))))))

-- all but the last line; a table has a byte at least
unfoldable pub body_of : List ℕ → Option Fields
body_of bytes = head_at bytes >>= λ h. tables_at (length h.1) h.1 >>= λ ts. Some (record { head = h.0; tables = ts })

-- the last line, and the check that it says
unfoldable pub end_at : Reader ℕ
end_at = behind (codes "end ") (before (10 ∷ []) word_at)

-- the bytes before the last line, where the check that it says is theirs
abbrev pub body_by : List ℕ → ℕ × List ℕ → Option (List ℕ)
body_by body e = if (length e.1 == 0) && (e.0 == crc all_ones body) then Some body else None

unfoldable pub checked : List ℕ → Option (List ℕ)
checked bytes =
    if nat_lt (length bytes) 13 then None
    else (end_at (drop (length bytes - 13) bytes) >>= body_by (take (length bytes - 13) bytes))

unfoldable pub manifest_of : List ℕ → Option Fields
manifest_of bytes = checked bytes >>= body_of

-- ---- what an answer says

-- what stands in front, seen by a view, and the bytes after it
abbrev pub seen : {A B : Type 0} → (A → B) → Option (A × Bor (List ℕ)) → Option (B × List ℕ)
seen view None = None
seen view (Some found) = Some (view found.0, found.1.now)

-- what was read, seen by a view, unless memory ran out
abbrev pub Fails : {B : Type 0} → ManifestFault → Option B → Type 0
Fails Damaged read = read ≡ None
Fails NoMemory read = Unit {0}

abbrev pub Gives : {A B : Type 0} → (A → B) → Result A ManifestFault → Option B → Type 0
Gives view (Ok x) read = read ≡ Some (view x)
Gives view (Err fault) read = Fails fault read

-- bytes that spell a manifest are read as it, unless memory runs out
abbrev pub IsReadAs : Fields → Result Manifest ManifestFault → Type 0
IsReadAs m (Ok read) = manifest_now read ≡ m
IsReadAs m (Err Damaged) = ⊥
IsReadAs m (Err NoMemory) = Unit {0}

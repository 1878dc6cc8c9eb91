-- Files, and the marks that a manifest has of them.
use Rattle.std.specs.Prelude.{ℕ, ◌+◌, ◌==◌, Bool, ◌&&◌, if◌then◌else◌, Option, Some, None, List, [], ◌∷◌, length}
use Rattle.journal.specs.Check.{crc}
use Rattle.journal.specs.Header.{all_ones}
use Rattle.manifest.specs.declared.entries.FileMark.{FileMark}

-- whether bytes are as many as a mark says, and have its check
abbrev pub has_mark : FileMark → List ℕ → Bool
has_mark mark bytes = (length bytes == mark.size) && (crc all_ones bytes == mark.check)

-- the first file that hasn't its mark, or has none, or isn't there; the files are counted from `at`
unfoldable pub first_damaged : ℕ → List FileMark → List (List ℕ) → Option ℕ
first_damaged at [] [] = None
first_damaged at [] (file ∷ files) = Some at
first_damaged at (mark ∷ marks) [] = Some at
first_damaged at (mark ∷ marks) (file ∷ files) = if has_mark mark file then first_damaged (at + 1) marks files else Some at

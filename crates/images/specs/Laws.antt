-- Marks and their journal, for all marks and every crash.
use Rattle.std.specs.Prelude.{◌≡◌, ◌≤◌, ℕ, ◌+◌, ◌^◌, None, Some, List, length, take}
use Rattle.journal.specs.Crash.{IsLeft}
use Rattle.journal.specs.Laws.{IsSeed}
use Rattle.journal.specs.Reading.{read_of}
use Rattle.images.specs.Mark.{AllFit, Fits, bad_mark, last_of, mark_in, marked_at, marked_from, number_in}
use Rattle.images.specs.Reading.{MayEnd}
use Rattle.images.specs.declared.mark.ImageMark.{ImageMark}

-- a mark that was written is read again
abbrev pub AMarkReadsBack : Type 0
AMarkReadsBack = (n : ℕ) (mark : ImageMark) → Fits mark → mark_in (marked_at n mark).payload ≡ Some mark

-- what is read of a journal of marks: the first of them, those that were safe among them; the ending is no fault, and neither is a mark
pub record ReadsAsMarks (seed : ℕ) (marks : List ImageMark) (safe : ℕ) (bytes : List ℕ) : Type 0 where
  pub whole : ℕ
  pub enough : safe ≤ whole
  pub inside : whole ≤ length marks
  pub logged : (read_of seed 1 bytes).logged ≡ marked_from 1 (take whole marks)
  pub ending : MayEnd (read_of seed 1 bytes).ending
  pub good : bad_mark (read_of seed 1 bytes).logged ≡ None
  -- and the last of a generation among them counts
  pub number : (generation : ℕ) → number_in generation (read_of seed 1 bytes).logged ≡ last_of generation (take whole marks)

-- Marks were made one after the other, and the device had said of the first so many that they were safe. Wherever a crash falls, these
-- are read, and maybe the next ones. The premise on checks is that of journals
abbrev pub ACrashLeavesTheMarks : Type 0
ACrashLeavesTheMarks =
    (seed : ℕ) (marks : List ImageMark) (safe : ℕ) (bytes : List ℕ) → IsSeed seed → 1 + length marks ≤ 2 ^ 63 → AllFit marks
    → IsLeft seed 1 (marked_from 1 marks) safe bytes → ReadsAsMarks seed marks safe bytes

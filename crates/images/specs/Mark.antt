-- A mark of an image, its bytes, and what frames say of a generation.
use Rattle.std.specs.Prelude.{ℕ, ◌+◌, ◌-◌, ◌<◌, ◌^◌, ◌==◌, if◌then◌else◌, Option, Some, None, List, [], ◌∷◌, ◌++◌, length}
use Rattle.std.specs.Option.{option_or}
use Rattle.std.specs.Int.{w32, w64, to_be_bytes}
use Rattle.journal.specs.Frame.{Logged}
use Rattle.journal.specs.Reading.{long_at, word_at}
use Rattle.images.specs.declared.mark.ImageMark.{ImageMark}

-- ---- one mark

-- its 12 bytes, the highest byte of each number first
abbrev pub mark_bytes : ImageMark → List ℕ
mark_bytes mark = to_be_bytes w32 mark.generation ++ to_be_bytes w64 mark.number

-- what is logged of it as the frame of this number: all marks before it are safe
abbrev pub marked_at : ℕ → ImageMark → Logged
marked_at n mark = record { number = n; synced = n - 1; payload = mark_bytes mark }

-- what has a spelling
pub record Fits (mark : ImageMark) : Type 0 where
  pub generation : mark.generation < 2 ^ 32
  pub number : mark.number < 2 ^ 64

-- the mark that a payload is, or none
unfoldable pub mark_in : List ℕ → Option ImageMark
mark_in payload =
    if length payload == 12 then Some (record { generation = word_at payload 0; number = long_at payload 4 }) else None

-- the number of a mark, where it is of the generation
abbrev pub number_of : ℕ → Option ImageMark → Option ℕ
number_of generation None = None
number_of generation (Some mark) = if mark.generation == generation then Some mark.number else None

-- ---- frames

-- the number of the last mark of a generation
abbrev pub number_in : ℕ → List Logged → Option ℕ
number_in generation [] = None
number_in generation (l ∷ logged) = option_or (number_in generation logged) (number_of generation (mark_in l.payload))

-- the number of the first frame whose payload is no mark
abbrev pub bad_mark : List Logged → Option ℕ
bad_mark [] = None
bad_mark (l ∷ logged) = if length l.payload == 12 then bad_mark logged else Some l.number

-- ---- marks, made one after the other

-- what is logged of them, the first as the frame of this number
abbrev pub marked_from : ℕ → List ImageMark → List Logged
marked_from next [] = []
marked_from next (mark ∷ marks) = marked_at next mark ∷ marked_from (next + 1) marks

-- each has a spelling
abbrev pub AllFit : List ImageMark → Type 0
AllFit [] = Unit {0}
AllFit (mark ∷ marks) = Fits mark × AllFit marks

-- the number of the last of a generation
abbrev pub last_of : ℕ → List ImageMark → Option ℕ
last_of generation [] = None
last_of generation (mark ∷ marks) = option_or (last_of generation marks) (number_of generation (Some mark))

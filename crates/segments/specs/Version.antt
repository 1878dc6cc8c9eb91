-- Journals of later versions: the four bytes in front, the version and the check have the same places in every version.
use Rattle.std.specs.Prelude.{ℕ, nat_lt, nat_le, ◌==◌, Bool, ◌&&◌, List, length, take}
use Rattle.journal.specs.Check.{crc}
use Rattle.journal.specs.Header.{all_ones}
use Rattle.journal.specs.Reading.{word_at}

-- whether bytes begin with a header of a version above 1, whose check is right
abbrev pub is_later_header : List ℕ → Bool
is_later_header bytes =
    nat_le 36 (length bytes) && (word_at bytes 0 == 0x4e4d4a31 && (nat_lt 1 (word_at bytes 4)
    && word_at bytes 32 == crc all_ones (take 32 bytes)))
